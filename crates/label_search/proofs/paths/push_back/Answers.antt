use Rattle.std.proofs.Common.{[], ◌∷◌, ◌++◌, ◌∙◌, sym, subst, ap, take, reverse}
use Rattle.std.proofs.lemmas.List.{reverse-append}
use Rattle.label_search.specs.Plans.{IsShort}
use Rattle.label_search.specs.Search.{IsCome}
use Rattle.label_search.proofs.Rebuilding.{IsRebuilt, rebuilt_end, end_is_short, at_is_short, come_of, wait_back, move_back, starts_path}
use Rattle.label_search.proofs.paths.push_back.Goals as goal

pub entered-at-requires-clause-tick : goal.entered-at-requires-clause-tick
entered-at-requires-clause-tick c = subst IsShort (sym c.end_of.ensures) (end_is_short c.args.plan.now c.args.trip.now c.args.book.now c.requires.plan c.args.search.now c.requires.search c.args.ending.now c.requires.ending)

pub returns-in-Start-clause-path : goal.returns-in-Start-clause-path
returns-in-Start-clause-path c =
    let come = subst (λ origin. IsCome c.args.plan.now c.args.trip.now c.args.book.now (take c.source_of-source.result.number c.args.search.now.labels.labels) origin c.loop-arrivals.at.place c.loop-arrivals.at.ready c.loop-arrivals.at.tick) c.in-Start.is (come_of c.args.plan.now c.args.trip.now c.args.book.now c.requires.plan c.args.search.now c.requires.search c.loop-arrivals.until c.loop-arrivals.invariant.inside c.loop-arrivals.at c.source_of-source.result c.source_of-source.ensures) in
    (starts_path c.args.plan.now c.args.trip.now c.args.book.now c.args.ending.now.arrive.from c.loop-arrivals.at.place c.loop-arrivals.at.ready c.loop-arrivals.at.tick _ come.0 come.1 come.2 c.loop-arrivals.invariant.follows).0

pub returns-in-Start-clause-fits : goal.returns-in-Start-clause-fits
returns-in-Start-clause-fits c =
    let come = subst (λ origin. IsCome c.args.plan.now c.args.trip.now c.args.book.now (take c.source_of-source.result.number c.args.search.now.labels.labels) origin c.loop-arrivals.at.place c.loop-arrivals.at.ready c.loop-arrivals.at.tick) c.in-Start.is (come_of c.args.plan.now c.args.trip.now c.args.book.now c.requires.plan c.args.search.now c.requires.search c.loop-arrivals.until c.loop-arrivals.invariant.inside c.loop-arrivals.at c.source_of-source.result c.source_of-source.ensures) in
    (starts_path c.args.plan.now c.args.trip.now c.args.book.now c.args.ending.now.arrive.from c.loop-arrivals.at.place c.loop-arrivals.at.ready c.loop-arrivals.at.tick _ come.0 come.1 come.2 c.loop-arrivals.invariant.follows).1

pub returns-in-Start-clause-arrival : goal.returns-in-Start-clause-arrival
returns-in-Start-clause-arrival c =
    let come = subst (λ origin. IsCome c.args.plan.now c.args.trip.now c.args.book.now (take c.source_of-source.result.number c.args.search.now.labels.labels) origin c.loop-arrivals.at.place c.loop-arrivals.at.ready c.loop-arrivals.at.tick) c.in-Start.is (come_of c.args.plan.now c.args.trip.now c.args.book.now c.requires.plan c.args.search.now c.requires.search c.loop-arrivals.until c.loop-arrivals.invariant.inside c.loop-arrivals.at c.source_of-source.result c.source_of-source.ensures) in
    (starts_path c.args.plan.now c.args.trip.now c.args.book.now c.args.ending.now.arrive.from c.loop-arrivals.at.place c.loop-arrivals.at.ready c.loop-arrivals.at.tick _ come.0 come.1 come.2 c.loop-arrivals.invariant.follows).2

pub loop-arrivals-preserved-in-Wait : goal.loop-arrivals-preserved-in-Wait
loop-arrivals-preserved-in-Wait c =
    let come = subst (λ origin. IsCome c.args.plan.now c.args.trip.now c.args.book.now (take c.source_of-source.result.number c.args.search.now.labels.labels) origin c.loop-arrivals.at.place c.loop-arrivals.at.ready c.loop-arrivals.at.tick) c.in-Wait.is (come_of c.args.plan.now c.args.trip.now c.args.book.now c.requires.plan c.args.search.now c.requires.search c.loop-arrivals.until c.loop-arrivals.invariant.inside c.loop-arrivals.at c.source_of-source.result c.source_of-source.ensures) in
    wait_back c.args.plan.now c.args.trip.now c.args.book.now c.requires.plan c.args.search.now c.requires.search c.args.ending.now.arrive.from c.loop-arrivals.until c.loop-arrivals.at _ c.loop-arrivals.invariant c.source_of-source.result.number c.source_of-source.ensures.before c.in-Wait.arrivals come _ c.place_at.ensures c.came-at.result c.came-at.ensures.place c.came-at.ensures.ready c.came-at.ensures.tick

pub entered-at-requires-in-Move-clause-tick : goal.entered-at-requires-in-Move-clause-tick
entered-at-requires-in-Move-clause-tick c = (at_is_short c.args.plan.now c.args.trip.now c.args.book.now c.requires.plan c.args.search.now c.requires.search c.args.ending.now.arrive.from c.loop-arrivals.until c.loop-arrivals.at _ c.loop-arrivals.invariant).1

pub loop-arrivals-preserved : goal.loop-arrivals-preserved
loop-arrivals-preserved c =
    let come = subst (λ origin. IsCome c.args.plan.now c.args.trip.now c.args.book.now (take c.source_of-source.result.number c.args.search.now.labels.labels) origin c.loop-arrivals.at.place c.loop-arrivals.at.ready c.loop-arrivals.at.tick) c.in-Move.is (come_of c.args.plan.now c.args.trip.now c.args.book.now c.requires.plan c.args.search.now c.requires.search c.loop-arrivals.until c.loop-arrivals.invariant.inside c.loop-arrivals.at c.source_of-source.result c.source_of-source.ensures) in
    move_back c.args.plan.now c.args.trip.now c.args.book.now c.requires.plan c.args.search.now c.requires.search c.args.ending.now.arrive.from c.loop-arrivals.until c.loop-arrivals.at _ c.loop-arrivals.invariant c.source_of-source.result.number c.source_of-source.ensures.before c.in-Move.from c.in-Move.ready c.in-Move.number come _ c.move_at.ensures c.entered-at-in-Move.result c.entered-at-in-Move.ensures.place c.entered-at-in-Move.ensures.ready c.entered-at-in-Move.ensures.tick c.step_of-in-Move.result c.step_of-in-Move.ensures.number c.step_of-in-Move.ensures.enter _ (ap reverse c.in_ok-push-in-Move.ensures.items ∙ reverse-append c.loop-arrivals.steps.items (c.step_of-in-Move.result ∷ []))

pub came-at-requires-clause-tick : goal.came-at-requires-clause-tick
came-at-requires-clause-tick c = (at_is_short c.args.plan.now c.args.trip.now c.args.book.now c.requires.plan c.args.search.now c.requires.search c.args.ending.now.arrive.from c.loop-arrivals.until c.loop-arrivals.at _ c.loop-arrivals.invariant).1

pub loop-arrivals-init : goal.loop-arrivals-init
loop-arrivals-init c =
    let one = c.in_ok-push.ensures.items ∙ ap (λ steps. steps ++ c.step_of.result ∷ []) c.requires.none in
    subst (λ until. IsRebuilt c.args.plan.now c.args.trip.now c.args.book.now c.args.search.now c.args.ending.now.arrive.from until c.entered-at.result (reverse c.push.new.self.items)) (sym c.len-until.ensures)
    (rebuilt_end c.args.plan.now c.args.trip.now c.args.book.now c.requires.plan c.args.search.now c.requires.search c.args.ending.now c.requires.ending _ c.move_at-step.ensures c.end_of.result c.entered-at.result c.end_of.ensures c.entered-at.ensures.place c.entered-at.ensures.ready c.entered-at.ensures.tick c.step_of.result c.step_of.ensures.number c.step_of.ensures.enter (reverse c.push.new.self.items) (ap reverse one))
