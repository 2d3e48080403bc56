use Rattle.std.proofs.Common.{refl, sym, subst}
use Rattle.label_search.specs.Labels.{IsCovered, IsGrown, IsPartOf}
use Rattle.label_search.proofs.Covers.{covered_kept, grown_none, grown_one, reached_when_seen}
use Rattle.label_search.proofs.labels.keep.Goals as goal

pub returns-then-not-is_new-clause-reached : goal.returns-then-not-is_new-clause-reached
returns-then-not-is_new-clause-reached c tick held = reached_when_seen _ _ _ _ _ c.requires.covered (c.requires.seen c.if-not-is_new.true tick held)

pub returns-in_err-push-clause-covered : goal.returns-in_err-push-clause-covered
returns-in_err-push-clause-covered c = subst (λ items. IsCovered items c.args.wanted.now.place c.args.wanted.now.ready c.args.seen.now) (sym c.in_err-push.ensures.items) c.requires.covered

pub returns-clause-covered : goal.returns-clause-covered
returns-clause-covered c = subst (λ items. IsCovered items c.args.wanted.now.place c.args.wanted.now.ready c.insert.new.self) (sym c.in_ok-push.ensures.items) (covered_kept _ (record { place = c.args.wanted.now.place; ready = c.args.wanted.now.ready; ticks = c.args.ticks.now; origin = c.args.wanted.now.origin }) _ _ c.requires.covered c.insert.ensures.others)

pub returns-then-not-is_new-clause-covered : goal.returns-then-not-is_new-clause-covered
returns-then-not-is_new-clause-covered c = c.requires.covered

pub returns-then-not-is_new-clause-grown : goal.returns-then-not-is_new-clause-grown
returns-then-not-is_new-clause-grown c = grown_none (IsPartOf c.args.wanted.now) _

pub returns-in_err-push-clause-grown : goal.returns-in_err-push-clause-grown
returns-in_err-push-clause-grown c = subst (IsGrown (IsPartOf c.args.wanted.now) c.args.labels.now.items) (sym c.in_err-push.ensures.items) (grown_none (IsPartOf c.args.wanted.now) _)

pub returns-clause-grown : goal.returns-clause-grown
returns-clause-grown c = grown_one (IsPartOf c.args.wanted.now) _ _ (record { place = c.args.wanted.now.place; ready = c.args.wanted.now.ready; ticks = c.args.ticks.now; origin = c.args.wanted.now.origin }) c.in_ok-push.ensures.items (record {
  place = refl;
  ready = refl;
  origin = refl;
  some = c.requires.some;
  ticks = c.requires.part;
})
