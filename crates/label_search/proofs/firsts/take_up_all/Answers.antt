use Rattle.std.proofs.Common.{◌∙◌, length, refl, subst, sym}
use Rattle.label_search.specs.Limits.{IsConsistent}
use Rattle.label_search.proofs.Covers.{reached_more}
use Rattle.label_search.proofs.Handling.{all_in_hand}
use Rattle.label_search.proofs.Leaving.{labels_in_hand}
use Rattle.label_search.proofs.firsts.take_up_all.Goals as goal

pub loop-init : goal.loop-init
loop-init c = record {
  search = c.requires.search;
  started = c.requires.started;
  limits = refl;
  in_hand = c.requires.in_hand;
}

pub loop-preserved : goal.loop-preserved
loop-preserved c =
    let old = c.loop.invariant in
    let step = c.in_ok-take_up.ensures.advanced in
    let limits = step.further.limits ∙ old.limits in
    let consistent : IsConsistent c.args.plan.now c.take_up.new.search.limits.ahead = subst (λ l. IsConsistent c.args.plan.now l.ahead) (sym limits) c.requires.consistent in
    record {
      search = c.take_up.ensures.search;
      started = λ enter departs low high. reached_more (λ l. Unit {0}) _ _ _ _ enter step.further.grown (old.started enter departs low high);
      limits = limits;
      in_hand = all_in_hand c.args.plan.now c.args.trip.now c.args.book.now c.loop.search c.take_up.new.search step.further c.loop.queue c.pop_before.new.self c.take_up.new.queue c.in-Some.due c.in-Some.ensures.some step.kept c.in_ok-take_up.ensures.done
          (labels_in_hand c.args.plan.now c.args.trip.now c.args.book.now c.requires.plan c.take_up.new.search c.take_up.ensures.search consistent c.take_up.new.queue (length c.loop.search.labels.labels) step.fresh)
          old.in_hand;
    }
