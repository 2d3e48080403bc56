use Rattle.std.proofs.Common.{◌<◌, ◌∙◌, length, ap, arith, sym, subst, inl, inr}
use Rattle.std.proofs.lemmas.Bool.{cases_eq}
use Rattle.label_search.specs.declared.plans.Place.{Place}
use Rattle.label_search.specs.Pending.{IsMoveInHand}
use Rattle.label_search.proofs.Growth.{front_further}
use Rattle.label_search.proofs.Advancing.{advanced_none, advanced_more, move_in_hand_more}
use Rattle.label_search.proofs.Lending.{behind_are, none_left, step_is, step_within}
use Rattle.label_search.proofs.firsts.leave_moves.Goals as goal

pub loop-number-init : goal.loop-number-init
loop-number-init c = record {
  search = c.requires.search;
  advanced = advanced_none c.args.plan.now c.args.search.now c.args.queue.now;
  done = λ tick held number early. absurd (omega arith);
  left = sym (c.again-left.ensures ∙ ap (λ (p : Place). p.moves) (c.place.view_is ∙ c.place_at-place.ensures));
}

pub go_on-requires-clause-number : goal.go_on-requires-clause-number
go_on-requires-clause-number c =
    step_within c.args.plan.now c.args.front.now.place c.loop-number.number c.loop-number.left c.loop-number.invariant.left c.in-Some.parts.step c.in-Some.parts.behind c.in-Some.ensures.some

pub go_on-requires-clause-step : goal.go_on-requires-clause-step
go_on-requires-clause-step c =
    step_is c.args.plan.now c.args.front.now.place c.loop-number.number c.loop-number.left c.loop-number.invariant.left c.in-Some.parts.step c.in-Some.parts.behind c.in-Some.ensures.some

pub go_on-requires-clause-part : goal.go_on-requires-clause-part
go_on-requires-clause-part c = front_further c.args.plan.now c.args.search.now c.loop-number.search c.args.front.now c.loop-number.invariant.advanced.further c.requires.front

pub loop-number-preserved : goal.loop-number-preserved
loop-number-preserved c =
    let step = c.in_ok-go_on.ensures.advanced in
    record {
      search = c.go_on.ensures.search;
      advanced = advanced_more c.args.plan.now c.args.search.now c.loop-number.search c.go_on.new.search c.args.queue.now c.loop-number.queue c.go_on.new.queue c.loop-number.invariant.advanced step;
      done = λ tick held number early. elim (cases_eq number c.loop-number.number) [
        | inl same ↦ subst (λ n. IsMoveInHand c.args.plan.now c.args.trip.now c.args.book.now c.go_on.new.search c.go_on.new.queue c.args.label c.args.front.now.place tick n) (sym same) (c.in_ok-go_on.ensures.done tick held)
        | inr differs ↦ move_in_hand_more c.loop-number.queue c.go_on.new.queue step.kept c.args.plan.now c.loop-number.search c.go_on.new.search step.further c.args.trip.now c.args.book.now c.args.label c.args.front.now.place tick number (c.loop-number.invariant.done tick held number (omega arith))
      ];
      left = behind_are c.args.plan.now c.args.front.now.place c.loop-number.number c.loop-number.left c.loop-number.invariant.left c.in-Some.parts.step c.in-Some.parts.behind c.in-Some.ensures.some;
    }

pub returns-in_default-clause-done : goal.returns-in_default-clause-done
returns-in_default-clause-done c tick held number inside =
    let none = none_left c.args.plan.now c.args.front.now.place c.loop-number.number c.loop-number.left c.loop-number.invariant.left c.in_default.ensures.none in
    c.loop-number.invariant.done tick held number (omega arith)

pub returns-clause-done : goal.returns-clause-done
returns-clause-done c tick held number inside =
    let within : number < length c.place.inside.moves = subst (λ (p : Place). number < length p.moves) (sym (c.place.view_is ∙ c.place_at-place.ensures)) inside in
    let most = c.most-number-end.ensures in
    c.loop-number.invariant.done tick held number (omega arith)
