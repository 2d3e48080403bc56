use Rattle.std.proofs.Common.{◌<◌, ◌∙◌, length, ap, arith, sym, subst, inl, inr}
use Rattle.std.proofs.lemmas.Bool.{cases_eq}
use Rattle.label_search.specs.declared.plans.Place.{Place}
use Rattle.label_search.specs.Search.{IsMoveExplored}
use Rattle.label_search.proofs.Growth.{further_none, further_more, move_further}
use Rattle.label_search.proofs.Lending.{behind_are, none_left, step_is, step_within}
use Rattle.label_search.proofs.searches.explore_moves.Goals as goal

pub loop-number-init : goal.loop-number-init
loop-number-init c = record {
  search = c.requires.search;
  further = further_none _;
  explored = λ tick held number early. absurd (omega arith);
  left = sym (c.again-left.ensures ∙ ap (λ (p : Place). p.moves) (c.place.view_is ∙ c.requires.place));
}

pub explore_move-requires-clause-number : goal.explore_move-requires-clause-number
explore_move-requires-clause-number c =
    step_within c.args.plan.now c.args.front.now.place c.loop-number.number c.loop-number.left c.loop-number.invariant.left c.in-Some.parts.step c.in-Some.parts.behind c.in-Some.ensures.some

pub explore_move-requires-clause-step : goal.explore_move-requires-clause-step
explore_move-requires-clause-step c =
    step_is c.args.plan.now c.args.front.now.place c.loop-number.number c.loop-number.left c.loop-number.invariant.left c.in-Some.parts.step c.in-Some.parts.behind c.in-Some.ensures.some

pub returns-in_err-explore_move-clause-further : goal.returns-in_err-explore_move-clause-further
returns-in_err-explore_move-clause-further c = further_more _ _ _ c.loop-number.invariant.further c.in_err-explore_move.ensures.further

pub loop-number-preserved : goal.loop-number-preserved
loop-number-preserved c = record {
  search = c.explore_move.ensures.search;
  further = further_more _ _ _ c.loop-number.invariant.further c.explore_move.ensures.further;
  explored = λ tick held number early. elim (cases_eq number c.loop-number.number) [
    | inl same ↦ subst (λ n. IsMoveExplored c.args.plan.now c.args.trip.now c.args.book.now c.args.front.now.place tick n c.explore_move.new.search) (sym same) (c.in_ok-explore_move.ensures.explored tick held)
    | inr differs ↦ move_further c.args.plan.now c.args.trip.now c.args.book.now _ _ c.explore_move.ensures.further c.args.front.now.place tick number (c.loop-number.invariant.explored tick held number (omega arith))
  ];
  left = behind_are c.args.plan.now c.args.front.now.place c.loop-number.number c.loop-number.left c.loop-number.invariant.left c.in-Some.parts.step c.in-Some.parts.behind c.in-Some.ensures.some;
}

pub returns-in_default-clause-explored : goal.returns-in_default-clause-explored
returns-in_default-clause-explored c tick held number inside =
    let none = none_left c.args.plan.now c.args.front.now.place c.loop-number.number c.loop-number.left c.loop-number.invariant.left c.in_default.ensures.none in
    c.loop-number.invariant.explored tick held number (omega arith)

pub returns-clause-explored : goal.returns-clause-explored
returns-clause-explored c tick held number inside =
    let within : number < length c.place.inside.moves = subst (λ (p : Place). number < length p.moves) (sym (c.place.view_is ∙ c.requires.place)) inside in
    let most = c.most-number-end.ensures in
    c.loop-number.invariant.explored tick held number (omega arith)
