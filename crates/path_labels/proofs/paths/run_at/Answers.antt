use Rattle.std.proofs.Common.{◌≡◌, ◌∙◌, sym, ap, get_or, ◌+ℤ◌}
use Rattle.std.proofs.lemmas.List.{get_or_default}
use Rattle.running_time.specs.declared.edges.Edge.TheVariants.{Still}
use Rattle.stair_pieces.specs.Places.{stands_after}
use Rattle.tail_states.specs.declared.moves.Move.{Move as ListedMove}
use Rattle.tail_states.specs.declared.moves.Next.TheVariants.{End as Ends}
use Rattle.label_search.specs.declared.plans.Move.{Move}
use Rattle.label_search.specs.declared.plans.Place.{Place}
use Rattle.label_search.specs.Paths.{place_at, move_at}
use Rattle.path_labels.proofs.paths.run_at.Goals as goal

pub returns : goal.returns
returns c =
    let plan = c.args.plan.now in
    let k = c.args.step.now.number in
    let place : c.index-as_slice-number.result ≡ place_at plan c.args.number = c.index-as_slice-number.is ∙ ap (λ places. get_or places c.args.number c.index-as_slice-number.result) c.as_slice.ensures ∙ get_or_default plan.places c.args.number _ _ c.requires.number in
    let moves = c.as_slice-2.ensures ∙ ap (λ (p : Place). p.moves) (sym c.index-as_slice-number.is ∙ place) in
    let planned : c.index-as_slice-step.result ≡ move_at plan c.args.number k = c.index-as_slice-step.is ∙ ap (λ moves. get_or moves k c.index-as_slice-step.result) moves ∙ get_or_default (place_at plan c.args.number).moves k _ _ c.requires.step.0 in
    let one = ap (λ moves. get_or moves k (record { step = record { block = 0; exit = Still }; next = Ends })) c.moves_at.ensures in
    let block = c.run_of_step.ensures.block ∙ ap (λ (m : ListedMove). m.step.block) one in
    let stops = c.run_of_step.ensures.stops ∙ ap (λ (m : ListedMove). stands_after m.step.exit) one in
    let leave = c.run_of_step.ensures.leave ∙ ap (λ (m : Move). c.args.step.now.enter +ℤ m.run) planned in
    λ j. record { block = block j; enter = c.run_of_step.ensures.enter j; leave = leave j; stops = stops j }
