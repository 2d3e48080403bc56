-- What is known of a place and of a move of a plan that are looked at.
use Rattle.std.proofs.Common.{◌≡◌, ℕ, ◌<◌, ◌∙◌, List, length, All, ap, subst, sym}
use Rattle.rail_types.specs.declared.paths.Claim.{Claim}
use Rattle.free_windows.specs.Starts.{IsPiece}
use Rattle.label_search.specs.declared.plans.Move.{Move}
use Rattle.label_search.specs.declared.plans.Place.{Place}
use Rattle.label_search.specs.declared.plans.Plan.{Plan}
use Rattle.label_search.specs.Free.{Book}
use Rattle.label_search.specs.Plans.{IsPlan, IsShort, IsTarget}
use Rattle.label_search.specs.Paths.{place_at, move_at}

module _ (plan : Plan) (book : Book) (is : IsPlan plan book) (at : ℕ) (inside : at < length plan.places) where
  module _ (place : Place) (same : place ≡ place_at plan at) where
    pub pieces_of_wait : (waits : List Claim) → waits ≡ place.waits → All (IsPiece (length book)) waits
    pieces_of_wait waits read = subst (All (IsPiece (length book))) (sym (read ∙ ap (λ (p : Place). p.waits) same)) (is.places at _ inside).waits

    pub dwell_of_wait : IsShort place.dwell
    dwell_of_wait = subst (λ (p : Place). IsShort p.dwell) (sym same) (is.places at _ inside).dwell

  module _ (number : ℕ) (within : number < length (place_at plan at).moves) (step : Move) (same : step ≡ move_at plan at number) where
    pub pieces_of_move : (pieces : List Claim) → pieces ≡ step.pieces → All (IsPiece (length book)) pieces
    pieces_of_move pieces read = subst (All (IsPiece (length book))) (sym (read ∙ ap (λ (m : Move). m.pieces) same)) ((is.places at _ inside).moves number _ within).pieces

    pub target_of_move : IsTarget (length plan.places) step.target
    target_of_move = subst (λ (m : Move). IsTarget (length plan.places) m.target) (sym same) ((is.places at _ inside).moves number _ within).target

    pub run_of_move : IsShort step.run
    run_of_move = subst (λ (m : Move). IsShort m.run) (sym same) ((is.places at _ inside).moves number _ within).run.0
