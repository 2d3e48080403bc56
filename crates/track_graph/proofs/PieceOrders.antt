-- Pieces begin one behind the other.
use Rattle.std.proofs.Common.{◌≡◌, ℕ, zero, suc, ◌+◌, ◌<◌, ◌≤◌, List, [], ◌∷◌, length, get_or, refl, sym, subst, arith}
use Rattle.std.proofs.lemmas.List.Kept.{AllPairs-from_increasing}
use Rattle.std.specs.List.{All, AllPairs}
use Rattle.std.specs.List.Sorted.{IsNonDecreasingBy}
use Rattle.track_graph.specs.declared.pieces.Piece.{Piece}
use Rattle.track_graph.specs.declared.stands.Stand.{Stand}
use Rattle.track_graph.specs.Pieces.{ArePieces, pieces_from}

first_begin : (track begin : ℕ) (cuts : List ℕ) (length_m : ℕ) (d : Piece) → (get_or (pieces_from track begin cuts length_m) 0 d).begin ≡ begin
first_begin track begin [] length_m d = refl
first_begin track begin (cut ∷ cuts) length_m d = refl

begins_rise : (track begin : ℕ) (cuts : List ℕ) (length_m : ℕ) → All (λ cut. begin ≤ cut) cuts → AllPairs (λ x y. x < y) cuts → IsNonDecreasingBy (λ (piece : Piece). piece.begin) (pieces_from track begin cuts length_m)
begins_rise track begin [] length_m low up zero zero d less within = omega arith
begins_rise track begin [] length_m low up (suc i) zero d less within = absurd (omega arith)
begins_rise track begin [] length_m low up i (suc j) d less within = absurd (omega arith)
begins_rise track begin (cut ∷ cuts) length_m low up zero zero d less within = omega arith
begins_rise track begin (cut ∷ cuts) length_m low up (suc i) zero d less within = absurd (omega arith)
begins_rise track begin (cut ∷ cuts) length_m low up zero (suc j) d less within =
    let rest = begins_rise track cut cuts length_m (λ i e h. (let step = up 0 (suc i) e (omega arith) (omega arith) in omega arith)) (λ i k e h w. up (suc i) (suc k) e (omega arith) (omega arith)) zero j d (omega arith) (omega arith) in
    let first = first_begin track cut cuts length_m d in
    let here = low 0 0 (omega arith) in
    omega arith
begins_rise track begin (cut ∷ cuts) length_m low up (suc i) (suc j) d less within =
    begins_rise track cut cuts length_m (λ k e h. (let step = up 0 (suc k) e (omega arith) (omega arith) in omega arith)) (λ k l e h w. up (suc k) (suc l) e (omega arith) (omega arith)) i j d (omega arith) (omega arith)

pub pieces_rise : (track length_m : ℕ) (stands : List Stand) (pieces : List Piece) → ArePieces track length_m stands pieces → IsNonDecreasingBy (λ (piece : Piece). piece.begin) pieces
pieces_rise track length_m stands pieces (cuts, are, is) =
    subst (IsNonDecreasingBy (λ (piece : Piece). piece.begin)) (sym is)
    (begins_rise track 0 cuts length_m (λ i d h. omega arith) (AllPairs-from_increasing cuts are.rise))

some_piece : (track begin : ℕ) (cuts : List ℕ) (length_m : ℕ) → 0 < length (pieces_from track begin cuts length_m)
some_piece track begin [] length_m = omega arith
some_piece track begin (cut ∷ cuts) length_m = omega arith

pub pieces_some : (track length_m : ℕ) (stands : List Stand) (pieces : List Piece) → ArePieces track length_m stands pieces → 0 < length pieces
pieces_some track length_m stands pieces (cuts, are, is) =
    subst (λ (ps : List Piece). 0 < length ps) (sym is) (some_piece track 0 cuts length_m)
