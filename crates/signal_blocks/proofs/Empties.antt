-- Where no two neighbouring cuts lie at one metre, each block has a length and a cell.
use Rattle.std.proofs.Common.{◌≡◌, ℕ, zero, suc, ◌+◌, ◌-◌, ◌<◌, ◌≤◌, Bool, true, false, List, [], ◌∷◌, length, Option, Some, None, slice_index, slice_index_or, nat_eq, if◌then◌else◌, refl, sym, ◌∙◌, arith, option_map, ap}
use Rattle.std.specs.List.{filter_map, range_with_len, cons_option}
use Rattle.std.proofs.lemmas.Bool.{eqb-false}
use Rattle.rail_types.specs.declared.tracks.Cell.{Cell}
use Rattle.signal_blocks.specs.Cells.{cell_at, cells_between}
use Rattle.signal_blocks.specs.Cuts.{metres_at, cut_places}
use Rattle.signal_blocks.specs.Faults.{empty_behind, empty_in}
use Rattle.route_walk.specs.declared.walks.Passed.{Passed}
use Rattle.route_walk.specs.declared.walks.Walk.{Walk}

none_if : {A : Type 0} (b : Bool) (x : A) (rest : Option A) → (if b then Some x else rest) ≡ None → (b ≡ false) × (rest ≡ None)
none_if true x rest e = absurd (cc e)
none_if false x rest e = (refl, e)

apart_behind : (passed : List Passed) (first : ℕ) (cuts : List ℕ) → empty_behind passed (Some (metres_at passed first)) cuts ≡ None → (k : ℕ) → k + 1 < length (first ∷ cuts) → metres_at passed (slice_index (first ∷ cuts) (k + 1)) ≡ metres_at passed (slice_index (first ∷ cuts) k) → ⊥
apart_behind passed first [] e k lt = absurd (omega (arith, lt))
apart_behind passed first (cut ∷ cuts) e zero lt =
    let parts = none_if (nat_eq (metres_at passed cut) (metres_at passed first)) (metres_at passed cut) (empty_behind passed (Some (metres_at passed cut)) cuts) e in
    eqb-false (metres_at passed cut) (metres_at passed first) parts.0
apart_behind passed first (cut ∷ cuts) e (suc k) lt =
    let parts = none_if (nat_eq (metres_at passed cut) (metres_at passed first)) (metres_at passed cut) (empty_behind passed (Some (metres_at passed cut)) cuts) e in
    let on : suc k + 1 ≡ suc (k + 1) = omega arith in
    rw on (apart_behind passed cut cuts parts.1 k (omega (arith, lt)))

apart_from : (passed : List Passed) (cuts : List ℕ) → empty_behind passed None cuts ≡ None → (k : ℕ) → k + 1 < length cuts → metres_at passed (slice_index cuts (k + 1)) ≡ metres_at passed (slice_index cuts k) → ⊥
apart_from passed [] e k lt = absurd (omega (arith, lt))
apart_from passed (first ∷ cuts) e k lt = apart_behind passed first cuts e k lt

pub cuts_apart : (sights : List (Option ℕ)) (walk : Walk) → empty_in sights walk ≡ None → (k : ℕ) → k + 1 < length (cut_places sights walk.passed) → metres_at walk.passed (slice_index (cut_places sights walk.passed) (k + 1)) ≡ metres_at walk.passed (slice_index (cut_places sights walk.passed) k) → ⊥
cuts_apart sights walk e k lt = apart_from walk.passed (cut_places sights walk.passed) e k lt

none_here : {X : Type 0} (here : Option X) (xs : List X) → cons_option here xs ≡ [] → (here ≡ None) × (xs ≡ [])
none_here None xs e = (refl, e)
none_here (Some x) xs e = absurd (cc e)

no_zone : (f : ℕ → Cell) (zone : Option ℕ) → option_map f zone ≡ None → zone ≡ None
no_zone f None e = refl
no_zone f (Some zone) e = absurd (cc e)

-- where a walk passes no zone between two places, they lie at one metre
still : (walk : Walk) (from to : ℕ) → ((k : ℕ) → k + 1 < length walk.passed → slice_index_or walk.zones k None ≡ None → metres_at walk.passed k ≡ metres_at walk.passed (k + 1))
    → (a n : ℕ) → a + n < length walk.passed → filter_map (cell_at walk from to) (range_with_len a n) ≡ [] → metres_at walk.passed a ≡ metres_at walk.passed (a + n)
still walk from to is a zero lt e = let same : a ≡ a + 0 = omega arith in ap (metres_at walk.passed) same
still walk from to is a (suc n) lt e =
    let parts = none_here (cell_at walk from to a) (filter_map (cell_at walk from to) (range_with_len (a + 1) n)) e in
    let on : a + 1 + n ≡ a + suc n = omega arith in
    is a (omega (arith, lt)) (no_zone _ _ parts.0) ∙ still walk from to is (a + 1) n (omega (arith, lt)) parts.1 ∙ ap (metres_at walk.passed) on

pub some_cell : (walk : Walk) (from to : ℕ) → ((k : ℕ) → k + 1 < length walk.passed → slice_index_or walk.zones k None ≡ None → metres_at walk.passed k ≡ metres_at walk.passed (k + 1)) → from ≤ to → to < length walk.passed
    → (metres_at walk.passed to ≡ metres_at walk.passed from → ⊥) → cells_between walk from to ≡ [] → ⊥
some_cell walk from to is le lt apart e =
    let on : from + (to - from) ≡ to = omega (arith, le) in
    apart (sym (still walk from to is from (to - from) (omega (arith, le, lt)) e ∙ ap (metres_at walk.passed) on))
