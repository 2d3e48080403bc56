-- Lists changed one element after another, and rules asked one after another.
use Rattle.std.proofs.Common.{◌≡◌, ℕ, zero, suc, ◌<◌, ◌≤◌, ◌+◌, true, false, if◌then◌else◌, List, [], ◌∷◌, Some, map, drop, length, get_or, set, ap, sym, ◌∙◌, refl, arith}
use Rattle.std.proofs.lemmas.List.{length-map, map-set}
use Rattle.std.proofs.Math.ListN.{get_or-map}
use Rattle.admission_rules.specs.declared.rules.Wish.{Wish}
use Rattle.admission_rules.specs.Senses.{Sense}
use Rattle.admission_rules.specs.Ruled.{Ruled, first_no, ruled}

-- ---- elements changed

-- the list with its first elements changed, so many of them
abbrev pub so_far : {X : Type 0} → (X → X) → ℕ → List X → List X
so_far f zero xs = xs
so_far f (suc i) [] = []
so_far f (suc i) (x ∷ xs) = f x ∷ so_far f i xs

module _ {X : Type 0} (f : X → X) where
  pub far_all : (xs : List X) (i : ℕ) → length xs ≤ i → so_far f i xs ≡ map f xs
  far_all [] zero past = refl
  far_all [] (suc i) past = refl
  far_all (x ∷ xs) zero past = absurd (omega arith)
  far_all (x ∷ xs) (suc i) past = ap (λ l. f x ∷ l) (far_all xs i (omega arith))

  pub far_next : (xs : List X) (i : ℕ) (d : X) → i < length xs
      → set (so_far f i xs) i (f (get_or xs i d)) ≡ so_far f (suc i) xs
  far_next [] i d below = absurd (omega arith)
  far_next (x ∷ xs) zero d below = refl
  far_next (x ∷ xs) (suc i) d below = ap (λ l. f x ∷ l) (far_next xs i d (omega arith))

  pub far_here : (xs : List X) (i : ℕ) (d : X) → i < length xs → get_or (so_far f i xs) i d ≡ get_or xs i d
  far_here [] i d below = absurd (omega arith)
  far_here (x ∷ xs) zero d below = refl
  far_here (x ∷ xs) (suc i) d below = far_here xs i d (omega arith)

-- ---- rules asked

pub goes_on : (wish : Wish) (rules : List Ruled) (i : ℕ) (d : Ruled) → i < length rules
    → (get_or rules i d).sense.allows (get_or rules i d).numbers wish ≡ true
    → first_no (drop (suc i) rules) wish ≡ first_no (drop i rules) wish
goes_on wish [] i d below allowed = absurd (omega arith)
goes_on wish (rule ∷ rules) zero d below allowed =
    sym (ap (λ b. if b then first_no rules wish else Some rule.sense.name) allowed)
goes_on wish (rule ∷ rules) (suc i) d below allowed = goes_on wish rules i d (omega arith) allowed

pub stops : (wish : Wish) (rules : List Ruled) (i : ℕ) (d : Ruled) → i < length rules
    → (get_or rules i d).sense.allows (get_or rules i d).numbers wish ≡ false
    → first_no (drop i rules) wish ≡ Some (get_or rules i d).sense.name
stops wish [] i d below denied = absurd (omega arith)
stops wish (rule ∷ rules) zero d below denied =
    ap (λ b. if b then first_no rules wish else Some rule.sense.name) denied
stops wish (rule ∷ rules) (suc i) d below denied = stops wish rules i d (omega arith) denied

-- ---- rules of a kind, by how they stand

module _ {L : Type 0} (one : L → Ruled) where
  pub next_told : (change : Ruled → Ruled) (s : List L) (xs : List Ruled) (i : ℕ) (item new : L)
      → map one s ≡ so_far change i xs → i < length xs → get_or s i item ≡ item
      → one new ≡ change (one item) → map one (set s i new) ≡ so_far change (i + 1) xs
  next_told change s xs i item new so below here told =
      let d : Ruled = one item in
      let its : get_or xs i d ≡ d =
      sym (far_here change xs i d below) ∙ ap (λ l. get_or l i d) (sym so) ∙ get_or-map one s i item ∙ ap one here in
      let more : suc i ≡ i + 1 = omega arith in
      map-set one s i new ∙ ap (λ l. set l i (one new)) so
      ∙ ap (set (so_far change i xs) i) (told ∙ ap change (sym its)) ∙ far_next change xs i d below
      ∙ ap (λ n. so_far change n xs) more

  module _ (wish : Wish) (s : List L) (i : ℕ) (item : L) (below : i < length s) (here : get_or s i item ≡ item)
      (so : first_no (drop i (map one s)) wish ≡ first_no (map one s) wish) where
    its_rule : get_or (map one s) i (one item) ≡ one item
    its_rule = get_or-map one s i item ∙ ap one here

    within : i < length (map one s)
    within = omega (arith, length-map s one)

    pub next_asked : (one item).sense.allows (one item).numbers wish ≡ true
        → first_no (drop (i + 1) (map one s)) wish ≡ first_no (map one s) wish
    next_asked allowed =
        let more : suc i ≡ i + 1 = omega arith in
        ap (λ n. first_no (drop n (map one s)) wish) (sym more)
        ∙ goes_on wish (map one s) i (one item) within (ap (λ (r : Ruled). r.sense.allows r.numbers wish) its_rule ∙ allowed)
        ∙ so

    pub stop_asked : (one item).sense.allows (one item).numbers wish ≡ false
        → Some (one item).sense.name ≡ first_no (map one s) wish
    stop_asked denied =
        ap (λ (r : Ruled). Some r.sense.name) (sym its_rule)
        ∙ sym (stops wish (map one s) i (one item) within (ap (λ (r : Ruled). r.sense.allows r.numbers wish) its_rule ∙ denied))
        ∙ so

pub ruled_same : {a b : Sense} {n m : List ℕ} → a ≡ b → n ≡ m → ruled a n ≡ ruled b m
ruled_same {a} {b} {n} {m} e f = ap (λ s. ruled s n) e ∙ ap (ruled b) f
