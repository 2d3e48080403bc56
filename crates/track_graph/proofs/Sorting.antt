-- Detectors sorted by position, those at one position still in the file's order.
use Rattle.std.proofs.Common.{◌≡◌, ◌≢◌, ℕ, zero, suc, ◌+◌, ◌<◌, ◌≤◌, false, List, length, get_or, map, sym, ap, subst, ◌∙◌, inl, inr, arith, eqb}
use Rattle.std.proofs.lemmas.Bool.{cases_eq, cases_lt}
use Rattle.std.proofs.lemmas.Bool.Decides.{Decides-eqb, nat_tests}
use Rattle.std.proofs.lemmas.List.{get_or-map, length-map}
use Rattle.std.proofs.lemmas.List.Sorted.{Contains-permutation, IsPermutation-map, IsPermutation-sym, length_permutation}
use Rattle.std.proofs.lemmas.Map.Keys.{IsDistinct-IsPermutation}
use Rattle.std.proofs.lemmas.Map.Made.{AllPairs-from_IsDistinct, IsDistinct-from_AllPairs}
use Rattle.std.proofs.lemmas.Option.{slice_get_within}
use Rattle.std.specs.List.{AllPairs}
use Rattle.std.specs.List.Sorted.{IsNonDecreasingBy, IsPermutation, IsSortedByKey}
use Rattle.std.specs.Ordering.{nat_cmp, is_lt}
use Rattle.rail_types.specs.declared.infra_types.tracks.Placed.{Placed}
use Rattle.track_graph.specs.declared.stands.Stand.{Stand}
use Rattle.track_graph.specs.Stands.{ComesBefore, Stands}
use Rattle.track_graph.specs.StandRows.{AreFront, AreListed}

not_less : (a b : ℕ) → b ≤ a → is_lt (nat_cmp a b) ≡ false
not_less a b h = grind (arith, nat_tests)

pub front_rises : (detectors : List Placed) (n : ℕ) (xs : List Stand) → AreFront detectors n xs → IsSortedByKey (λ stand. stand.number) nat_cmp xs
front_rises detectors n xs front k d low h =
    let one = (front.each k d (omega (arith, front.long))).1 in
    let other = (front.each (k + 1) d (omega (arith, front.long))).1 in
    not_less (get_or xs (k + 1) d).number (get_or xs k d).number (omega (arith, one, other))

same_stand : (a b : Stand) → a.track ≡ b.track → a.position ≡ b.position → a.number ≡ b.number → a ≡ b
same_stand a b e f g =
    ap (λ (t : ℕ). record { track = t; position = a.position; number = a.number }) e
    ∙ (ap (λ (p : ℕ). record { track = b.track; position = p; number = a.number }) f
    ∙ ap (λ (n : ℕ). record { track = b.track; position = b.position; number = n }) g)

one_stand : (detectors : List Placed) (a b : Stand) → Stands detectors a → Stands detectors b → a.number ≡ b.number → a ≡ b
one_stand detectors a b s t e =
    let is = s.is in
    let also = t.is in
    let same : s.placed ≡ t.placed = cc in
    same_stand a b (sym s.track ∙ (ap (λ (p : Placed). p.track) same ∙ t.track)) (sym s.position ∙ (ap (λ (p : Placed). p.position) same ∙ t.position)) e

module _ (detectors : List Placed) (n : ℕ) (xs ys : List Stand) (front : AreFront detectors n xs) (all : n ≡ length detectors) (perm : IsPermutation xs ys)
    (rises : IsNonDecreasingBy (λ stand. stand.position) ys)
    (ties : (k : ℕ) (d : Stand) → k + 1 < length ys → (get_or ys k d).position ≡ (get_or ys (k + 1) d).position → (get_or ys k d).number ≤ (get_or ys (k + 1) d).number) where
  numbers : List Stand → List ℕ
  numbers zs = map (λ (stand : Stand). stand.number) zs

  apart : AllPairs (λ a b. a ≢ b) (map (λ (stand : Stand). stand.number) xs)
  apart i j d less h e =
      let dummy : Stand = record { track = 0; position = 0; number = 0 } in
      let long = length-map xs (λ (stand : Stand). stand.number) in
      let one = get_or-map (λ (stand : Stand). stand.number) xs i dummy d (omega arith) in
      let other = get_or-map (λ (stand : Stand). stand.number) xs j dummy d (omega arith) in
      let is_one = (front.each i dummy (omega (arith, front.long))).1 in
      let is_other = (front.each j dummy (omega (arith, front.long))).1 in
      omega arith

  apart_still : (i j : ℕ) (d : Stand) → i < j → j < length ys → (get_or ys i d).number ≢ (get_or ys j d).number
  apart_still i j d less h e =
      let moved = IsPermutation-map (λ (stand : Stand). stand.number) xs ys perm in
      let distinct = IsDistinct-IsPermutation eqb flips (map (λ (stand : Stand). stand.number) xs) (map (λ (stand : Stand). stand.number) ys) moved (IsDistinct-from_AllPairs Decides-eqb _ apart) in
      let pairs = AllPairs-from_IsDistinct Decides-eqb (map (λ (stand : Stand). stand.number) ys) distinct in
      let long = length-map ys (λ (stand : Stand). stand.number) in
      pairs i j 0 less (omega arith)
      (get_or-map (λ (stand : Stand). stand.number) ys i d 0 (omega arith) ∙ (e ∙ sym (get_or-map (λ (stand : Stand). stand.number) ys j d 0 h)))
    where
      flips : (x y : ℕ) → eqb x y ≡ eqb y x
      flips x y = grind (arith, nat_tests)

  ties_far : (i j : ℕ) (d : Stand) → i ≤ j → j < length ys → (get_or ys i d).position ≡ (get_or ys j d).position → (get_or ys i d).number ≤ (get_or ys j d).number
  ties_far i zero d less h e = (let same : i ≡ 0 = omega arith in subst (λ (k : ℕ). (get_or ys k d).number ≤ (get_or ys 0 d).number) (sym same) (omega arith))
  ties_far i (suc j) d less h e = elim (cases_eq i (suc j)) [
    | inl same ↦ subst (λ (k : ℕ). (get_or ys k d).number ≤ (get_or ys (suc j) d).number) (sym same) (omega arith)
    | inr differ ↦
        let low = rises i j d (omega arith) (omega arith) in
        let high = rises j (suc j) d (omega arith) h in
        let before = ties_far i j d (omega arith) (omega arith) (omega arith) in
        let one : j + 1 ≡ suc j = omega arith in
        let tie : (get_or ys j d).position ≡ (get_or ys (suc j) d).position = omega arith in
        let step = ties j d (omega arith) (tie ∙ ap (λ (k : ℕ). (get_or ys k d).position) (sym one)) in
        let last = ap (λ (k : ℕ). (get_or ys k d).number) one in
        omega arith
  ]

  order : AllPairs ComesBefore ys
  order i j d less h =
      let low = rises i j d (omega arith) h in
      elim (cases_lt (get_or ys i d).position (get_or ys j d).position) [
        | inl before ↦ inl before
        | inr same ↦
            let tie : (get_or ys i d).position ≡ (get_or ys j d).position = omega arith in
            let rise = ties_far i j d (omega arith) h tie in
            let differ = apart_still i j d less h in
            inr (tie, omega arith)
      ]

  pub sorted_are : AreListed detectors ys
  sorted_are = record {
    many = length_permutation xs ys perm ∙ (front.long ∙ all);
    order = order;
    each = λ stand. (
      (λ h. let it = Contains-permutation ys xs stand (IsPermutation-sym xs ys perm) h in
          subst (Stands detectors) it.2 (front.each it.0 _ (let within = it.1 in omega (arith, front.long))).0),
      (λ s.
          let within = slice_get_within detectors stand.number s.placed s.is in
          let found = front.each stand.number stand (omega arith) in
          Contains-permutation xs ys stand perm (stand.number, omega (arith, front.long), one_stand detectors (get_or xs stand.number stand) stand found.0 s found.1)),
    );
  }
