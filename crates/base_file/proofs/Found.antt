-- Of the first two neighbours that clash, and the one behind them, the least trains that clash there come first.
use Rattle.std.proofs.Common.{◌≡◌, ◌∙◌, ◌⊎◌, inl, inr, ℕ, suc, ◌+◌, ◌<◌, ◌≤◌, ◌<ℤ◌, ◌≤ℤ◌, List, length, get_or, Bool, true, false, if◌then◌else◌, ◌&&◌, nat_lt, Option, Some, None, refl, sym, ap, subst, arith, add-one, Contains}
use Rattle.std.specs.Prelude.{slice_get}
use Rattle.std.proofs.lemmas.Bool.Decides.{nat_tests}
use Rattle.std.proofs.lemmas.Bool.{cases_lt}
use Rattle.std.proofs.lemmas.Int.{ints}
use Rattle.std.proofs.lemmas.List.{get_or_default}
use Rattle.std.proofs.lemmas.List.Elements.{Contains-get_or}
use Rattle.std.proofs.lemmas.Option.{get_or_from_slice_get, slice_get_within}
use Rattle.rail_types.specs.declared.bases.BaseClaim.{BaseClaim}
use Rattle.rail_types.specs.Occupation.{Clash}
use Rattle.base_file.specs.declared.overlaps.Pair.{Pair}
use Rattle.base_file.specs.Overlaps.{AreOverlapping, AreSorted, ComesBy, IsFirstAt, IsFirstPair, IsNoLater, TrainsBy, begins_with, later_begin, least_pair, pair_behind, pair_of}
use Rattle.base_file.proofs.Firsts.{Behind, SeenWith, later_left, later_right, placed, rises, train_by}

clash_back : (x y : BaseClaim) → Clash x.claim y.claim → Clash y.claim x.claim
clash_back x y clash = (sym clash.0, (clash.1.1, clash.1.0))

-- ---- the trains of what is seen there

abbrev Seen : List BaseClaim → ℕ → ℕ → ℕ → BaseClaim → ℕ → ℕ → Type 0
Seen s p left right r x y = SeenWith s p left right x y r ⊎ SeenWith s p left right y x r

trains_front : (s : List BaseClaim) (p left right : ℕ) (r : BaseClaim) → left < right → (x y : ℕ) → x < y → Seen s p left right r x y → TrainsBy left right x y
trains_front s p left right r up x y before (inl (inl (is, by))) = inr (sym is, by)
trains_front s p left right r up x y before (inl (inr (by, over, n, got, begins, above, below))) = inl (omega arith)
trains_front s p left right r up x y before (inr (inl (is, by))) = absurd (omega arith)
trains_front s p left right r up x y before (inr (inr (by, over, n, got, begins, above, below))) = absurd (omega arith)

trains_behind : (s : List BaseClaim) (p left right b : ℕ) (r : BaseClaim) → right < left → b ≤ left
    → ((n : BaseClaim) → slice_get s (suc (suc p)) ≡ Some n → begins_with r n ≡ true → b ≤ n.train)
    → (x y : ℕ) → x < y → Seen s p left right r x y → TrainsBy right b x y
trains_behind s p left right b r down least next x y before (inl (inl (is, by))) = inl (omega arith)
trains_behind s p left right b r down least next x y before (inl (inr (by, over, n, got, begins, above, below))) = elim (cases_lt right x) [
  | inl more ↦ inl more
  | inr same ↦ let c = next n got begins in inr (omega arith, omega arith)
]
trains_behind s p left right b r down least next x y before (inr (inl (is, by))) = elim (cases_lt right x) [
  | inl more ↦ inl more
  | inr same ↦ inr (omega arith, omega arith)
]
trains_behind s p left right b r down least next x y before (inr (inr (by, over, n, got, begins, above, below))) = absurd (omega arith)

-- ---- before all others

module _ (s : List BaseClaim) (d : BaseClaim) (sorted : AreSorted s) (p : ℕ) (first : IsFirstAt s p) where
  abbrev it : ℕ → BaseClaim
  it k = get_or s k d

  abbrev l : BaseClaim
  l = get_or s p d

  abbrev r : BaseClaim
  r = get_or s (suc p) d

  no_later_by : (one other x y high low : BaseClaim) → one.claim.zone ≡ r.claim.zone → later_begin one other ≡ r.claim.span.from → high.claim.zone ≡ x.claim.zone → later_begin x y ≡ high.claim.span.from
      → (SeenWith s p l.train r.train low.train high.train r → TrainsBy one.train other.train x.train y.train) → Behind s p l r low high → IsNoLater one other x y
  no_later_by one other x y high low zone begin here later trains (inl lower) = inl (omega arith)
  no_later_by one other x y high low zone begin here later trains (inr (same, inl before)) = inr (zone ∙ (same ∙ here), inl (rw (begin, later) before))
  no_later_by one other x y high low zone begin here later trains (inr (same, inr (alike, seen))) = inr (zone ∙ (same ∙ here), inr (begin ∙ (alike ∙ sym later), trains seen))

  placed_at : (m n : ℕ) (x y : BaseClaim) → m < n → n < length s → it m ≡ x → it n ≡ y → Clash x.claim y.claim → Behind s p l r x y × (x.claim.span.from ≤ℤ y.claim.span.from)
  placed_at m n x y before within a b clash =
      let there : Clash (it m).claim (it n).claim = rw (a, b) clash in
      let behind = placed s d sorted.order sorted.ticks p first m n before within there in
      let up = rises s d sorted.order sorted.ticks m n (omega arith) within there.0 in
      (subst (λ (one : BaseClaim). Behind s p l r one y) a (subst (λ (one : BaseClaim). Behind s p l r (it m) one) b behind), subst (λ (one : BaseClaim). one.claim.span.from ≤ℤ y.claim.span.from) a (subst (λ (one : BaseClaim). (it m).claim.span.from ≤ℤ one.claim.span.from) b up))

  no_later : (one other : BaseClaim) → one.claim.zone ≡ r.claim.zone → later_begin one other ≡ r.claim.span.from
      → ((x y : ℕ) → x < y → Seen s p l.train r.train r x y → TrainsBy one.train other.train x y)
      → (x y : BaseClaim) → AreOverlapping s x y → IsNoLater one other x y
  no_later one other zone begin trains x y over =
      let (m, within, is) = over.one_stands in
      let (n, inside, also) = over.other_stands in
      let a : it m ≡ x = get_or_default s m d x within ∙ is in
      let b : it n ≡ y = get_or_default s n d y inside ∙ also in
      elim (cases_lt m n) [
        | inl before ↦
            let put = placed_at m n x y before inside a b over.clash in
            no_later_by one other x y y x zone begin (sym over.clash.0) (later_right x y put.1) (λ seen. trains x.train y.train over.trains (inl seen)) put.0
        | inr behind ↦ elim (cases_lt n m) [
          | inl before ↦
              let put = placed_at n m y x before within b a (clash_back x y over.clash) in
              no_later_by one other x y x y zone begin refl (later_left x y put.1) (λ seen. trains x.train y.train over.trains (inr seen)) put.0
          | inr same ↦
              let alike : m ≡ n = omega arith in
              let one_claim : x ≡ y = sym a ∙ (ap it alike ∙ b) in
              let low = over.trains in
              let trains_same : x.train ≡ y.train = ap (λ (c : BaseClaim). c.train) one_claim in
              absurd (omega arith)
        ]
      ]

  here : suc p < length s
  here = omega (arith, first.within)

  clash : Clash l.claim r.claim
  clash = subst (λ k. Clash l.claim (get_or s k d).claim) (add-one p) (first.clash d)

  up : l.claim.span.from ≤ℤ r.claim.span.from
  up = rises s d sorted.order sorted.ticks p (suc p) (omega arith) here clash.0

  stands : (k : ℕ) → k < length s → Contains s (it k)
  stands k within = Contains-get_or s k d within

  apart : ¬ (l.train ≡ r.train)
  apart same = sorted.home p (suc p) d (omega arith) here same clash

  front : l.train < r.train → IsFirstPair s l r
  front before = record {
    overlapping = record { one_stands = stands p (omega (arith, here)); other_stands = stands (suc p) here; trains = before; clash = clash };
    first = no_later l r clash.0 (later_right l r up) (trains_front s p l.train r.train r before);
  }

  -- the claim in front is the other one
  with_left : r.train < l.train → ((n : BaseClaim) → slice_get s (suc (suc p)) ≡ Some n → begins_with r n ≡ true → l.train ≤ n.train) → IsFirstPair s r l
  with_left before least = record {
    overlapping = record { one_stands = stands (suc p) here; other_stands = stands p (omega (arith, here)); trains = before; clash = clash_back l r clash };
    first = no_later r l refl (later_left r l up) (trains_behind s p l.train r.train l.train r before (omega arith) least);
  }

  -- the next claim is the other one
  with_next : r.train < l.train → (n : BaseClaim) → slice_get s (suc (suc p)) ≡ Some n → begins_with r n ≡ true → n.train < l.train → IsFirstPair s r n
  with_next before n got begins lower = record {
    overlapping = record { one_stands = stands (suc p) here; other_stands = subst (Contains s) is (stands (suc (suc p)) within); trains = above; clash = meets };
    first = no_later r n refl (later_left r n low) (trains_behind s p l.train r.train n.train r before (omega arith) (λ m gets also. same_next m gets));
  }
    where
      within : suc (suc p) < length s
      within = slice_get_within s (suc (suc p)) n got

      is : it (suc (suc p)) ≡ n
      is = get_or_from_slice_get s (suc (suc p)) n d got

      same_zone : r.claim.zone ≡ n.claim.zone
      same_zone = grind (arith, ints, nat_tests, begins)

      same_from : r.claim.span.from ≡ n.claim.span.from
      same_from = grind (arith, ints, nat_tests, begins)

      low : n.claim.span.from ≤ℤ r.claim.span.from
      low = omega (arith, ints, same_from)

      some_r : r.claim.span.from <ℤ r.claim.span.to
      some_r = sorted.ticks (suc p) d here

      some_n : n.claim.span.from <ℤ n.claim.span.to
      some_n = subst (λ (c : BaseClaim). c.claim.span.from <ℤ c.claim.span.to) is (sorted.ticks (suc (suc p)) d within)

      meets : Clash r.claim n.claim
      meets = (same_zone, (omega (arith, ints, same_from, some_n), omega (arith, ints, same_from, some_r)))

      order : ComesBy r n
      order = subst (ComesBy r) is (sorted.order (suc p) (suc (suc p)) d (omega arith) within)

      apart_next : ¬ (r.train ≡ n.train)
      apart_next same = sorted.home (suc p) (suc (suc p)) d (omega arith) within (same ∙ ap (λ (c : BaseClaim). c.train) (sym is)) (subst (λ (c : BaseClaim). Clash r.claim c.claim) (sym is) meets)

      above : r.train < n.train
      above = omega (arith, train_by r n order same_zone same_from, apart_next)

      same_next : (m : BaseClaim) → slice_get s (suc (suc p)) ≡ Some m → n.train ≤ m.train
      same_next m gets = let e : n ≡ m = let c : Some n ≡ Some m = sym got ∙ gets in cc in let t : n.train ≡ m.train = ap (λ (c : BaseClaim). c.train) e in omega arith

  behind_some : (n : BaseClaim) (a b : Bool) → r.train < l.train → slice_get s (suc (suc p)) ≡ Some n → begins_with r n ≡ a → nat_lt n.train l.train ≡ b
      → IsFirstPair s (if a && b then pair_of r n else pair_of r l).one (if a && b then pair_of r n else pair_of r l).other
  behind_some n true true before got ea eb = with_next before n got ea (grind (arith, nat_tests, eb))
  behind_some n true false before got ea eb = with_left before (λ m gets also. let e : n ≡ m = let c : Some n ≡ Some m = sym got ∙ gets in cc in subst (λ (c : BaseClaim). l.train ≤ c.train) e (grind (arith, nat_tests, eb)))
  behind_some n false b before got ea eb = with_left before (λ m gets also. let e : n ≡ m = let c : Some n ≡ Some m = sym got ∙ gets in cc in let no : begins_with r n ≡ true = subst (λ (c : BaseClaim). begins_with r c ≡ true) (sym e) also in absurd cc)

  behind : (next : Option BaseClaim) → r.train < l.train → slice_get s (suc (suc p)) ≡ next → IsFirstPair s (pair_behind l r next).one (pair_behind l r next).other
  behind None before got = with_left before (λ m gets also. absurd (let c : None ≡ Some m = sym got ∙ gets in cc))
  behind (Some n) before got = behind_some n (begins_with r n) (nat_lt n.train l.train) before got refl refl

  by_test : (t : Bool) (next : Option BaseClaim) → nat_lt l.train r.train ≡ t → slice_get s (suc (suc p)) ≡ next → IsFirstPair s (if t then pair_of l r else pair_behind l r next).one (if t then pair_of l r else pair_behind l r next).other
  by_test true next e got = front (grind (arith, nat_tests, e))
  by_test false next e got = let most : r.train ≤ l.train = grind (arith, nat_tests, e) in behind next (omega (arith, apart)) got

  pub found : (next : Option BaseClaim) → slice_get s (suc (suc p)) ≡ next → IsFirstPair s (least_pair l r next).one (least_pair l r next).other
  found next got = by_test (nat_lt l.train r.train) next refl got

pub found_at : (s : List BaseClaim) (d : BaseClaim) (sorted : AreSorted s) (p : ℕ) (first : IsFirstAt s p) (next : Option BaseClaim) → next ≡ slice_get s (p + 2) → (pair : Pair) → pair ≡ least_pair (get_or s p d) (get_or s (p + 1) d) next → IsFirstPair s pair.one pair.other
found_at s d sorted p first next got pair is =
    let two : p + 2 ≡ suc (suc p) = omega arith in
    subst (λ (q : Pair). IsFirstPair s q.one q.other) (sym (is ∙ ap (λ k. least_pair (get_or s p d) (get_or s k d) next) (add-one p))) (found s d sorted p first next (ap (slice_get s) (sym two) ∙ sym got))
