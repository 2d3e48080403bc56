-- The first two neighbours that clash tell the first two claims that do.
use Rattle.std.proofs.Common.{◌≡◌, ◌∙◌, ◌⊎◌, inl, inr, ℕ, zero, suc, ◌+◌, ◌<◌, ◌≤◌, ◌<ℤ◌, ◌≤ℤ◌, List, length, get_or, true, Some, sym, ap, subst, arith, add-one, All}
use Rattle.std.specs.Prelude.{slice_get}
use Rattle.std.specs.List.{AllAdjacentBelow}
use Rattle.std.proofs.lemmas.Bool.Decides.{nat_tests}
use Rattle.std.proofs.lemmas.Bool.{cases_lt}
use Rattle.std.proofs.lemmas.Int.{ints, by_lt_z}
use Rattle.std.proofs.lemmas.Option.{slice_get-get_or}
use Rattle.rail_types.specs.declared.bases.BaseClaim.{BaseClaim}
use Rattle.rail_types.specs.Occupation.{Clash, HasTicks}
use Rattle.base_file.specs.Overlaps.{Apart, AreInOrder, ComesBy, IsFirstAt, begins_with, later_begin}

-- ---- order of two claims

zone_by : (x y : BaseClaim) → ComesBy x y → x.claim.zone ≤ y.claim.zone
zone_by x y (inl lower) = omega arith
zone_by x y (inr (same, rest)) = omega arith

from_by : (x y : BaseClaim) → ComesBy x y → x.claim.zone ≡ y.claim.zone → x.claim.span.from ≤ℤ y.claim.span.from
from_by x y (inl lower) same = absurd (omega arith)
from_by x y (inr (here, inl before)) same = omega (arith, ints)
from_by x y (inr (here, inr (begin, train))) same = omega (arith, ints)

pub train_by : (x y : BaseClaim) → ComesBy x y → x.claim.zone ≡ y.claim.zone → x.claim.span.from ≡ y.claim.span.from → x.train ≤ y.train
train_by x y (inl lower) same begin = absurd (omega arith)
train_by x y (inr (here, inl before)) same begin = absurd (omega (arith, ints))
train_by x y (inr (here, inr (also, train))) same begin = train

pub later_right : (one other : BaseClaim) → one.claim.span.from ≤ℤ other.claim.span.from → later_begin one other ≡ other.claim.span.from
later_right one other by = grind (arith, ints, nat_tests)

pub later_left : (one other : BaseClaim) → other.claim.span.from ≤ℤ one.claim.span.from → later_begin one other ≡ one.claim.span.from
later_left one other by = grind (arith, ints, nat_tests)

-- ---- a list in order

module _ (s : List BaseClaim) (d : BaseClaim) (order : AreInOrder s) (ticks : All (λ one. HasTicks one.claim.span) s) where
  abbrev at : ℕ → BaseClaim
  at k = get_or s k d

  has_ticks : (k : ℕ) → k < length s → (at k).claim.span.from <ℤ (at k).claim.span.to
  has_ticks k within = ticks k d within

  -- the zone between two of one zone is the same
  between : (i j k : ℕ) → i ≤ j → j ≤ k → k < length s → (at i).claim.zone ≡ (at k).claim.zone → (at j).claim.zone ≡ (at k).claim.zone
  between i j k a b within same =
      let low = zone_by (at i) (at j) (order i j d a (omega arith)) in
      let high = zone_by (at j) (at k) (order j k d b within) in
      omega arith

  pub rises : (i j : ℕ) → i ≤ j → j < length s → (at i).claim.zone ≡ (at j).claim.zone → (at i).claim.span.from ≤ℤ (at j).claim.span.from
  rises i j a within same = from_by (at i) (at j) (order i j d a within) same

  neighbours : (n k : ℕ) → AllAdjacentBelow Apart s n → suc k < n → Apart (at k) (at (suc k))
  neighbours n k apart below = subst (λ m. Apart (at k) (get_or s m d)) (add-one k) (apart k d (omega arith))

  -- while no two neighbours clash, the claims of a zone end one after the other
  ends_before_next : (j : ℕ) → suc j < length s → Apart (at j) (at (suc j)) → (at j).claim.zone ≡ (at (suc j)).claim.zone → (at j).claim.span.to ≤ℤ (at (suc j)).claim.span.from
  ends_before_next j within apart same =
      let up = rises j (suc j) (omega arith) within same in
      let some = has_ticks (suc j) within in
      by_lt_z (at (suc j)).claim.span.from (at j).claim.span.to (λ before. absurd (apart (same, (omega (arith, ints), before)))) (λ least. least)

  pub ends : (n : ℕ) → n ≤ length s → AllAdjacentBelow Apart s n → (j i : ℕ) → i ≤ j → suc j < n → (at i).claim.zone ≡ (at (suc j)).claim.zone → (at i).claim.span.to ≤ℤ (at (suc j)).claim.span.from
  ends n most apart zero i low below same =
      let is : i ≡ zero = omega arith in
      subst (λ k. (at k).claim.zone ≡ (at 1).claim.zone → (at k).claim.span.to ≤ℤ (at 1).claim.span.from) (sym is) (λ here. ends_before_next 0 (omega arith) (neighbours n 0 apart below) here) same
  ends n most apart (suc j) i low below same = elim (cases_lt i (suc j)) [
    | inl before ↦
        let mid = between i (suc j) (suc (suc j)) (omega arith) (omega arith) (omega arith) same in
        let front = ends n most apart j i (omega arith) (omega arith) (same ∙ sym mid) in
        let up = rises (suc j) (suc (suc j)) (omega arith) (omega arith) mid in
        omega (arith, ints)
    | inr behind ↦
        let is : i ≡ suc j = omega arith in
        subst (λ k. (at k).claim.zone ≡ (at (suc (suc j))).claim.zone → (at k).claim.span.to ≤ℤ (at (suc (suc j))).claim.span.from) (sym is) (λ here. ends_before_next (suc j) (omega arith) (neighbours n (suc j) apart below) here) same
  ]

  pub ends_far : (n : ℕ) → n ≤ length s → AllAdjacentBelow Apart s n → (i j : ℕ) → i < j → j < n → (at i).claim.zone ≡ (at j).claim.zone → (at i).claim.span.to ≤ℤ (at j).claim.span.from
  ends_far n most apart i zero before below same = absurd (omega arith)
  ends_far n most apart i (suc j) before below same = ends n most apart j i (omega arith) below same

  -- where no two neighbours clash, no two claims do
  pub apart_far : (n : ℕ) → n ≤ length s → AllAdjacentBelow Apart s n → (i j : ℕ) → i < j → j < n → Apart (at i) (at j)
  apart_far n most apart i j before below clash =
      let end = ends_far n most apart i j before below clash.0 in
      let begin : (at j).claim.span.from <ℤ (at i).claim.span.to = clash.1.1 in
      absurd (omega (arith, ints))

  -- what stands between two that begin together on a zone begins with them
  same_begin : (i j k : ℕ) → i ≤ j → j ≤ k → k < length s → (at i).claim.zone ≡ (at k).claim.zone → (at i).claim.span.from ≡ (at k).claim.span.from → ((at j).claim.zone ≡ (at k).claim.zone) × ((at j).claim.span.from ≡ (at k).claim.span.from)
  same_begin i j k a b within same begin =
      let mid = between i j k a b within same in
      let low = rises i j a (omega arith) (same ∙ sym mid) in
      let high = rises j k b within mid in
      (mid, omega (arith, ints))

-- ---- what is told of the first two neighbours that clash

-- where the second of two claims that clash begins with the second neighbour: it clashes with the first neighbour, or
-- both begin with the second neighbour, and there is a third that does
abbrev pub SeenWith : List BaseClaim → ℕ → ℕ → ℕ → ℕ → ℕ → BaseClaim → Type 0
SeenWith s p left right low high r =
    ((low ≡ left) × (right ≤ high))
    ⊎ ((right ≤ low) × (low ≤ high) × (n : BaseClaim) × (slice_get s (suc (suc p)) ≡ Some n) × (begins_with r n ≡ true) × (right ≤ n.train) × (n.train ≤ high))

abbrev pub Behind : List BaseClaim → ℕ → BaseClaim → BaseClaim → BaseClaim → BaseClaim → Type 0
Behind s p l r low high =
    (r.claim.zone < high.claim.zone)
    ⊎ ((r.claim.zone ≡ high.claim.zone) × ((r.claim.span.from <ℤ high.claim.span.from)
    ⊎ ((r.claim.span.from ≡ high.claim.span.from) × SeenWith s p l.train r.train low.train high.train r)))

got : (s : List BaseClaim) (d : BaseClaim) (k : ℕ) → k < length s → slice_get s k ≡ Some (get_or s k d)
got s d k within = slice_get-get_or s k d within

begin_alike : (x y : BaseClaim) → x.claim.zone ≡ y.claim.zone → x.claim.span.from ≡ y.claim.span.from → begins_with x y ≡ true
begin_alike x y zone begin = grind (arith, ints, nat_tests)

module _ (s : List BaseClaim) (d : BaseClaim) (order : AreInOrder s) (ticks : All (λ one. HasTicks one.claim.span) s) (p : ℕ) (first : IsFirstAt s p) where
  abbrev it : ℕ → BaseClaim
  it k = get_or s k d

  with_front : (i j : ℕ) → i ≤ p → p < j → j < length s → Clash (it i).claim (it j).claim → (it (suc p)).claim.zone ≡ (it j).claim.zone → (it (suc p)).claim.span.from ≡ (it j).claim.span.from → i ≡ p
  with_front i j low high within clash same begin = elim (cases_lt i p) [
    | inl before ↦
        let mid = between s d order ticks i p j (omega arith) (omega arith) within clash.0 in
        let end = ends_far s d order ticks (p + 1) (omega (arith, first.within)) first.before i p before (omega arith) (clash.0 ∙ sym mid) in
        let up = rises s d order ticks p (suc p) (omega arith) (omega (arith, first.within)) (mid ∙ sym same) in
        let over : (it j).claim.span.from <ℤ (it i).claim.span.to = clash.1.1 in
        absurd (omega (arith, ints))
    | inr there ↦ omega arith
  ]

  third : (i j : ℕ) → suc p ≤ i → i < j → j < length s → (it (suc p)).claim.zone ≡ (it j).claim.zone → (it (suc p)).claim.span.from ≡ (it j).claim.span.from → SeenWith s p (it p).train (it (suc p)).train (it i).train (it j).train (it (suc p))
  third i j low before within same begin =
      let here = same_begin s d order ticks (suc p) i j low (omega arith) within same begin in
      let next = same_begin s d order ticks (suc p) (suc (suc p)) j (omega arith) (omega arith) within same begin in
      let a = train_by (it (suc p)) (it i) (order (suc p) i d low (omega arith)) (same ∙ sym here.0) (begin ∙ sym here.1) in
      let b = train_by (it i) (it j) (order i j d (omega arith) within) here.0 here.1 in
      let e = train_by (it (suc p)) (it (suc (suc p))) (order (suc p) (suc (suc p)) d (omega arith) (omega arith)) (same ∙ sym next.0) (begin ∙ sym next.1) in
      let f = train_by (it (suc (suc p))) (it j) (order (suc (suc p)) j d (omega arith) within) next.0 next.1 in
      inr (a, b, it (suc (suc p)), got s d (suc (suc p)) (omega arith), begin_alike (it (suc p)) (it (suc (suc p))) (same ∙ sym next.0) (begin ∙ sym next.1), e, f)

  seen : (i j : ℕ) → i < j → p < j → j < length s → Clash (it i).claim (it j).claim → (it (suc p)).claim.zone ≡ (it j).claim.zone → (it (suc p)).claim.span.from ≡ (it j).claim.span.from → (it (suc p)).train ≤ (it j).train → SeenWith s p (it p).train (it (suc p)).train (it i).train (it j).train (it (suc p))
  seen i j before high within clash same begin train = elim (cases_lt p i) [
    | inl behind ↦ third i j behind before within same begin
    | inr front ↦ inl (ap (λ k. (it k).train) (with_front i j front high within clash same begin), train)
  ]

  behind_by : (i j : ℕ) → i < j → p < j → j < length s → Clash (it i).claim (it j).claim → ComesBy (it (suc p)) (it j) → Behind s p (it p) (it (suc p)) (it i) (it j)
  behind_by i j before high within clash (inl lower) = inl lower
  behind_by i j before high within clash (inr (same, inl begins)) = inr (same, inl begins)
  behind_by i j before high within clash (inr (same, inr (begin, train))) = inr (same, inr (begin, seen i j before high within clash same begin train))

  pub placed : (i j : ℕ) → i < j → j < length s → Clash (it i).claim (it j).claim → Behind s p (it p) (it (suc p)) (it i) (it j)
  placed i j before within clash = elim (cases_lt p j) [
    | inl high ↦ behind_by i j before high within clash (order (suc p) j d high within)
    | inr low ↦ absurd (apart_far s d order ticks (p + 1) (omega (arith, first.within)) first.before i j before (omega arith) clash)
  ]
