-- Trains that are selected from claims that are held.
use Rattle.std.proofs.Common.{◌≡◌, ◌≢◌, ◌∙◌, ℕ, ◌+◌, ◌*◌, ◌<◌, Bool, true, List, [], ◌∷◌, ◌++◌, cond, length, map, filter, take, drop, get_or, inl, inr, arith, sym, subst, ap, All, AllPairs, IsPermutation}
use Rattle.std.specs.Prelude.{pos, ◌≤ℤ◌, Contains, IsTrue, ◌==◌}
use Rattle.std.proofs.lemmas.Bool.Decides.{Decides-eqb, eqb_tells}
use Rattle.std.proofs.lemmas.Int.{ints}
use Rattle.std.proofs.lemmas.List.{get_or-map, length-map, take-append-drop}
use Rattle.std.proofs.lemmas.List.Elements.{All-contains, All-contains_itself, All-filter, All-map, Contains-append_left, Contains-push, filter-append, filter_more, filter_passes}
use Rattle.std.proofs.lemmas.List.Sorted.{All-permutation, Contains-permutation, IsPermutation-map, IsPermutation-sym}
use Rattle.std.proofs.lemmas.Map.Keys.{IsDistinct-IsPermutation}
use Rattle.std.proofs.lemmas.Map.Made.{AllPairs-from_IsDistinct, IsDistinct-from_AllPairs}
use Rattle.rail_types.specs.declared.entries.Entry.{Entry as entry_type}
use Rattle.rail_types.specs.declared.entries.Owner.{Owner}
use Rattle.rail_types.specs.declared.entries.Owner.TheVariants.{Base, Entry}
use Rattle.rail_types.specs.declared.paths.Claim.{Claim}
use Rattle.rail_types.specs.FirstClash.{AreApart, HoldAlike}
use Rattle.rail_types.specs.Occupation.{HeldClaim}
use Rattle.occupation_book.specs.Held.{AreNear}
use Rattle.capacity_406.specs.declared.trains.Occupied.{Occupied}
use Rattle.capacity_406.specs.declared.trains.Stretch.{Stretch}
use Rattle.capacity_406.specs.Selecting.{AreHeldApart, AreSelected, HasItsClaims, IsOn, RunsOn, ToldBefore}
use Rattle.capacity_406.specs.Trains.{BeginsFirst, IsFirstClaim}
use Rattle.capacity_406.specs.declared.stretch_trains.groups.Standing.{Standing}
use Rattle.capacity_406.specs.InsideStretch.{AreGrouped, HasAllOf, Runs, StandsNoLater, is_wanted, train_of}
use Rattle.capacity_406.specs.StretchTrains.{is_train}

-- what a filter keeps
kept : (p : HeldClaim → Bool) (xs : List HeldClaim) (one : HeldClaim) → Contains xs one → p one ≡ true → Contains (filter p xs) one
kept p xs one (k, within, is) test =
    let here : filter p (take (k + 1) xs) ≡ filter p (take k xs) ++ one ∷ [] = filter_more p xs k one within ∙ subst (λ (x : HeldClaim). filter p (take k xs) ++ cond (p x) (x ∷ []) [] ≡ filter p (take k xs) ++ one ∷ []) (sym is) (ap (λ b. filter p (take k xs) ++ cond b (one ∷ []) []) test) in
    subst (λ ys. Contains (filter p ys) one) (take-append-drop (k + 1) xs) (subst (λ ys. Contains ys one) (sym (filter-append p (take (k + 1) xs) (drop (k + 1) xs))) (Contains-append_left (filter p (take (k + 1) xs)) (filter p (drop (k + 1) xs)) one (subst (λ ys. Contains ys one) (sym here) (Contains-push (filter p (take k xs)) one))))

was : (p : HeldClaim → Bool) (xs : List HeldClaim) (one : HeldClaim) → Contains (filter p xs) one → Contains xs one × (p one ≡ true)
was p xs one has = (All-contains (Contains xs) (filter p xs) one (All-filter p (Contains xs) xs (All-contains_itself xs)) has, All-contains (λ x. p x ≡ true) (filter p xs) one (filter_passes p xs) has)

wanted_on : (entries : List entry_type) (stretch : Stretch) (one : HeldClaim) → is_wanted entries stretch one ≡ true → IsOn stretch one.0 × (is_train entries one.1 ≡ true)
wanted_on entries stretch one test = (grind arith, grind arith)

on_wanted : (entries : List entry_type) (stretch : Stretch) (one : HeldClaim) → IsOn stretch one.0 → is_train entries one.1 ≡ true → is_wanted entries stretch one ≡ true
on_wanted entries stretch one (low, high) train = grind arith

-- numbers that differ where owners do
number_of : Owner → ℕ
number_of (Base train) = 2 * train
number_of (Entry at) = 2 * at + 1

one_owner : (a b : Owner) → number_of a ≡ number_of b → a ≡ b
unfolding number_of
one_owner (Base a) (Base b) same = ap Base (let e : a ≡ b = omega arith in e)
one_owner (Base a) (Entry b) same = absurd (omega arith)
one_owner (Entry a) (Base b) same = absurd (omega arith)
one_owner (Entry a) (Entry b) same = ap Entry (let e : a ≡ b = omega arith in e)

flips : (x y : ℕ) → (x == y) ≡ (y == x)
flips x y = elim (eqb_tells x y) [
  | inl same ↦ elim (eqb_tells y x) [ inl back ↦ same.0 ∙ sym back.0 | inr apart ↦ absurd (apart.1 (sym same.1)) ]
  | inr apart ↦ elim (eqb_tells y x) [ inl back ↦ absurd (apart.1 (sym back.1)) | inr also ↦ apart.0 ∙ sym also.0 ]
]

numbers_apart : (xs ys : List ℕ) → IsPermutation xs ys → AllPairs (λ x y. x ≢ y) xs → AllPairs (λ x y. x ≢ y) ys
numbers_apart xs ys same apart = AllPairs-from_IsDistinct Decides-eqb ys (IsDistinct-IsPermutation (λ x y. x == y) flips xs ys same (IsDistinct-from_AllPairs Decides-eqb xs apart))

nobody : Standing
nobody = record { first = record { zone = 0; span = record { from = pos 0; to = pos 0 } }; owner = Base 0; claims = [] }

abbrev number_at : Standing → ℕ
number_at one = number_of one.owner

owners_apart : (xs ys : List Standing) → IsPermutation xs ys → AllPairs (λ (one other : Standing). one.owner ≢ other.owner) xs → AllPairs (λ (one other : Standing). one.owner ≢ other.owner) ys
owners_apart xs ys same apart i j d before within equal =
    let numbers = numbers_apart (map number_at xs) (map number_at ys) (IsPermutation-map number_at xs ys same) (λ k l e lower below. λ alike.
    let inside : l < length xs = let n = length-map xs number_at in omega arith in
    apart k l nobody lower inside (one_owner _ _ (sym (get_or-map number_at xs k nobody e (omega arith)) ∙ (alike ∙ get_or-map number_at xs l nobody e inside)))) in
    numbers i j 0 before (let n = length-map ys number_at in omega arith) (get_or-map number_at ys i d 0 (omega arith) ∙ (ap number_of equal ∙ sym (get_or-map number_at ys j d 0 within)))

not_later : (one other : Claim) → BeginsFirst one other → one.span.from ≤ℤ other.span.from
not_later one other (inl early) = omega (arith, ints)
not_later one other (inr same) = let e = same.0 in omega (arith, ints)

begin_at_once : (claims : List Claim) (a b : Claim) → IsFirstClaim claims a → IsFirstClaim claims b → a.span.from ≡ b.span.from
begin_at_once claims a b first also =
    let ab = not_later a b (All-contains (BeginsFirst a) claims b first.1 also.0) in
    let ba = not_later b a (All-contains (BeginsFirst b) claims a also.1 first.0) in
    omega (arith, ints)

told_before : (x y : Standing) → IsFirstClaim x.claims x.first → IsFirstClaim y.claims y.first → StandsNoLater x y → x.owner ≢ y.owner → ToldBefore (train_of x) (train_of y)
told_before x y first also (inl early) differ a b is_a is_b = let ea = begin_at_once x.claims a x.first is_a first in let eb = begin_at_once y.claims b y.first is_b also in inl (omega (arith, ints))
told_before x y first also (inr (at_once, inl before)) differ a b is_a is_b = inr (begin_at_once x.claims a x.first is_a first ∙ (at_once ∙ begin_at_once y.claims y.first b also is_b), before)
told_before x y first also (inr (at_once, inr same)) differ a b is_a is_b = absurd (differ same)

contains_train : (xs : List Standing) (x : Standing) → Contains xs x → Contains (map train_of xs) (train_of x)
contains_train xs x (k, within, is) = (k, subst (λ n. k < n) (sym (length-map xs train_of)) within, get_or-map train_of xs k x (train_of x) within ∙ ap train_of is)

module _ (entries : List entry_type) (stretch : Stretch) (held wanted : List HeldClaim) (same : IsPermutation (filter (is_wanted entries stretch) held) wanted) where
  wants : (one : HeldClaim) → Contains held one → IsOn stretch one.0 → is_train entries one.1 ≡ true → Contains wanted one
  wants one has on train = Contains-permutation (filter (is_wanted entries stretch) held) wanted one same (kept (is_wanted entries stretch) held one has (on_wanted entries stretch one on train))

  wanted_was : (one : HeldClaim) → Contains wanted one → Contains held one × (IsOn stretch one.0 × (is_train entries one.1 ≡ true))
  wanted_was one has =
      let old = was (is_wanted entries stretch) held one (Contains-permutation wanted (filter (is_wanted entries stretch) held) one (IsPermutation-sym (filter (is_wanted entries stretch) held) wanted same) has) in
      (old.0, wanted_on entries stretch one old.1)

  module _ (grouped sorted : List Standing) (so : AreGrouped stretch wanted grouped) (moved : IsPermutation grouped sorted) (order : AllPairs StandsNoLater sorted) where
    claims : All (HasAllOf wanted) sorted
    claims = All-permutation (HasAllOf wanted) grouped sorted moved so.claims

    first : All (λ (one : Standing). IsFirstClaim one.claims one.first) sorted
    first = All-permutation (λ (one : Standing). IsFirstClaim one.claims one.first) grouped sorted moved so.first

    trains_run : All (λ (one : Standing). Runs stretch one.claims) sorted
    trains_run = All-permutation (λ (one : Standing). Runs stretch one.claims) grouped sorted moved so.trains_run

    train_at : (k : ℕ) (d : Standing) → k < length sorted → is_train entries (get_or sorted k d).owner ≡ true
    train_at k d below = (wanted_was ((get_or sorted k d).first, (get_or sorted k d).owner) ((claims k d below (get_or sorted k d).first).0 (first k d below).0)).1.1

    pub selected : AreSelected (is_train entries) stretch held (map train_of sorted)
    selected = record {
      claims = All-map (HasItsClaims stretch held) train_of sorted (λ k d below claim. (
        λ has. let w = wanted_was (claim, (get_or sorted k d).owner) ((claims k d below claim).0 has) in (w.0, w.1.0),
        λ (has, on). (claims k d below claim).1 (wants (claim, (get_or sorted k d).owner) has on (train_at k d below)),
      ));
      trains_run = All-map (λ (train : Occupied). IsTrue (is_train entries train.owner) × RunsOn stretch held train.owner) train_of sorted (λ k d below.
          let runs = trains_run k d below in
          let w = wanted_was (runs.0, (get_or sorted k d).owner) ((claims k d below runs.0).0 runs.1) in
          (train_at k d below, record { claim = runs.0; holds = w.0; on = w.1.0; begins = runs.2 }));
      all = λ owner train runs.
          let it = so.all runs.claim owner (wants (runs.claim, owner) runs.holds runs.on train) runs.begins in
          (train_of it.0, contains_train sorted it.0 (Contains-permutation grouped sorted it.0 moved it.1), it.2);
      once = λ i j d before within equal.
          let inside : j < length sorted = let n = length-map sorted train_of in omega arith in
          owners_apart grouped sorted moved so.once i j nobody before inside (ap (λ (train : Occupied). train.owner) (sym (get_or-map train_of sorted i nobody d (omega arith))) ∙ (equal ∙ ap (λ (train : Occupied). train.owner) (get_or-map train_of sorted j nobody d inside)));
      told = λ i j d before within.
          let inside : j < length sorted = let n = length-map sorted train_of in omega arith in
          let lower : i < length sorted = omega arith in
          subst (λ (train : Occupied). ToldBefore train (get_or (map train_of sorted) j d)) (sym (get_or-map train_of sorted i nobody d lower)) (subst (ToldBefore (train_of (get_or sorted i nobody))) (sym (get_or-map train_of sorted j nobody d inside)) (told_before (get_or sorted i nobody) (get_or sorted j nobody) (first i nobody lower) (first j nobody inside) (order i j nobody before inside) (owners_apart grouped sorted moved so.once i j nobody before inside)));
    }

-- claims that are held alike select the same trains
pub selected_alike : (is_train : Owner → Bool) (stretch : Stretch) (held live : List HeldClaim) (trains : List Occupied) → HoldAlike held live → AreSelected is_train stretch held trains → AreSelected is_train stretch live trains
selected_alike is_train stretch held live trains alike so = record {
  claims = λ k d below claim. (
    λ has. let h = (so.claims k d below claim).0 has in ((alike (claim, (get_or trains k d).owner)).0 h.0, h.1),
    λ (has, on). (so.claims k d below claim).1 ((alike (claim, (get_or trains k d).owner)).1 has, on),
  );
  trains_run = λ k d below. let h = so.trains_run k d below in (h.0, record { claim = h.1.claim; holds = (alike (h.1.claim, (get_or trains k d).owner)).0 h.1.holds; on = h.1.on; begins = h.1.begins });
  all = λ owner train runs. so.all owner train (record { claim = runs.claim; holds = (alike (runs.claim, owner)).1 runs.holds; on = runs.on; begins = runs.begins });
  once = so.once;
  told = so.told;
}

pub held_apart : (held : List HeldClaim) → AreApart held → AreNear held → AreHeldApart held
held_apart held apart near = record {
  sound = λ k d below. record { ticks = apart.ticks k d below; from = (near k d below).0; to = (near k d below).1 };
  apart = apart.apart;
}
