-- Claims in order, and the same claims as they stood.
use Rattle.std.proofs.Common.{◌≡◌, inl, inr, List, length, get_or, Bool, false, ◌&&◌, nat_eq, Option, Some, None, arith, All, AllPairs, IsPermutation}
use Rattle.std.specs.Cmp.{IsStrictWeakOrder}
use Rattle.std.specs.List.{AllAdjacentBelow}
use Rattle.std.specs.List.Sorted.{IsSortedBy}
use Rattle.std.proofs.lemmas.Bool.Decides.{nat_tests}
use Rattle.std.proofs.lemmas.Int.{ints}
use Rattle.std.proofs.lemmas.List.Sorted.{sorted_far, All-permutation, Contains-permutation, IsPermutation-sym}
use Rattle.std.proofs.lemmas.Map.Keys.{IsDistinct-IsPermutation}
use Rattle.rail_types.specs.declared.bases.BaseClaim.{BaseClaim}
use Rattle.rail_types.specs.Occupation.{HasTicks}
use Rattle.rail_types.specs.FirstClash.{clashes}
use Rattle.base_file.specs.declared.overlaps.Pair.{Pair}
use Rattle.base_file.specs.Overlaps.{Apart, ApartAtHome, AreInOrder, AreOverlapping, AreSorted, ComesBy, StandsBefore, TellsPair, comes_first}
use Rattle.base_file.proofs.Firsts.{apart_far}
use Rattle.base_file.proofs.Pairs.{distinct, pairs_of}

-- ---- what the sort gives

pub is_order : IsStrictWeakOrder comes_first
is_order = record { one_way = λ x y first. grind (arith, ints, nat_tests); chain = λ x y z a b. grind (arith, ints, nat_tests) }

from_test : (a b : BaseClaim) → comes_first b a ≡ false → ComesBy a b
from_test a b none = grind (arith, ints, nat_tests)

pub in_order : (sorted : List BaseClaim) → IsSortedBy comes_first sorted → AreInOrder sorted
in_order sorted up i j d before within = from_test (get_or sorted i d) (get_or sorted j d) (sorted_far comes_first is_order sorted up i j d before within)

-- ---- no two of one train

abbrev clash_of : BaseClaim → BaseClaim → Bool
clash_of x y = clashes x.claim y.claim

clash_flips : (x y : BaseClaim) → clash_of x y ≡ clash_of y x
clash_flips x y = grind (arith, ints, nat_tests)

apart_test : (x y : BaseClaim) → Apart x y → clash_of x y ≡ false
apart_test x y apart = grind (arith, ints, nat_tests)

test_apart : (x y : BaseClaim) → clash_of x y ≡ false → Apart x y
test_apart x y none clash = grind (arith, ints, nat_tests)

abbrev home_clash : BaseClaim → BaseClaim → Bool
home_clash x y = nat_eq x.train y.train && clash_of x y

home_flips : (x y : BaseClaim) → home_clash x y ≡ home_clash y x
home_flips x y = grind (arith, ints, nat_tests)

home_test : (x y : BaseClaim) → StandsBefore x y → home_clash x y ≡ false
home_test x y (inl before) = grind (arith, nat_tests)
home_test x y (inr (same, inl lower)) = grind (arith, nat_tests)
home_test x y (inr (same, inr (zone, ends))) = grind (arith, ints, nat_tests)

test_home : (x y : BaseClaim) → home_clash x y ≡ false → ApartAtHome x y
test_home x y none same clash = grind (arith, ints, nat_tests)

pub are_sorted : (claims sorted : List BaseClaim) → IsPermutation claims sorted → AreInOrder sorted → All (λ one. HasTicks one.claim.span) claims → AllPairs StandsBefore claims → AreSorted sorted
are_sorted claims sorted moved order ticks joined = record {
  order = order;
  ticks = All-permutation (λ one. HasTicks one.claim.span) claims sorted moved ticks;
  home = pairs_of home_clash ApartAtHome test_home sorted (IsDistinct-IsPermutation home_clash home_flips claims sorted moved (distinct home_clash StandsBefore home_test claims joined));
}

-- ---- what is told of them in order is told of them as they stood

apart_back : (claims sorted : List BaseClaim) → IsPermutation claims sorted → AllPairs Apart sorted → AllPairs Apart claims
apart_back claims sorted moved apart =
    pairs_of clash_of Apart test_apart claims (IsDistinct-IsPermutation clash_of clash_flips sorted claims (IsPermutation-sym claims sorted moved) (distinct clash_of Apart apart_test sorted apart))

overlapping_back : (claims sorted : List BaseClaim) (x y : BaseClaim) → IsPermutation claims sorted → AreOverlapping claims x y → AreOverlapping sorted x y
overlapping_back claims sorted x y moved over = record {
  one_stands = Contains-permutation claims sorted x moved over.one_stands;
  other_stands = Contains-permutation claims sorted y moved over.other_stands;
  trains = over.trains;
  clash = over.clash;
}

pub told_back : (claims sorted : List BaseClaim) (told : Option Pair) → IsPermutation claims sorted → TellsPair sorted told → TellsPair claims told
told_back claims sorted None moved told = apart_back claims sorted moved told
told_back claims sorted (Some pair) moved told = record {
  overlapping = overlapping_back sorted claims pair.one pair.other (IsPermutation-sym claims sorted moved) told.overlapping;
  first = λ x y over. told.first x y (overlapping_back claims sorted x y moved over);
}

pub none_clash : (sorted : List BaseClaim) → AreSorted sorted → AllAdjacentBelow Apart sorted (length sorted) → AllPairs Apart sorted
none_clash sorted are apart i j d before within = apart_far sorted d are.order are.ticks (length sorted) (omega arith) apart i j before within
