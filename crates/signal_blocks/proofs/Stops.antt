-- Numbers that are sorted and told once.
use Rattle.std.proofs.Common.{◌≡◌, ℕ, List, [], nat_eq}
use Rattle.std.specs.List.{dedup}
use Rattle.std.specs.List.Retain.{IsFiltered, DiffersFromLast}
use Rattle.std.specs.List.Sorted.{IsPermutation, IsSorted}
use Rattle.std.specs.Ordering.{nat_cmp}
use Rattle.std.proofs.lemmas.List.Filters.{dedup_is}
use Rattle.std.proofs.lemmas.List.Kept.{Contains-dedup_nat, Contains-from_dedup}
use Rattle.std.proofs.lemmas.List.Sorted.{Contains-permutation, IsPermutation-sym}
use Rattle.std.proofs.lemmas.Map.Keys.{IsStrictlyIncreasing-dedup}
use Rattle.signal_blocks.specs.Served.{AreServed, stops_on}
use Rattle.signal_blocks.specs.declared.block_cuts.lines.StopPart.{StopPart}
use Rattle.route_walk.specs.declared.walks.Stretch.{Stretch}

once : (parts : List StopPart) (stretches : List Stretch) (sorted : List ℕ) → IsPermutation (stops_on parts stretches) sorted → IsSorted nat_cmp sorted → AreServed parts stretches (dedup nat_eq sorted)
once parts stretches sorted perm up = record {
  rises = IsStrictlyIncreasing-dedup sorted up;
  each = λ stop. ((λ h. Contains-permutation sorted (stops_on parts stretches) stop (IsPermutation-sym _ _ perm) (Contains-from_dedup nat_eq sorted stop h)), (λ h. Contains-dedup_nat sorted stop (Contains-permutation (stops_on parts stretches) sorted stop perm h)));
}

pub ascending_once : (parts : List StopPart) (stretches : List Stretch) (flat sorted stops : List ℕ) → flat ≡ stops_on parts stretches → IsPermutation flat sorted → IsSorted nat_cmp sorted → IsFiltered (DiffersFromLast nat_eq) [] sorted stops → AreServed parts stretches stops
ascending_once parts stretches flat sorted stops same perm up kept =
    let told : stops ≡ dedup nat_eq sorted = dedup_is nat_eq sorted stops kept in
    rw told (once parts stretches sorted (rw (← same) perm) up)
