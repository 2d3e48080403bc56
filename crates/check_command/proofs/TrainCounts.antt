-- Trains of which it is kept how many spots they have.
use Rattle.std.proofs.Common.{◌≡◌, ◌∙◌, ◌⊎◌, inl, inr, refl, sym, ap, subst, Bool, true, false, ◌+◌, ◌-◌, ◌<◌, ◌≤◌, List, [], ◌∷◌, ◌++◌, drop, get_or, length, All, Contains, arith}
use Rattle.std.specs.Prelude.{if◌then◌else◌}
use Rattle.std.proofs.lemmas.List.Elements.{All-contains, All-contains_itself, All-drop, All-push}
use Rattle.std.proofs.lemmas.List.{length-append, length-drop}
use Rattle.rail_types.specs.declared.tracks.Network.{Network}
use Rattle.check_command.specs.Counts.{AreCounted, IsAddedAlone, IsCounted}
use Rattle.check_command.specs.declared.counts.TheConstants.{MAX_COUNTS}
use Rattle.check_command.specs.declared.counts.TrainCount.{TrainCount}

pub without_first : (old new : List TrainCount) → new ≡ drop 1 old → All (Contains old) new
without_first old new is = subst (All (Contains old)) (sym is) (All-drop (Contains old) 1 old (All-contains_itself old))

-- where no more are kept than may be, there is room once the first one is let go
pub room_behind_first : (old new : List TrainCount) → new ≡ drop 1 old → MAX_COUNTS ≤ length old → length old ≤ MAX_COUNTS → length new < MAX_COUNTS
room_behind_first old new is many few =
    let left : length new ≡ length old - 1 = ap length is ∙ length-drop 1 old in
    omega arith

-- with one more there are no more than may be kept
pub few_still : (rest new : List TrainCount) (one : TrainCount) (taken : Bool) → length rest < MAX_COUNTS → new ≡ (if taken then rest ++ one ∷ [] else rest) → length new ≤ MAX_COUNTS
few_still rest new one taken room is = subst (λ (kept : List TrainCount). length kept ≤ MAX_COUNTS) (sym is) (go taken)
  where
    go : (taken : Bool) → length (if taken then rest ++ one ∷ [] else rest) ≤ MAX_COUNTS
    go true = let more : length (rest ++ one ∷ []) ≡ length rest + 1 = length-append rest (one ∷ []) in omega arith
    go false = omega arith

-- one is put behind others, or not
pub added_alone : (old rest new : List TrainCount) (one : TrainCount) (taken : Bool) → All (Contains old) rest → new ≡ (if taken then rest ++ one ∷ [] else rest) → IsAddedAlone one old new
added_alone old rest new one taken among is = subst (IsAddedAlone one old) (sym is) (go taken)
  where
    here : IsAddedAlone one old rest
    here k d within = inl (among k d within)

    go : (taken : Bool) → IsAddedAlone one old (if taken then rest ++ one ∷ [] else rest)
    go true = All-push (λ (kept : TrainCount). Contains old kept ⊎ (kept ≡ one)) rest one here (inr refl)
    go false = here

pub counted_still : (net : Network) (old new : List TrainCount) (one : TrainCount) → AreCounted net old → IsCounted net one → IsAddedAlone one old new → length new ≤ MAX_COUNTS → AreCounted net new
counted_still net old new one are is added few = record {
  counted = λ k d within. elim (added k d within) [
    | inl among ↦ All-contains (IsCounted net) old (get_or new k d) are.counted among
    | inr same ↦ subst (IsCounted net) (sym same) is
  ];
  few = few;
}
