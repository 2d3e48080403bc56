-- The steps of the loops over cells and over the blocks under a train.
use Rattle.std.proofs.Common.{◌≡◌, ◌∙◌, ◌⊎◌, inl, inr, suc, sym, ap, refl, ℕ, ◌+◌, ◌-◌, ◌<◌, ◌≤◌, List, [], ◌∷◌, ◌++◌, map, length, get_or, take, drop, All, arith, append_assoc, append-nil}
use Rattle.std.proofs.lemmas.Bool.Decides.{leb_tells}
use Rattle.std.proofs.lemmas.List.{map_more, take-append-drop}
use Rattle.std.proofs.lemmas.List.Elements.{All-nil, All-cons, All-tail, All-append}
use Rattle.rail_types.specs.declared.tracks.Cell.{Cell}
use Rattle.rail_types.specs.declared.tracks.Network.{Network}
use Rattle.rail_types.specs.declared.trains.Train.{Train}
use Rattle.rail_types.specs.Limits.{IsBlockWithinLimits}
use Rattle.blocking_time.specs.Runs.{block_at}
use Rattle.blocking_time.specs.Passages.{passage_of, passages_of}
use Rattle.blocking_time.specs.declared.passages.Passage.{Passage}
use Rattle.std.proofs.lemmas.List.Sums.{sum_by-append}
use Rattle.stair_pieces.specs.Places.{metres_of, under_train, left_after, uncleared}
use Rattle.stair_pieces.specs.Steps.{IsTailIn}
use Rattle.stair_pieces.proofs.Sound.{releases_within}
use Rattle.stair_pieces.proofs.Tails.{is_cleared, is_left, left_after-append, uncleared_behind}

-- one cell more
module _ (train : Train) (gone i : ℕ) (cells : List Cell) (default : Cell) (passage : Passage) (within : i < length cells) (read : passage ≡ passage_of train (get_or cells i default)) (made old new : List Passage)
    (invariant : old ≡ made ++ left_after gone (passages_of train (take i cells))) where
  left_more : left_after gone (passages_of train (take (i + 1) cells)) ≡ left_after gone (passages_of train (take i cells)) ++ left_after gone (passage ∷ [])
  left_more = ap (left_after gone) (map_more (passage_of train) cells i default within ∙ ap (λ one. map (passage_of train) (take i cells) ++ one ∷ []) (sym read)) ∙ left_after-append gone (passages_of train (take i cells)) (passage ∷ [])

  pub left_kept : gone < passage.metres → new ≡ old ++ record { zone = passage.zone; metres = passage.metres - gone } ∷ [] → new ≡ made ++ left_after gone (passages_of train (take (i + 1) cells))
  left_kept beyond more = rw (left_more, is_left passage.metres gone beyond, ← append_assoc, ← invariant) more

  pub left_out : passage.metres ≤ gone → new ≡ old → new ≡ made ++ left_after gone (passages_of train (take (i + 1) cells))
  left_out short same = rw (left_more, is_cleared passage.metres gone short, append-nil) (same ∙ invariant)

-- the walk ends at the first block, or where a train's length is behind
pub walk_ends : (net : Network) (train : Train) (tail : List ℕ) (at gone : ℕ) (passages : List Passage) → All IsBlockWithinLimits net.blocks
    → gone ≡ metres_of net (drop at tail) → passages ≡ uncleared net train (drop at tail) → (at ≤ 0) ⊎ (train.length_m ≤ gone) → passages ≡ uncleared net train tail
walk_ends net train tail at gone passages all is left (inl first) = let zero_is : at ≡ 0 = omega arith in rw zero_is at left
walk_ends net train tail at gone passages all is left (inr past) =
    left ∙ (sym (uncleared_behind net train (releases_within net all) (take at tail) (drop at tail) (omega arith)) ∙ ap (uncleared net train) (take-append-drop at tail))

-- blocks further behind than a train is long are not under it
under_behind : (net : Network) (train : Train) (front back : List ℕ) → train.length_m ≤ metres_of net back → under_train net train (front ++ back) ≡ under_train net train back
under_behind net train [] back past = refl
under_behind net train (block ∷ front) back past =
    let longer : metres_of net (front ++ back) ≡ metres_of net front + metres_of net back = sum_by-append (λ (block : ℕ). (block_at net block).length_m) front back in
    rw (is_left (suc (metres_of net (front ++ back))) train.length_m (omega arith)) (under_behind net train front back past)

-- a walk back that has come as far as the train is long has found them
pub walk_under : (net : Network) (train : Train) (blocks : List ℕ) (at : ℕ) → train.length_m ≤ metres_of net (drop at blocks) → under_train net train (drop at blocks) ≡ drop at blocks → drop at blocks ≡ under_train net train blocks
walk_under net train blocks at past whole =
    sym whole ∙ (sym (under_behind net train (take at blocks) (drop at blocks) past) ∙ ap (under_train net train) (take-append-drop at blocks))

-- what is said of all blocks holds of those that are under a train
pub all_under : (net : Network) (train : Train) (P : ℕ → Type 0) (blocks : List ℕ) → All P blocks → All P (under_train net train blocks)
all_under net train P [] all = all
all_under net train P (block ∷ blocks) all = elim (leb_tells (suc (metres_of net blocks)) train.length_m) [
  | inl tells ↦ rw (tells.0) all
  | inr tells ↦ rw (tells.0) (all_under net train P blocks (All-tail P block blocks all))
]

-- a train's tail with one more block of the network behind it
pub tail_with : (net : Network) (train : Train) (tail : List ℕ) (block : ℕ) → IsTailIn net train tail → block < length net.blocks → IsTailIn net train (tail ++ block ∷ [])
tail_with net train tail block is within = record {
  blocks = is.blocks;
  train_fits = is.train_fits;
  numbers = All-append (λ block. block < length net.blocks) tail (block ∷ []) is.numbers (All-cons (λ block. block < length net.blocks) block [] within (All-nil (λ block. block < length net.blocks)));
}

pub tail_after : (net : Network) (train : Train) (tail : List ℕ) (block : ℕ) → IsTailIn net train tail → block < length net.blocks → IsTailIn net train (under_train net train (tail ++ block ∷ []))
tail_after net train tail block is within =
    let grown = tail_with net train tail block is within in
    record {
      blocks = is.blocks;
      train_fits = is.train_fits;
      numbers = all_under net train (λ block. block < length net.blocks) (tail ++ block ∷ []) grown.numbers;
    }
