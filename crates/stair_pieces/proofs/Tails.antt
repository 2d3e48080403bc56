-- The blocks under a train, and the passages that it has not cleared.
use Rattle.std.proofs.Common.{◌≡◌, ◌∙◌, ap, refl, ℕ, suc, ◌+◌, ◌-◌, ◌<◌, ◌≤◌, Bool, true, false, List, [], ◌∷◌, ◌++◌, map, nat_le, if◌then◌else◌, All, arith, append_assoc, append-nil, inl, inr}
use Rattle.std.proofs.lemmas.Grind.{common_steps}
use Rattle.std.proofs.lemmas.Bool.Decides.{leb_tells, nat_tests}
use Rattle.std.proofs.lemmas.List.Sums.{sum_by-cons, sum_by-append}
use Rattle.std.proofs.lemmas.List.Elements.{All-head, All-tail}
use Rattle.rail_types.specs.declared.tracks.Cell.{Cell}
use Rattle.rail_types.specs.declared.tracks.Network.{Network}
use Rattle.rail_types.specs.declared.trains.Train.{Train}
use Rattle.blocking_time.specs.Runs.{block_at}
use Rattle.blocking_time.specs.Passages.{passages_of}
use Rattle.blocking_time.specs.declared.passages.Passage.{Passage}
use Rattle.rail_types.specs.declared.paths.Run.{Run}
use Rattle.stair_pieces.specs.declared.places.Place.{Place}
use Rattle.stair_pieces.proofs.Sound.{ReleaseWithin}
use Rattle.stair_pieces.specs.Places.{TailsAreLongest, start_place, step_of, place_after, place_behind, metres_of, under_train, head_block, left_after, uncleared}

pub left_after-append : (gone : ℕ) (xs ys : List Passage) → left_after gone (xs ++ ys) ≡ left_after gone xs ++ left_after gone ys
left_after-append gone [] ys = refl
left_after-append gone (x ∷ xs) ys = go (nat_le x.metres gone) (left_after-append gone xs ys)
  where
    go : (cleared : Bool) → left_after gone (xs ++ ys) ≡ left_after gone xs ++ left_after gone ys
        → (if cleared then left_after gone (xs ++ ys) else record { zone = x.zone; metres = x.metres - gone } ∷ left_after gone (xs ++ ys)) ≡ (if cleared then left_after gone xs else record { zone = x.zone; metres = x.metres - gone } ∷ left_after gone xs) ++ left_after gone ys
    go true again = again
    go false again = ap (λ others. record { zone = x.zone; metres = x.metres - gone } ∷ others) again

-- tests by what they tell
pub is_cleared : (metres gone : ℕ) → metres ≤ gone → nat_le metres gone ≡ true
is_cleared metres gone within = grind (arith, nat_tests)

pub is_left : (metres gone : ℕ) → gone < metres → nat_le metres gone ≡ false
is_left metres gone beyond = grind (arith, nat_tests)

-- some metres, and then some more
pub left_after-more : (a b : ℕ) (xs : List Passage) → left_after b (left_after a xs) ≡ left_after (a + b) xs
left_after-more a b [] = refl
left_after-more a b (x ∷ xs) =
    let again = left_after-more a b xs in
    elim (leb_tells x.metres a) [
      | inl tells ↦ rw (tells.0, is_cleared x.metres (a + b) (omega arith)) again
      | inr tells ↦ elim (leb_tells x.metres (a + b)) [
        | inl both ↦ rw (tells.0, both.0, is_cleared (x.metres - a) b (omega arith)) again
        | inr both ↦
            let less : x.metres - a - b ≡ x.metres - (a + b) = omega arith in
            rw (tells.0, both.0, is_left (x.metres - a) b (omega arith), less) (ap (λ others. record { zone = x.zone; metres = x.metres - (a + b) } ∷ others) again)
      ]
    ]

-- a block is cleared with the last metre that its train stands on
pub all_cleared : (train : Train) (gone : ℕ) (cells : List Cell) → All (λ cell. cell.release_m + train.length_m ≤ gone) cells → left_after gone (passages_of train cells) ≡ []
all_cleared train gone [] all = refl
all_cleared train gone (cell ∷ cells) all =
    let here : cell.release_m + train.length_m ≤ gone = All-head (λ cell. cell.release_m + train.length_m ≤ gone) cell cells all in
    rw (is_cleared (cell.release_m + train.length_m) gone here) (all_cleared train gone cells (All-tail (λ cell. cell.release_m + train.length_m ≤ gone) cell cells all))

module _ (net : Network) (train : Train) where
  -- the length of the last block
  pub metres_end : (blocks : List ℕ) (block : ℕ) → metres_of net (blocks ++ block ∷ []) ≡ metres_of net blocks + (block_at net block).length_m
  metres_end blocks block = omega (arith, sum_by-append (λ (block : ℕ). (block_at net block).length_m) blocks (block ∷ []), sum_by-cons (λ (block : ℕ). (block_at net block).length_m) block [])

  pub metres_more : (block : ℕ) (blocks : List ℕ) → metres_of net (block ∷ blocks) ≡ (block_at net block).length_m + metres_of net blocks
  metres_more block blocks = sum_by-cons (λ (block : ℕ). (block_at net block).length_m) block blocks

  -- what is uncleared with one block more
  pub uncleared_end : (tail : List ℕ) (block : ℕ) → uncleared net train (tail ++ block ∷ []) ≡ left_after (block_at net block).length_m (passages_of train (block_at net block).cells ++ uncleared net train tail)
  uncleared_end [] block =
      let long : metres_of net (block ∷ []) ≡ (block_at net block).length_m = omega (arith, metres_more block []) in
      rw (long, append-nil) refl
  uncleared_end (first ∷ tail) block =
      let long : metres_of net (first ∷ (tail ++ block ∷ [])) ≡ metres_of net (first ∷ tail) + (block_at net block).length_m = metres_end (first ∷ tail) block in
      let one = passages_of train (block_at net first).cells in
      let last = passages_of train (block_at net block).cells in
      let again = uncleared_end tail block in
      rw (long, ← append_assoc, left_after-append (block_at net block).length_m (last ++ uncleared net train tail) (left_after (metres_of net (first ∷ tail)) one), left_after-more (metres_of net (first ∷ tail)) (block_at net block).length_m one, again) refl

  -- a block that is no longer under the train is cleared
  pub cleared_behind : ReleaseWithin net → (block : ℕ) (blocks : List ℕ) → train.length_m ≤ metres_of net blocks → left_after (metres_of net (block ∷ blocks)) (passages_of train (block_at net block).cells) ≡ []
  cleared_behind sound block blocks past = all_cleared train (metres_of net (block ∷ blocks)) (block_at net block).cells (λ k other within. let release = sound block k other within in omega (arith, metres_more block blocks))

  pub uncleared_under : ReleaseWithin net → (blocks : List ℕ) → uncleared net train (under_train net train blocks) ≡ uncleared net train blocks
  uncleared_under sound [] = refl
  uncleared_under sound (block ∷ blocks) = elim (leb_tells (suc (metres_of net blocks)) train.length_m) [
    | inl tells ↦ rw (tells.0) refl
    | inr tells ↦ rw (tells.0, cleared_behind sound block blocks (omega arith), append-nil) (uncleared_under sound blocks)
  ]

  -- nothing is uncleared further behind than a train is long
  pub uncleared_behind : ReleaseWithin net → (front back : List ℕ) → train.length_m ≤ metres_of net back → uncleared net train (front ++ back) ≡ uncleared net train back
  uncleared_behind sound [] back past = refl
  uncleared_behind sound (block ∷ front) back past =
      let longer : metres_of net (front ++ back) ≡ metres_of net front + metres_of net back = sum_by-append (λ (block : ℕ). (block_at net block).length_m) front back in
      rw (cleared_behind sound block (front ++ back) (omega arith), append-nil) (uncleared_behind sound front back past)

  -- the head stands in the last block
  pub last_is : (blocks : List ℕ) (block : ℕ) → head_block (blocks ++ block ∷ []) ≡ block
  last_is [] block = refl
  last_is (first ∷ blocks) block = grind (arith, common_steps)

  pub head_is : 1 ≤ train.length_m → (blocks : List ℕ) (block : ℕ) → head_block (under_train net train (blocks ++ block ∷ [])) ≡ block
  head_is long [] block = rw (is_cleared 1 train.length_m long) refl
  head_is long (first ∷ blocks) block = elim (leb_tells (suc (metres_of net (blocks ++ block ∷ []))) train.length_m) [
    | inl tells ↦ rw (tells.0) (last_is (first ∷ blocks) block)
    | inr tells ↦ rw (tells.0) (head_is long blocks block)
  ]

  -- a tail with one block more, from all blocks run
  under_again : (blocks : List ℕ) (block : ℕ) → under_train net train (under_train net train blocks ++ block ∷ []) ≡ under_train net train (blocks ++ block ∷ [])
  under_again [] block = refl
  under_again (first ∷ blocks) block = elim (leb_tells (suc (metres_of net blocks)) train.length_m) [
    | inl tells ↦ rw (tells.0) refl
    | inr tells ↦
        let longer = metres_end blocks block in
        rw (tells.0, is_left (suc (metres_of net (blocks ++ block ∷ []))) train.length_m (omega arith)) (under_again blocks block)
  ]

  pub tail_behind : (runs : List Run) (place : Place) (blocks : List ℕ) → place.tail ≡ under_train net train blocks → (place_behind net train place runs).tail ≡ under_train net train (blocks ++ map (λ run. run.block) runs)
  tail_behind [] place blocks is = rw append-nil is
  tail_behind (run ∷ runs) place blocks is =
      let there : under_train net train (place.tail ++ run.block ∷ []) ≡ under_train net train (blocks ++ run.block ∷ []) = ap (λ tail. under_train net train (tail ++ run.block ∷ [])) is ∙ under_again blocks run.block in
      let regrouped : (blocks ++ run.block ∷ []) ++ map (λ run. run.block) runs ≡ blocks ++ run.block ∷ map (λ run. run.block) runs = rw append_assoc refl in
      tail_behind runs (place_after net train place (step_of run)) (blocks ++ run.block ∷ []) there ∙ ap (under_train net train) regrouped

pub tails_are_longest : TailsAreLongest
tails_are_longest net train runs = tail_behind net train runs start_place [] refl
