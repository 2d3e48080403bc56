-- The place of a train at the end of a run, and the place after one more step.
use Rattle.std.specs.Prelude.{◌≡◌, ℕ, ◌+◌, ◌-◌, Bool, true, false, List, [], ◌∷◌, ◌++◌, map, length}
use Rattle.std.specs.Prelude.{sum_by, nat_le, nat_lt, if◌then◌else◌, slice_index}
use Rattle.rail_types.specs.declared.tracks.Network.{Network}
use Rattle.rail_types.specs.declared.trains.Train.{Train}
use Rattle.rail_types.specs.declared.paths.Run.{Run}
use Rattle.running_time.specs.declared.edges.Enter.{Enter}
use Rattle.running_time.specs.declared.edges.Enter.TheVariants.{Still}
use Rattle.running_time.specs.declared.edges.Edge.{Edge}
use Rattle.running_time.specs.declared.edges.Edge.TheVariants.{Still as Halted, Rolling}
use Rattle.blocking_time.specs.Runs.{block_at, entry_behind, exit_of}
use Rattle.blocking_time.specs.Passages.{passages_of}
use Rattle.blocking_time.specs.declared.passages.Passage.{Passage}
use Rattle.stair_pieces.specs.declared.places.Place.{Place}
use Rattle.stair_pieces.specs.declared.places.Step.{Step}

-- the place of a train that has not begun its path
abbrev pub start_place : Place
start_place = record { tail = []; entered = Still; standing = true; made = 0 }

-- the step that a run makes
abbrev pub step_of : Run → Step
step_of run = record { block = run.block; exit = exit_of run.stops }

-- the length of blocks that stand one behind the other
abbrev pub metres_of : Network → List ℕ → ℕ
metres_of net blocks = sum_by (λ block. (block_at net block).length_m) blocks

-- the longest end of a list of blocks in which those behind the first are
-- together shorter than the train
abbrev pub under_train : Network → Train → List ℕ → List ℕ
under_train net train [] = []
under_train net train (block ∷ blocks) =
    if nat_lt (metres_of net blocks) train.length_m then block ∷ blocks
    else under_train net train blocks

-- the block of the train's head
abbrev pub head_block : List ℕ → ℕ
head_block tail = slice_index tail (length tail - 1)

-- how the next block is entered
abbrev pub entry_of : Network → Train → Place → Enter
entry_of net train place =
    entry_behind train (block_at net (head_block place.tail)) place.standing

-- whether a train stands behind a step, and how many named stops it has made
abbrev pub stands_after : Edge → Bool
stands_after Halted = true
stands_after Rolling = false

abbrev pub made_after : ℕ → Edge → ℕ
made_after made Halted = made + 1
made_after made Rolling = made

-- the place after a step
abbrev pub place_after : Network → Train → Place → Step → Place
place_after net train place step = record {
  tail = under_train net train (place.tail ++ step.block ∷ []);
  entered = entry_of net train place;
  standing = stands_after step.exit;
  made = made_after place.made step.exit;
}

-- the place after a list of runs
abbrev pub place_behind : Network → Train → Place → List Run → Place
place_behind net train place [] = place
place_behind net train place (run ∷ runs) =
    place_behind net train (place_after net train place (step_of run)) runs

-- the tail behind runs from the start is the longest end of all their blocks in which those behind
-- the first are together shorter than the train
abbrev pub TailsAreLongest : Type 0
TailsAreLongest =
    (net : Network) (train : Train) (runs : List Run)
    → (place_behind net train start_place runs).tail
    ≡ under_train net train (map (λ run. run.block) runs)

-- of the passages those that are not cleared when the head has gone so many
-- metres more, with what is left
abbrev pub left_after : ℕ → List Passage → List Passage
left_after gone [] = []
left_after gone (passage ∷ passages) =
    if nat_le passage.metres gone then left_after gone passages
    else record { zone = passage.zone; metres = passage.metres - gone } ∷ left_after gone passages

-- the passages of the blocks under a train that it has not cleared, its head being at the end of
-- the last; the last block's first
abbrev pub uncleared : Network → Train → List ℕ → List Passage
uncleared net train [] = []
uncleared net train (block ∷ blocks) =
    uncleared net train blocks
    ++ left_after (metres_of net (block ∷ blocks)) (passages_of train (block_at net block).cells)

-- the zones that a train keeps while it waits
abbrev pub standing_zones : Network → Train → Place → List ℕ
standing_zones net train place = map (λ passage. passage.zone) (uncleared net train place.tail)
