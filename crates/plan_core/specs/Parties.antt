-- A client of a world, its notes, and how both change.
use Rattle.std.specs.Prelude.{ℕ, zero, suc, ◌+◌, min, Bool, true, false, ◌||◌, nat_eq}
use Rattle.std.specs.Prelude.{if◌then◌else◌, List, [], ◌∷◌, ◌++◌, map, Option, Some, None}
use Rattle.plan_core.specs.declared.notes.Note.{Note}

-- a client: the front that it knows, the front that it searched or none, and
-- its notes, one for each turn
pub record Party : Type 0 where
  pub front : ℕ
  pub searched : Option ℕ
  pub log : List Note

abbrev pub position_in : Option ℕ → List ℕ
position_in None = []
position_in (Some at) = at ∷ []

-- the positions that notes name which are not lost, in their order
abbrev pub positions : List Note → List ℕ
positions [] = []
positions (note ∷ log) = (if note.lost then [] else position_in note.entry) ++ positions log

-- the list with the element at a place changed; the same list where none stands there
abbrev pub changed_at : {X : Type 0} → ℕ → (X → X) → List X → List X
changed_at at change [] = []
changed_at zero change (one ∷ others) = change one ∷ others
changed_at (suc at) change (one ∷ others) = one ∷ changed_at at change others

-- the client knows this front, and notes it with the position of an entry or none
abbrev pub noting : ℕ → Option ℕ → Party → Party
noting point entry party =
    record party {
      front = point;
      log = party.log ++ (record { point = point; entry = entry; lost = false }) ∷ [];
    }

-- the client has searched the front that it knows
abbrev pub seeking : Party → Party
seeking party = record party { searched = Some party.front }

-- the client has noted its entry at this position, for which its searched front is used up
abbrev pub writing : ℕ → Party → Party
writing at party = record (noting (at + 1) (Some at) party) { searched = None }

abbrev pub is_at : ℕ → Option ℕ → Bool
is_at at None = false
is_at at (Some entry) = nat_eq entry at

abbrev pub marked : ℕ → Note → Note
marked at note = record note { lost = note.lost || is_at at note.entry }

-- the client's note that names this position is marked as lost
abbrev pub losing : ℕ → Party → Party
losing at party = record party { log = map (marked at) party.log }

-- the client knows no more than this front, and has none searched
abbrev pub restarting : ℕ → Party → Party
restarting front party = record party { front = min party.front front; searched = None }
