-- Where a walk is cut into blocks.
use Rattle.std.specs.Prelude.{ℕ, ◌-◌, Bool, true, false, ◌||◌, nat_eq, List, length, slice_index_or}
use Rattle.std.specs.Prelude.{Option, Some, None}
use Rattle.std.specs.List.{filter, range_with_len}
use Rattle.route_walk.specs.declared.walks.Passed.{Passed}
use Rattle.route_walk.specs.declared.walks.Walk.{Walk}

-- no point
abbrev pub nowhere : Passed
nowhere = record { point = 0; metres = 0; reach = 0 }

-- the point passed at a place
abbrev pub point_at : List Passed → ℕ → Passed
point_at passed place = slice_index_or passed place nowhere

-- the metres from the walk's beginning to a place
abbrev pub metres_at : List Passed → ℕ → ℕ
metres_at passed place = (point_at passed place).metres

abbrev pub is_some : Option ℕ → Bool
is_some None = false
is_some (Some number) = true

-- the sight distance of the signal at a point, None where none stands
abbrev pub sight_at : List (Option ℕ) → ℕ → Option ℕ
sight_at sights point = slice_index_or sights point None

abbrev pub has_signal : List (Option ℕ) → ℕ → Bool
has_signal sights point = is_some (sight_at sights point)

-- a walk is cut at its ends, and where a signal stands
abbrev pub is_cut : List (Option ℕ) → List Passed → ℕ → Bool
is_cut sights passed place =
    nat_eq place 0
    || (nat_eq place (length passed - 1) || has_signal sights (point_at passed place).point)

-- the places at which a walk is cut
abbrev pub cut_places : List (Option ℕ) → List Passed → List ℕ
cut_places sights passed = filter (is_cut sights passed) (range_with_len 0 (length passed))

-- how many blocks a walk has, one less than cuts
abbrev pub block_count : List (Option ℕ) → Walk → ℕ
block_count sights walk = length (cut_places sights walk.passed) - 1
