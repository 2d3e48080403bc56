-- Of places that are listed with exactly the moves of a request from each, those that moves lead to
-- from the start, found one behind the other.
use Rattle.std.specs.Prelude.{ℕ, zero, suc, ◌+◌, List, [], ◌∷◌, ◌++◌, length, map}
use Rattle.std.specs.Prelude.{nat_lt, if◌then◌else◌}
use Rattle.std.specs.List.{position_or_len, slice_index_or}
use Rattle.stair_pieces.specs.declared.places.Place.{Place}
use Rattle.stair_pieces.specs.Alike.{same_place}
use Rattle.stair_pieces.specs.Places.{start_place}
use Rattle.tail_states.specs.declared.moves.Move.{Move}
use Rattle.tail_states.specs.declared.moves.Next.{Next}
use Rattle.tail_states.specs.declared.moves.Next.TheVariants.{End, At}
use Rattle.tail_states.specs.Listed.{Listed}

-- the number of a place among these, or their count where it is not among them
abbrev pub number_among : List Place → Place → ℕ
number_among places place = position_or_len (same_place place) places

-- the moves that are listed from a place
abbrev pub moves_at : Listed → Place → List Move
moves_at listed place = slice_index_or listed.moves (number_among listed.members place) []

-- a place is put behind the others where it is new
abbrev pub with_place : List Place → Place → List Place
with_place places place =
    if nat_lt (number_among places place) (length places) then places else places ++ place ∷ []

-- the listed place that a move leads to is put behind the others where it is new
abbrev pub with_next : List Place → List Place → Next → List Place
with_next members places End = places
with_next members places (At number) =
    with_place places (slice_index_or members number start_place)

-- the same for each of some moves
abbrev pub with_led : List Place → List Place → List Move → List Place
with_led members places [] = places
with_led members places (one ∷ moves) =
    with_led members (with_next members places one.next) moves

-- the same for the moves from the place of a number among them
abbrev pub next_over : Listed → ℕ → List Place → List Place
next_over listed at places =
    with_led listed.members places (moves_at listed (slice_index_or places at start_place))

-- the same for the places from a number on, so many of them at most
abbrev pub grown_from : Listed → ℕ → ℕ → List Place → List Place
grown_from listed zero at places = places
grown_from listed (suc left) at places =
    if nat_lt at (length places)
    then grown_from listed left (at + 1) (next_over listed at places)
    else places

-- the listed places that moves lead to from the start
abbrev pub all_reached : Listed → List Place
all_reached listed =
    grown_from listed (length listed.members) 0 (with_led listed.members [] listed.starts)

-- where a move leads to by the number among the others
abbrev pub next_among : List Place → List Place → Next → Next
next_among members places End = End
next_among members places (At number) =
    At (number_among places (slice_index_or members number start_place))

-- the same step to the place by its number among the others
abbrev pub renumbered : List Place → List Place → Move → Move
renumbered members places one = record {
  step = one.step;
  next = next_among members places one.next;
}

-- the places that moves lead to from the start, with their moves
abbrev pub reached_of : Listed → Listed
reached_of listed = record {
  members = all_reached listed;
  starts = map (renumbered listed.members (all_reached listed)) listed.starts;
  moves = map
      (λ place. map (renumbered listed.members (all_reached listed)) (moves_at listed place))
      (all_reached listed);
}
