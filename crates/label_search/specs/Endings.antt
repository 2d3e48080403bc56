-- The ways with which a path over a chart ends.
use Rattle.std.specs.Prelude.{◌≡◌, ℕ, ◌-◌, ◌<◌, ℤ, pos, ◌+ℤ◌, ◌≤ℤ◌, List, length, filter, All}
use Rattle.std.specs.Prelude.{Bool, true}
use Rattle.std.specs.List.{list_any, range_with_len}
use Rattle.free_windows.specs.Free.{Holds}
use Rattle.free_windows.specs.Starts.{IsPiece}
use Rattle.label_search.specs.declared.charts.ChartCall.{ChartCall}
use Rattle.label_search.specs.declared.charts.ChartSpot.{ChartSpot}
use Rattle.label_search.specs.declared.charts.ChartWay.{ChartWay}
use Rattle.label_search.specs.declared.plans.Move.{Move}
use Rattle.label_search.specs.declared.plans.Target.TheVariants.{End}
use Rattle.label_search.specs.declared.plans.Trip.{Trip}
use Rattle.label_search.specs.Charts.{call_at, spot_at}
use Rattle.label_search.specs.Free.{Book, Fits}
use Rattle.label_search.specs.Nearing.{is_call}
use Rattle.label_search.specs.Plans.{IsShort}

-- what is asked of a train that has made all calls but one
abbrev pub last_call : List ChartCall → ChartCall
last_call calls = call_at calls (length calls - 1)

-- with one of the ways the train halts where it is called, at the end of one of these blocks
abbrev pub has_call : List ℕ → List ChartWay → Bool
has_call blocks ways = list_any (is_call blocks) ways

-- the numbers of the spots from which a way is such a call
abbrev pub spots_before : List ℕ → List ChartSpot → List ℕ
spots_before blocks spots =
    filter (λ number. has_call blocks (spot_at spots number).ways)
    (range_with_len 0 (length spots))

-- the move that a way is with which a path ends
abbrev pub ending_of : ChartWay → Move
ending_of way = record { target = End; run = way.run; pieces = way.ending }

-- at no tick from the first departure on is the move free, to leave by the horizon and in the
-- window of arrival
abbrev pub IsShut : Book → Trip → ℤ → Move → Type 0
IsShut book trip horizon move =
    (enter : ℤ) → trip.depart.from ≤ℤ enter → pos 0 ≤ℤ enter
    → (enter +ℤ move.run) ≤ℤ horizon → Holds trip.arrive (enter +ℤ move.run)
    → ¬ Fits book move.pieces enter

-- so is the way as the last of a path, if it is a call at the end of one of these blocks
pub record IsShutWay (blocks : List ℕ) (book : Book) (trip : Trip) (horizon : ℤ) (way : ChartWay)
    : Type 0 where
  pub calls : is_call blocks way ≡ true → IsShut book trip horizon (ending_of way)

abbrev pub AreShut : List ℕ → Book → Trip → ℤ → List ChartWay → Type 0
AreShut blocks book trip horizon ways = All (IsShutWay blocks book trip horizon) ways

-- so are all ways from the spot of a number
abbrev pub AreShutFrom : List ChartSpot → List ℕ → Book → Trip → ℤ → ℕ → Type 0
AreShutFrom spots blocks book trip horizon number =
    AreShut blocks book trip horizon (spot_at spots number).ways

-- inside: what a way takes that is such a call may be asked of the book
pub record CanEnd (blocks : List ℕ) (book : Book) (way : ChartWay) : Type 0 where
  pub run : is_call blocks way ≡ true → IsShort way.run
  pub pieces : is_call blocks way ≡ true → All (IsPiece (length book)) way.ending

-- inside: so it is of each way from a spot of the chart
pub record CanEndFrom (spots : List ChartSpot) (blocks : List ℕ) (book : Book) (number : ℕ)
    : Type 0 where
  pub within : number < length spots
  pub ways : All (CanEnd blocks book) (spot_at spots number).ways
