-- How near a train is to its next call, and what is ahead of it by that at each place over a chart.
use Rattle.std.specs.Prelude.{◌≡◌, ℕ, ◌+◌, ◌*◌, ◌/◌, ◌%◌, ◌<◌, ◌≤◌, ℤ, pos, ◌+ℤ◌, ◌≤ℤ◌}
use Rattle.std.specs.Prelude.{List, [], ◌∷◌, length, map, filter, flat_map, All}
use Rattle.std.specs.Prelude.{Bool, true, false, ◌&&◌, if◌then◌else◌, nat_eq}
use Rattle.std.specs.Int.{int_min}
use Rattle.std.specs.List.{list_any, range_with_len, slice_index_or}
use Rattle.rail_types.specs.declared.limits.TheConstants.{FAR_TICK}
use Rattle.label_search.specs.declared.charts.ChartCall.{ChartCall}
use Rattle.label_search.specs.declared.charts.ChartSpot.{ChartSpot}
use Rattle.label_search.specs.declared.charts.ChartWay.{ChartWay}
use Rattle.label_search.specs.declared.limits.Ahead.{Ahead}
use Rattle.label_search.specs.declared.nearing.Near.{Near}
use Rattle.label_search.specs.Charts.{call_at, plan_over, spot_at}
use Rattle.label_search.specs.Free.{Book}
use Rattle.label_search.specs.Limits.{IsAhead, IsConsistent, ahead_at}
use Rattle.label_search.specs.Plans.{IsPlan, IsShort}

-- ---- the way to the next call

-- the train halts at the end of the way, which is that of a block where it is called
abbrev pub is_call : List ℕ → ChartWay → Bool
is_call blocks way = way.halts && list_any (λ one. nat_eq one way.block) blocks

-- the spots that the calls among ways lead to
abbrev pub behind_ways : List ℕ → List ChartWay → List ℕ
behind_ways blocks ways = map (λ way. way.next) (filter (is_call blocks) ways)

-- the same of all ways of a chart
abbrev pub behind_calls : List ℕ → List ChartSpot → List ℕ
behind_calls blocks spots = flat_map (λ spot. behind_ways blocks spot.ways) spots

-- From the spot of a number a way brings the call no nearer than by the ticks that it takes. Of a
-- way that halts where it is not called nothing is said: no train takes it.
pub record IsNearAlong (blocks : List ℕ) (ticks : List Ahead) (number : ℕ) (way : ChartWay)
    : Type 0 where
  pub rolls : way.halts ≡ false
      → (ahead_at ticks number).ticks ≤ℤ (way.run +ℤ (ahead_at ticks way.next).ticks)
  pub calls : is_call blocks way ≡ true → (ahead_at ticks number).ticks ≤ℤ way.run

-- Ticks from each spot that no train falls short of until it halts at the end of one of these
-- blocks, and which spots are behind such halts. Nothing is said of the start, from which others
-- may be.
pub record IsNearTo (spots : List ChartSpot) (blocks : List ℕ) (near : Near) : Type 0 where
  pub ticks : All IsAhead near.ticks
  pub ways : (number : ℕ) → number < length spots
      → All (IsNearAlong blocks near.ticks number) (spot_at spots number).ways
  pub behind : near.behind ≡ behind_calls blocks spots

-- each way takes a number of ticks that is not negative, and not too great to be added
abbrev pub HaveShortRuns : List ChartSpot → Type 0
HaveShortRuns spots = All (λ spot. All (λ way. IsShort way.run) spot.ways) spots

-- ---- what is ahead of a request

-- how near a train is to the call that is next where so many are made
abbrev pub near_at : List Near → ℕ → Near
near_at nears made = slice_index_or nears made (record { ticks = []; behind = [] })

-- that is told of each call
pub record AreNears (spots : List ChartSpot) (calls : List ChartCall) (nears : List Near)
    : Type 0 where
  pub count : length nears ≡ length calls
  pub each : (made : ℕ) → made < length calls
      → IsNearTo spots (call_at calls made).blocks (near_at nears made)

abbrev pub HaveShortDwells : List ChartCall → Type 0
HaveShortDwells calls = All (λ call. IsShort call.dwell) calls

-- Whatever ways the path begins with and whatever the horizon is: in the plan of the calls over the
-- chart, where some book may be searched by it, a move brings an end no nearer than by the ticks
-- that it takes with the wait before it.
abbrev pub IsConsistentOver : List ChartSpot → List ChartCall → List Ahead → Type 0
IsConsistentOver spots calls ahead =
    (starts : List ChartWay) (horizon : ℤ) (book : Book)
    → IsPlan (plan_over spots starts calls horizon) book
    → IsConsistent (plan_over spots starts calls horizon) ahead

-- ---- what is ahead as a sum

-- the dwell where the train stands, the way to its next call, and what is left behind that
abbrev pub sum_ahead : Bool → ChartCall → Near → Ahead → ℕ → ℤ
sum_ahead standing call near rest spot =
    int_min (((if standing then call.dwell else pos 0) +ℤ (ahead_at near.ticks spot).ticks)
    +ℤ rest.ticks) FAR_TICK

-- the sum at a spot where so many calls are made
abbrev pub stay_ahead : List ChartSpot → List ChartCall → List Near → List Ahead → ℕ → ℕ → ℤ
stay_ahead spots calls nears rests spot made =
    sum_ahead (spot_at spots spot).standing (call_at calls made) (near_at nears made)
    (ahead_at rests made) spot

-- What is left behind each call from a count of those that are made on: no more than what is ahead
-- at any spot behind it, and nothing behind the last.
pub record AreRestsFrom (spots : List ChartSpot) (calls : List ChartCall) (nears : List Near)
    (from : ℕ) (rests : List Ahead) : Type 0 where
  pub count : length rests ≡ length calls
  pub ticks : All IsAhead rests
  pub behind : (made : ℕ) → from ≤ made → made + 1 < length calls
      → All (λ spot. (ahead_at rests made).ticks
      ≤ℤ stay_ahead spots calls nears rests spot (made + 1)) (near_at nears made).behind
  pub ends : (made : ℕ) → made + 1 ≡ length calls → (ahead_at rests made).ticks ≡ pos 0

-- the same of all calls
abbrev pub AreRests : List ChartSpot → List ChartCall → List Near → List Ahead → Type 0
AreRests spots calls nears rests = AreRestsFrom spots calls nears 0 rests

-- what is ahead at the place behind the start that has a number
abbrev pub ahead_over : List ChartSpot → List ChartCall → List Near → List Ahead → ℕ → Ahead
ahead_over spots calls nears rests number = record {
  ticks = stay_ahead spots calls nears rests (number / length calls) (number % length calls);
}

-- the same at the start, of which nothing is told, and at so many places behind it
abbrev pub aheads_to : List ChartSpot → List ChartCall → List Near → List Ahead → ℕ → List Ahead
aheads_to spots calls nears rests count =
    record { ticks = pos 0 } ∷ map (ahead_over spots calls nears rests) (range_with_len 0 count)

-- at all places over the chart
abbrev pub aheads_over : List ChartSpot → List ChartCall → List Near → List Ahead → List Ahead
aheads_over spots calls nears rests =
    aheads_to spots calls nears rests (length spots * length calls)
