-- A plan over the chart of a train: a place for each spot and each count of calls that are made.
use Rattle.std.specs.Prelude.{ℕ, zero, suc, ◌+◌, ◌*◌, ◌/◌, ◌%◌, ◌^◌, ◌<◌, ℤ, pos, List, []}
use Rattle.std.specs.Prelude.{All, length, map}
use Rattle.std.specs.Prelude.{Bool, true, false, not, ◌&&◌}
use Rattle.std.specs.Prelude.{◌||◌, filter, if◌then◌else◌, nat_eq, nat_le}
use Rattle.std.specs.List.{list_any, range_with_len, slice_index_or}
use Rattle.label_search.specs.declared.charts.ChartCall.{ChartCall}
use Rattle.label_search.specs.declared.charts.ChartSpot.{ChartSpot}
use Rattle.label_search.specs.declared.charts.ChartWay.{ChartWay}
use Rattle.label_search.specs.declared.plans.Move.{Move}
use Rattle.label_search.specs.declared.plans.Place.{Place}
use Rattle.label_search.specs.declared.plans.Plan.{Plan}
use Rattle.label_search.specs.declared.plans.Target.{Target}
use Rattle.label_search.specs.declared.plans.Target.TheVariants.{Place as To, End}

-- what is asked of a train that has made so many calls
abbrev pub call_at : List ChartCall → ℕ → ChartCall
call_at calls made = slice_index_or calls made (record { blocks = []; dwell = pos 0 })

-- the train is called to halt at the end of the block
abbrev pub is_called : ChartCall → ℕ → Bool
is_called call block = list_any (λ one. nat_eq one block) call.blocks

-- a train may roll on at the end of any block, and halts where it is called
abbrev pub is_open : ChartCall → ChartWay → Bool
is_open call way = not way.halts || is_called call way.block

-- how many calls are made behind a way
abbrev pub made_behind : Bool → ℕ → ℕ
made_behind halts made = if halts then made + 1 else made

-- a halt at the last of so many calls ends the path
abbrev pub ends_path : ℕ → ℕ → Bool → Bool
ends_path levels made halts = halts && nat_le levels (made + 1)

-- the number of the place at a spot where so many calls are made; the start has 0
abbrev pub number_over : ℕ → ℕ → ℕ → ℕ
number_over levels spot made = spot * levels + made + 1

abbrev pub target_over : ℕ → ℕ → ChartWay → Target
target_over levels made way =
    if ends_path levels made way.halts
    then End
    else To (number_over levels way.next (made_behind way.halts made))

-- the move that an open way is where so many calls are made
abbrev pub move_of_way : ℕ → ℕ → ChartWay → Move
move_of_way levels made way = record {
  target = target_over levels made way;
  run = way.run;
  pieces = if ends_path levels made way.halts then way.ending else way.pieces;
}

-- of the ways those that are open
abbrev pub open_among : ChartCall → List ChartWay → List ChartWay
open_among call ways = filter (is_open call) ways

-- the open way of a number
abbrev pub way_among : ChartCall → List ChartWay → ℕ → ChartWay
way_among call ways number = slice_index_or (open_among call ways) number (record {
  block = 0;
  halts = false;
  next = 0;
  run = pos 0;
  pieces = [];
  ending = [];
})

-- the same where so many calls are made
abbrev pub open_ways : List ChartCall → ℕ → List ChartWay → List ChartWay
open_ways calls made ways = open_among (call_at calls made) ways

abbrev pub moves_over : List ChartCall → ℕ → List ChartWay → List Move
moves_over calls made ways = map (move_of_way (length calls) made) (open_ways calls made ways)

abbrev pub spot_at : List ChartSpot → ℕ → ChartSpot
spot_at spots number =
    slice_index_or spots number (record { standing = false; waits = []; ways = [] })

abbrev pub dwell_over : List ChartCall → ℕ → Bool → ℤ
dwell_over calls made standing = if standing then (call_at calls made).dwell else pos 0

-- the place at a spot where so many calls are made
abbrev pub stay_over : List ChartCall → ℕ → ChartSpot → Place
stay_over calls made spot = record {
  standing = spot.standing;
  dwell = dwell_over calls made spot.standing;
  waits = spot.waits;
  moves = moves_over calls made spot.ways;
}

-- the place of a number
abbrev pub place_over : List ChartSpot → List ChartWay → List ChartCall → ℕ → Place
place_over spots starts calls zero = record {
  standing = true;
  dwell = dwell_over calls 0 true;
  waits = [];
  moves = moves_over calls 0 starts;
}
place_over spots starts calls (suc number) =
    stay_over calls (number % length calls) (spot_at spots (number / length calls))

abbrev pub count_over : List ChartSpot → List ChartCall → ℕ
count_over spots calls = length spots * length calls + 1

abbrev pub places_over : List ChartSpot → List ChartWay → List ChartCall → List Place
places_over spots starts calls =
    map (place_over spots starts calls) (range_with_len 0 (count_over spots calls))

-- the plan of calls over a chart, from the ways of the start
abbrev pub plan_over : List ChartSpot → List ChartWay → List ChartCall → ℤ → Plan
plan_over spots starts calls horizon = record {
  places = places_over spots starts calls;
  horizon = horizon;
}

-- the ways from the place of a number, open or not
abbrev pub ways_over : List ChartSpot → List ChartWay → List ChartCall → ℕ → List ChartWay
ways_over spots starts calls zero = starts
ways_over spots starts calls (suc number) = (spot_at spots (number / length calls)).ways

abbrev pub made_over : List ChartCall → ℕ → ℕ
made_over calls zero = 0
made_over calls (suc number) = number % length calls

-- the way that a move from the place of a number is
abbrev pub way_over : List ChartSpot → List ChartWay → List ChartCall → ℕ → ℕ → ChartWay
way_over spots starts calls place number =
    way_among (call_at calls (made_over calls place)) (ways_over spots starts calls place) number

-- the place of a number
abbrev pub place_among : List Place → ℕ → Place
place_among places number = slice_index_or places number (record {
  standing = false;
  dwell = pos 0;
  waits = [];
  moves = [];
})

-- the move of a number
abbrev pub move_among : List Move → ℕ → Move
move_among moves number =
    slice_index_or moves number (record { target = End; run = pos 0; pieces = [] })

-- each way leads to one of so many spots
abbrev pub LeadWithin : ℕ → List ChartWay → Type 0
LeadWithin count ways = All (λ way. way.next < count) ways

-- each way of a chart, and each from the start, leads to a spot of the chart
pub record LeadOnChart (spots : List ChartSpot) (starts : List ChartWay) : Type 0 where
  pub starts_lead : LeadWithin (length spots) starts
  pub ways_lead : All (λ spot. LeadWithin (length spots) spot.ways) spots

-- there is a call, and no more calls and places than have numbers
pub record HasNumbers (spots : List ChartSpot) (calls : List ChartCall) : Type 0 where
  pub called : 0 < length calls
  pub few_calls : length calls < 2 ^ 31
  pub few : (length spots * length calls) < 2 ^ 31
