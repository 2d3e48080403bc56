-- What is lent of a plan over a chart is what the plan has, and so it is of what is ahead.
use Rattle.std.proofs.Common.{ℕ, ◌≡◌, ◌<◌, ◌≤◌, ◌-◌, ◌∙◌, Bor, sym, ap, arith, subst, List, [], ◌∷◌}
use Rattle.std.proofs.Common.{length, drop, get_or, map, All, Bool, true, false, cond}
use Rattle.std.specs.Prelude.{pos, suc, ◌+◌, ◌/◌, ◌%◌, ◌^◌}
use Rattle.std.proofs.lemmas.List.{length-map, length-drop, drop-drop, get_or-drop, get_or-map}
use Rattle.std.proofs.lemmas.List.Sums.{length-filter, count_by-le-length}
use Rattle.std.proofs.lemmas.List.Elements.{All-get_or, All-filter}
use Rattle.std.proofs.lemmas.List.FromFn.{length-map-range_with_len, get_or-map-range_with_len}
use Rattle.label_search.specs.declared.chart_loans.Charted.{Charted}
use Rattle.label_search.specs.declared.chart_loans.ChartedWays.{ChartedWays}
use Rattle.label_search.specs.declared.charts.ChartCall.{ChartCall}
use Rattle.label_search.specs.declared.charts.ChartSpot.{ChartSpot}
use Rattle.label_search.specs.declared.charts.ChartWay.{ChartWay}
use Rattle.label_search.specs.declared.lent.Lender.{Lender}
use Rattle.label_search.specs.declared.lent.Lender.TheVariants as lender
use Rattle.label_search.specs.declared.lent.MovesLender.{MovesLender}
use Rattle.label_search.specs.declared.lent.MovesLender.TheVariants as moves_lender
use Rattle.label_search.specs.declared.lent_limits.AheadLender.{AheadLender}
use Rattle.label_search.specs.declared.lent_limits.AheadLender.TheVariants as ahead_lender
use Rattle.label_search.specs.declared.limits.Ahead.{Ahead}
use Rattle.label_search.specs.declared.nearing.Near.{Near}
use Rattle.label_search.specs.declared.plans.Move.{Move}
use Rattle.label_search.specs.declared.plans.Place.{Place}
use Rattle.label_search.specs.declared.plans.Plan.{Plan}
use Rattle.label_search.specs.declared.plans.Target.TheVariants.{End}
use Rattle.label_search.specs.declared.sum_loans.Summed.{Summed}
use Rattle.label_search.specs.Charts.{count_over, is_open, move_among, move_of_way}
use Rattle.label_search.specs.Charts.{number_over, open_among, place_among, place_over, spot_at}
use Rattle.label_search.specs.Charts.{made_over, stay_over, way_among, ways_over}
use Rattle.label_search.specs.Lent.{moves_lent, places_lent}
use Rattle.label_search.specs.LentLimits.{aheads_lent}
use Rattle.label_search.specs.Paths.{move_at, place_at}
use Rattle.label_search.specs.Nearing.{aheads_over}

-- there are as many places as the chart says
pub places_counted : (lent : Lender) (charted : Charted) (places : List Place)
    → lent ≡ lender.Charted charted → places_lent lent ≡ places
    → count_over charted.spots.now charted.calls.now ≡ length places
places_counted lent charted places is seen =
    sym (length-map-range_with_len
    (place_over charted.spots.now charted.starts.now charted.calls.now) 0
    (count_over charted.spots.now charted.calls.now))
    ∙ ap length (ap places_lent (sym is) ∙ seen)

-- the place of a number over the chart is that of the plan
pub place_lent : (lent : Lender) (charted : Charted) (places : List Place) (number : ℕ)
    → lent ≡ lender.Charted charted → places_lent lent ≡ places
    → number < count_over charted.spots.now charted.calls.now
    → place_over charted.spots.now charted.starts.now charted.calls.now number
    ≡ place_among places number
place_lent lent charted places number is seen within =
    sym (get_or-map-range_with_len
    (place_over charted.spots.now charted.starts.now charted.calls.now) 0
    (count_over charted.spots.now charted.calls.now) number number _ within (omega arith))
    ∙ ap (λ (all : List Place). place_among all number) (ap places_lent (sym is) ∙ seen)

-- there are as many moves as open ways
pub moves_counted : (lent : MovesLender) (charted : ChartedWays) (moves : List Move)
    → lent ≡ moves_lender.Charted charted → moves_lent lent ≡ moves
    → length (open_among charted.call.now charted.ways.now) ≡ length moves
moves_counted lent charted moves is seen =
    sym (length-map (open_among charted.call.now charted.ways.now)
    (move_of_way charted.levels charted.made))
    ∙ ap length (ap moves_lent (sym is) ∙ seen)

-- a place that is not the start is at a spot
pub place_stays : (spots : List ChartSpot) (starts : List ChartWay) (calls : List ChartCall)
    (number before : ℕ) → number ≡ suc before → place_over spots starts calls number
    ≡ stay_over calls (before % length calls) (spot_at spots (before / length calls))
place_stays spots starts calls number before is =
    ap (λ (at : ℕ). place_over spots starts calls at) is

pub ways_stay : (spots : List ChartSpot) (starts : List ChartWay) (calls : List ChartCall)
    (number before : ℕ) → number ≡ suc before → ways_over spots starts calls number
    ≡ (spot_at spots (before / length calls)).ways
ways_stay spots starts calls number before is =
    ap (λ (at : ℕ). ways_over spots starts calls at) is

pub made_stays : (calls : List ChartCall) (number before : ℕ) → number ≡ suc before
    → made_over calls number ≡ before % length calls
made_stays calls number before is = ap (λ (at : ℕ). made_over calls at) is

-- the open way of a number is the move of the plan
pub move_lent : (lent : MovesLender) (charted : ChartedWays) (moves : List Move) (number : ℕ)
    → lent ≡ moves_lender.Charted charted → moves_lent lent ≡ moves
    → number < length (open_among charted.call.now charted.ways.now)
    → move_of_way charted.levels charted.made
    (way_among charted.call.now charted.ways.now number)
    ≡ move_among moves number
move_lent lent charted moves number is seen within =
    sym (get_or-map (move_of_way charted.levels charted.made)
    (open_among charted.call.now charted.ways.now) number _ _ within)
    ∙ ap (λ (all : List Move). move_among all number) (ap moves_lent (sym is) ∙ seen)

-- an open way leads to a place that has a number
pub way_numbered : (levels made : ℕ) (call : ChartCall) (ways : List ChartWay) (number : ℕ)
    (way : ChartWay) → All (λ way. number_over levels way.next (made + 1) < 2 ^ 32) ways
    → number < length (open_among call ways) → way ≡ way_among call ways number
    → number_over levels way.next (made + 1) < 2 ^ 32
way_numbered levels made call ways number way few within is =
    let numbered : ChartWay → Type 0 =
    λ way. number_over levels way.next (made + 1) < 2 ^ 32 in
    subst numbered (sym is) (All-get_or numbered (open_among call ways) number _ within
    (All-filter (is_open call) numbered ways few))

-- the sums over a chart are what is ahead
pub sums_lent : (lent : AheadLender) (summed : Summed) (all : List Ahead)
    → lent ≡ ahead_lender.Summed summed → aheads_lent lent ≡ all
    → aheads_over summed.chart.now.spots summed.calls.now
    (map (λ (near : Bor Near). near.now) summed.nears.now) summed.rests.now ≡ all
sums_lent lent summed all is seen = ap aheads_lent (sym is) ∙ seen

-- no more ways are open than there are
pub open_few : (call : ChartCall) (ways : List ChartWay)
    → length (open_among call ways) ≤ length ways
open_few call ways =
    omega (arith, length-filter (is_open call) ways, count_by-le-length (is_open call) ways)

-- the first of the ways that are left
module _ (call : ChartCall) (way : ChartWay) (left behind all : List ChartWay)
    (begins : left ≡ way ∷ behind) (same : open_among call left ≡ open_among call all) where
  pub way_passed : is_open call way ≡ false → open_among call behind ≡ open_among call all
  way_passed closed =
      sym (ap (λ (b : Bool). cond b (way ∷ open_among call behind) (open_among call behind))
      closed)
      ∙ (sym (ap (open_among call) begins) ∙ same)

  way_found : is_open call way ≡ true → open_among call all ≡ way ∷ open_among call behind
  way_found found =
      sym same
      ∙ (ap (open_among call) begins
      ∙ ap (λ (b : Bool). cond b (way ∷ open_among call behind) (open_among call behind)) found)

  pub moves_found : (levels made : ℕ) → is_open call way ≡ true → (step : Move) (moves : List Move)
      → step ≡ move_of_way levels made way
      → moves ≡ map (move_of_way levels made) (open_among call behind)
      → map (move_of_way levels made) (open_among call all) ≡ step ∷ moves
  moves_found levels made found step moves step_is moves_are =
      ap (map (move_of_way levels made)) (way_found found)
      ∙ (ap (λ (one : Move). one ∷ map (move_of_way levels made) (open_among call behind))
      (sym step_is)
      ∙ ap (λ (more : List Move). step ∷ more) (sym moves_are))

-- where no ways are left none was open
pub none_open : (call : ChartCall) (left all : List ChartWay) → length left ≡ 0
    → open_among call left ≡ open_among call all → open_among call all ≡ []
none_open call [] all none same = sym same
none_open call (way ∷ left) all none same =
    let some : suc (length left) ≡ 0 = none in absurd (omega arith)

-- the moves of a place from a number on
module _ (plan : Plan) (place number : ℕ) (left : List Move)
    (from : drop number (place_at plan place).moves ≡ left) where
  pub none_left : left ≡ [] → length (place_at plan place).moves ≤ number
  none_left none =
      let size : length (place_at plan place).moves - number ≡ 0 =
      sym (length-drop number (place_at plan place).moves) ∙ ap length (from ∙ none) in
      omega arith

  module _ (step : Move) (behind : List Move) (begins : left ≡ step ∷ behind) where
    pub step_within : number < length (place_at plan place).moves
    step_within =
        let size : length (place_at plan place).moves - number ≡ suc (length behind) =
        sym (length-drop number (place_at plan place).moves) ∙ ap length (from ∙ begins) in
        omega arith

    first_is : (other : Move) → step ≡ get_or (place_at plan place).moves number other
    first_is other =
        let same : number + 0 ≡ number = omega arith in
        sym (ap (λ (moves : List Move). get_or moves 0 other) (from ∙ begins))
        ∙ (get_or-drop number (place_at plan place).moves 0 other
        ∙ ap (λ (n : ℕ). get_or (place_at plan place).moves n other) same)

    pub step_is : step ≡ move_at plan place number
    step_is = first_is (record { target = End; run = pos 0; pieces = [] })

    pub behind_are : drop (number + 1) (place_at plan place).moves ≡ behind
    behind_are =
        sym (drop-drop 1 number (place_at plan place).moves)
        ∙ ap (λ (moves : List Move). drop 1 moves) (from ∙ begins)
