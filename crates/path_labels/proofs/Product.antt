-- What stands at the number of a spot and a count of stops made, among all spots with each count.
use Rattle.std.proofs.Common.{◌≡◌, ◌∙◌, sym, ap, subst, arith, ℕ, ◌+◌, ◌*◌, ◌/◌, ◌%◌, ◌<◌, List, [], length, map, get_or, Some}
use Rattle.std.specs.Prelude.{slice_get}
use Rattle.std.specs.List.{range_with_len}
use Rattle.std.proofs.lemmas.List.FromFn.{length-map-range_with_len, get_or-map-range_with_len}
use Rattle.std.proofs.lemmas.Nat.{div-mul-add, mod-mul-add, mul-add-lt}
use Rattle.std.proofs.lemmas.Option.{get_or_from_slice_get, same_Some, slice_get-get_or, slice_get_within}
use Rattle.std.proofs.Math.Nat.{mul_comm}
use Rattle.rail_types.specs.declared.tracks.Network.{Network}
use Rattle.rail_types.specs.declared.trains.Train.{Train}
use Rattle.rail_types.specs.declared.entries.Settings.{Settings}
use Rattle.stair_pieces.specs.declared.places.Place.{Place}
use Rattle.stair_pieces.specs.Places.{start_place}
use Rattle.tail_states.specs.declared.ways.Way.{Way}
use Rattle.tail_states.specs.Spots.{AreWaysFrom, IsSpotOf, with_made}
use Rattle.label_search.specs.Charts.{spot_at}
use Rattle.path_labels.specs.declared.train_charts.TrainChart.{TrainChart}
use Rattle.path_labels.specs.ChartCourses.{member_along, members_along}
use Rattle.path_labels.specs.TrainCharts.{IsChartOf, spot_in}

-- ---- a list that is made from the numbers below a count

module _ {X : Type 0} (f : ℕ → X) (count : ℕ) where
  pub numbered_count : length (map f (range_with_len 0 count)) ≡ count
  numbered_count = length-map-range_with_len f 0 count

  pub numbered_or : (number : ℕ) (d : X) → number < count → get_or (map f (range_with_len 0 count)) number d ≡ f number
  numbered_or number d within = get_or-map-range_with_len f 0 count number number d within (omega arith)

  pub numbered_at : (number : ℕ) → number < count → slice_get (map f (range_with_len 0 count)) number ≡ Some (f number)
  numbered_at number within =
      slice_get-get_or (map f (range_with_len 0 count)) number (f number) (subst (λ n. number < n) (sym numbered_count) within)
      ∙ ap Some (numbered_or number (f number) within)

  pub numbered_within : (number : ℕ) (x : X) → slice_get (map f (range_with_len 0 count)) number ≡ Some x → number < count
  numbered_within number x at = subst (λ n. number < n) numbered_count (slice_get_within (map f (range_with_len 0 count)) number x at)

  pub numbered_is : (number : ℕ) (x : X) → slice_get (map f (range_with_len 0 count)) number ≡ Some x → x ≡ f number
  numbered_is number x at = same_Some x (f number) (sym at ∙ numbered_at number (numbered_within number x at))

-- ---- each spot with each count of stops made

module _ (spots : List Place) (levels : ℕ) where
  pub members_count : length (members_along spots levels) ≡ length spots * levels
  members_count = numbered_count (member_along spots levels) (length spots * levels)

  -- a spot with a count of stops made is the place of their number
  pub member_at : (spot made : ℕ) (place : Place) → made < levels → slice_get spots spot ≡ Some place
      → slice_get (members_along spots levels) (spot * levels + made) ≡ Some (with_made place made)
  member_at spot made place less at =
      let here : spot < length spots = slice_get_within spots spot place at in
      let within : spot * levels + made < length spots * levels = subst (λ n. spot * levels + made < n) (mul_comm levels (length spots)) (mul-add-lt spot levels made (length spots) here less) in
      let there : get_or spots ((spot * levels + made) / levels) start_place ≡ place = ap (λ n. get_or spots n start_place) (div-mul-add spot levels made less) ∙ get_or_from_slice_get spots spot place start_place at in
      let rest : (spot * levels + made) % levels ≡ made = mod-mul-add spot levels made less in
      let same : member_along spots levels (spot * levels + made) ≡ with_made place made = λ j. with_made (there j) (rest j) in
      numbered_at (member_along spots levels) (length spots * levels) (spot * levels + made) within ∙ ap Some same

-- ---- the spots of a chart

module _ (net : Network) (settings : Settings) (train : Train) (chart : TrainChart) where
  -- the spot of a number with the ways from it, as they are charted
  pub record IsSpotAt (number : ℕ) (spot : Place) (own : List Way) : Type 0 where
    pub at : slice_get chart.spots.spots number ≡ Some spot
    pub sound : IsSpotOf net train spot
    pub ways : AreWaysFrom net train chart.spots.spots spot own
    pub charted : spot_at chart.chart.spots number ≡ spot_in net settings train spot own

  pub spot_is : IsChartOf net settings train chart → (number : ℕ) → number < length chart.spots.spots → IsSpotAt number (get_or chart.spots.spots number start_place) (get_or chart.spots.ways number [])
  spot_is is number within =
      let also : number < length chart.spots.ways = let same = is.spots.count in omega (arith, within, same) in
      let spot = get_or chart.spots.spots number start_place in
      let own = get_or chart.spots.ways number [] in
      let here : slice_get chart.spots.spots number ≡ Some (get_or chart.spots.spots number start_place) = slice_get-get_or chart.spots.spots number start_place within in
      let with : slice_get chart.spots.ways number ≡ Some (get_or chart.spots.ways number []) = slice_get-get_or chart.spots.ways number [] also in
      record {
        at = here;
        sound = is.spots.sound number start_place within;
        ways = is.spots.ways number spot own here with;
        charted = is.charted.spots number within spot own here with;
      }
