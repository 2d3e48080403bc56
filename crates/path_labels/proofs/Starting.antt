-- The ways with which a path of a request begins.
use Rattle.std.proofs.Common.{◌≡◌, ◌∙◌, inl, inr, sym, ap, refl, subst, arith, ℕ, ◌+◌, ◌<◌, ◌≤◌, List, [], ◌∷◌, ◌++◌, length, map, take, get_or, Some, All, Contains}
use Rattle.std.specs.Prelude.{slice_get}
use Rattle.std.proofs.lemmas.List.{map-append, take_all, take_more}
use Rattle.std.proofs.lemmas.List.Elements.{All-nil, All-push, Contains-append_left, Contains-get_or, Contains-push, Contains-push_cases}
use Rattle.rail_types.specs.declared.tracks.Network.{Network}
use Rattle.rail_types.specs.declared.trains.Request.{Request}
use Rattle.rail_types.specs.declared.trains.Train.{Train}
use Rattle.rail_types.specs.declared.entries.Settings.{Settings}
use Rattle.rail_types.specs.Limits.{IsSettingsWithinLimits}
use Rattle.running_time.specs.declared.edges.Edge.{Edge}
use Rattle.running_time.specs.declared.edges.Edge.TheVariants.{Still as Halted, Rolling}
use Rattle.blocking_time.specs.Runs.{block_at}
use Rattle.stair_pieces.specs.declared.places.Place.{Place}
use Rattle.stair_pieces.specs.declared.places.Step.{Step}
use Rattle.stair_pieces.specs.Places.{start_place}
use Rattle.stair_pieces.specs.Steps.{IsPlaceIn}
use Rattle.tail_states.specs.declared.ways.Way.{Way}
use Rattle.tail_states.specs.Following.{AreServing}
use Rattle.tail_states.specs.Spots.{HasWay, IsStride, MayRun, SoundNetworksAreRun, spot_after}
use Rattle.label_search.specs.declared.charts.ChartWay.{ChartWay}
use Rattle.path_labels.specs.declared.train_charts.TrainChart.{TrainChart}
use Rattle.path_labels.specs.ChartCourses.{AddsStarts, AreStarts, IsBeginning, IsStartWay}
use Rattle.path_labels.specs.TrainCharts.{IsChartOf, way_in}

-- the chart of a train is that of its own
pub own_chart : (net : Network) (settings : Settings) (train : Train) (chart : TrainChart) → IsChartOf net settings train chart → IsChartOf net settings chart.train chart
own_chart net settings train chart is = subst (λ t. IsChartOf net settings t chart) (sym is.train_is) is

-- the train of a chart may run
pub may_run : (law : SoundNetworksAreRun) (net : Network) (settings : Settings) (train : Train) (chart : TrainChart) → IsChartOf net settings train chart → MayRun net train
may_run law net settings train chart is = law net train is.flawless is.within

-- pieces may be asked of its start place
pub start_cut : (net : Network) (settings : Settings) (train : Train) (start : Place) → MayRun net train → IsSettingsWithinLimits settings → start ≡ start_place → IsPlaceIn net settings train start
start_cut net settings train start may timetable is = subst (IsPlaceIn net settings train) (sym is) (record {
  under = record { blocks = may.blocks; train_fits = may.train_fits; numbers = All-nil (λ block. block < length net.blocks) };
  timetable = timetable;
  entered = tt;
  begins = λ none. refl;
})

-- a train that rolls on may halt where a path begins
pub halts_too : (net : Network) (block : ℕ) → IsStride net start_place (record { block = block; exit = Rolling }) → IsStride net start_place (record { block = block; exit = Halted })
halts_too net block rolls = record { within = rolls.within; follows = rolls.follows; halts = λ is. rolls.follows }

-- a block that serves the origin is one of those with which a path begins
module _ (net : Network) (origin : ℕ) (lists : List (List ℕ)) (blocks : List ℕ) (serving : AreServing net (length net.blocks) lists) (are : get_or lists origin [] ≡ blocks) where
  pub serves_origin : (block : ℕ) → Contains blocks block → (block < length net.blocks) × Contains (block_at net block).serves origin
  serves_origin block has = serving.sound origin block (subst (λ l. Contains l block) (sym are) has)

  pub is_serving : (block : ℕ) → block < length net.blocks → Contains (block_at net block).serves origin → Contains blocks block
  is_serving block within serves = subst (λ l. Contains l block) are (serving.whole origin block within serves)

  pub sets_out : (block : ℕ) → Contains blocks block → IsStride net start_place (record { block = block; exit = Rolling })
  sets_out block has =
      let on = serves_origin block has in
      record { within = on.0; follows = λ none. served_by_none none on.1; halts = λ is. absurd (cc) }
    where
      served_by_none : {all : List ℕ} → all ≡ [] → Contains all origin → ⊥
      served_by_none none has_it = let wrong = subst (λ l. Contains l origin) none has_it in absurd (omega (arith, wrong.1))

-- both ways from the start onto each of these blocks
pub record AreStartsOver (net : Network) (settings : Settings) (request : Request) (spots : List Place) (blocks : List ℕ) (starts : List ChartWay) : Type 0 where
  pub listed : List Way
  pub sound : All (IsStartWay net request spots) listed
  pub whole : (step : Step) → Contains blocks step.block → HasWay listed step
  pub planned : starts ≡ map (way_in net settings request.train start_place) listed

has_pushed : (ways : List Way) (way : Way) (step : Step) → way.step ≡ step → HasWay (ways ++ way ∷ []) step
has_pushed ways way step is = (way.next, subst (Contains (ways ++ way ∷ [])) (λ j. record { step = is j; next = way.next }) (Contains-push ways way))

has_still : (ways : List Way) (way : Way) (step : Step) → HasWay ways step → HasWay (ways ++ way ∷ []) step
has_still ways way step has = (has.0, Contains-append_left ways (way ∷ []) (record { step = step; next = has.0 }) has.1)

module _ (net : Network) (settings : Settings) (request : Request) (chart : TrainChart) (train : chart.train ≡ request.train) where
  abbrev Begins : Way → Type 0
  Begins way = IsStartWay net request chart.spots.spots way

  abbrev planned_way : Way → ChartWay
  planned_way way = way_in net settings request.train start_place way

  pub starts_none : (starts : List ChartWay) → starts ≡ [] → AreStartsOver net settings request chart.spots.spots [] starts
  starts_none starts none = record {
    listed = [];
    sound = All-nil Begins;
    whole = λ step has. absurd (omega (arith, has.1));
    planned = none;
  }

  begins_by : (way : Way) (step : Step) → IsBeginning net request step → way.step ≡ step → slice_get chart.spots.spots way.next ≡ Some (spot_after net chart.train start_place step) → Begins way
  begins_by way step begins is leads = record {
    begins = subst (IsBeginning net request) (sym is) begins;
    leads = leads
        ∙ ap (λ (t : Train). Some (spot_after net t start_place step)) train
        ∙ ap (λ (s : Step). Some (spot_after net request.train start_place s)) (sym is);
  }

  planned_more : (old new : List ChartWay) (ways : List Way) (way : Way) → old ≡ map planned_way ways → new ≡ old ++ way_in net settings chart.train start_place way ∷ [] → new ≡ map planned_way (ways ++ way ∷ [])
  planned_more old new ways way is added =
      let longer : old ++ way_in net settings chart.train start_place way ∷ [] ≡ map planned_way ways ++ planned_way way ∷ [] = λ j. is j ++ way_in net settings (train j) start_place way ∷ [] in
      added ∙ longer ∙ sym (map-append planned_way ways (way ∷ []))

  -- the ways onto one block more
  starts_more : (blocks : List ℕ) (block : ℕ) (old new : List ChartWay) → (block < length net.blocks) × Contains (block_at net block).serves request.origin
      → AreStartsOver net settings request chart.spots.spots blocks old → AddsStarts net settings chart block old new
      → AreStartsOver net settings request chart.spots.spots (blocks ++ block ∷ []) new
  starts_more blocks block old new on are (mid, (rolls, rolls_is, rolls_lead, rolls_added), (halts, halts_is, halts_lead, halts_added)) = record {
    listed = (are.listed ++ rolls ∷ []) ++ halts ∷ [];
    sound = All-push Begins (are.listed ++ rolls ∷ []) halts
        (All-push Begins are.listed rolls are.sound (begins_by rolls (record { block = block; exit = Rolling }) (record { within = on.0; begins = on.1 }) rolls_is rolls_lead))
        (begins_by halts (record { block = block; exit = Halted }) (record { within = on.0; begins = on.1 }) halts_is halts_lead);
    whole = λ step has. elim (Contains-push_cases blocks block step.block has) [
      | inl before ↦ has_still (are.listed ++ rolls ∷ []) halts step (has_still are.listed rolls step (are.whole step before))
      | inr last ↦ subst (λ b. HasWay ((are.listed ++ rolls ∷ []) ++ halts ∷ []) (record { block = b; exit = step.exit })) last (onto step.exit)
    ];
    planned = planned_more mid new (are.listed ++ rolls ∷ []) halts (planned_more old mid are.listed rolls are.planned rolls_added) halts_added;
  }
    where
      onto : (exit : Edge) → HasWay ((are.listed ++ rolls ∷ []) ++ halts ∷ []) (record { block = block; exit = exit })
      onto Rolling = has_still (are.listed ++ rolls ∷ []) halts (record { block = block; exit = Rolling }) (has_pushed are.listed rolls (record { block = block; exit = Rolling }) rolls_is)
      onto Halted = has_pushed (are.listed ++ rolls ∷ []) halts (record { block = block; exit = Halted }) halts_is

  module _ (lists : List (List ℕ)) (blocks : List ℕ) (serving : AreServing net (length net.blocks) lists) (serve : get_or lists request.origin [] ≡ blocks) where
    -- the ways onto the next of the blocks
    pub starts_next : (at : ℕ) (old new : List ChartWay) → at < length blocks
        → AreStartsOver net settings request chart.spots.spots (take at blocks) old → AddsStarts net settings chart (get_or blocks at 0) old new
        → AreStartsOver net settings request chart.spots.spots (take (at + 1) blocks) new
    starts_next at old new within are adds =
        subst (λ l. AreStartsOver net settings request chart.spots.spots l new) (sym (take_more blocks at 0 within))
        (starts_more (take at blocks) (get_or blocks at 0) old new (serves_origin net request.origin lists blocks serving serve (get_or blocks at 0) (Contains-get_or blocks at 0 within)) are adds)

    -- those onto all of them are the ways of the start
    pub starts_all : (at : ℕ) (starts : List ChartWay) → length blocks ≤ at → AreStartsOver net settings request chart.spots.spots (take at blocks) starts → AreStarts net settings request chart.spots.spots starts
    starts_all at starts past are = record {
      listed = are.listed;
      sound = are.sound;
      whole = λ step begins. are.whole step (subst (λ l. Contains l step.block) (sym (take_all at blocks past)) (is_serving net request.origin lists blocks serving serve step.block begins.within begins.begins));
      planned = are.planned;
    }
