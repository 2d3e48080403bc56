-- The chart of a train, way by way.
use Rattle.std.proofs.Common.{◌≡◌, ◌∙◌, ap, ℤ, pos, ◌+ℤ◌, Bool, true, false, List, [], ◌++◌}
use Rattle.rail_types.specs.declared.tracks.Network.{Network}
use Rattle.rail_types.specs.declared.trains.Train.{Train}
use Rattle.rail_types.specs.declared.entries.Settings.{Settings}
use Rattle.rail_types.specs.declared.paths.Claim.{Claim}
use Rattle.running_time.specs.declared.edges.Edge.{Edge}
use Rattle.running_time.specs.declared.edges.Edge.TheVariants.{Still as Halted, Rolling}
use Rattle.stair_pieces.specs.declared.places.Place.{Place}
use Rattle.stair_pieces.specs.declared.places.Step.{Step}
use Rattle.stair_pieces.specs.Places.{place_after, standing_zones, stands_after}
use Rattle.stair_pieces.specs.Pieces.{kept, pieces_of}
use Rattle.tail_states.specs.declared.ways.Way.{Way}
use Rattle.label_search.specs.declared.charts.ChartWay.{ChartWay}
use Rattle.path_labels.specs.Plans.{ticks_in}
use Rattle.path_labels.specs.TrainCharts.{ending_in, way_in}

module _ (net : Network) (settings : Settings) (train : Train) (spot : Place) where
  -- what is claimed in place of the pieces of a step where it ends the path
  pub ending_is : (step : Step) (exit : Edge) (halts : Bool) (after : Place) (claims ending : List Claim) (ticks till : ℤ) → halts ≡ stands_after exit
      → after ≡ place_after net train spot step → claims ≡ pieces_of net settings train spot step → ticks ≡ ticks_in net settings train spot step → till ≡ ticks +ℤ pos settings.release
      → (halts ≡ true → ending ≡ claims ++ kept (standing_zones net train after) ticks till) → (halts ≡ false → ending ≡ [])
      → ending ≡ ending_in net settings train spot step exit
  ending_is step Rolling halts after claims ending ticks till same behind cut took release halted rolling = rolling same
  ending_is step Halted halts after claims ending ticks till same behind cut took release halted rolling =
      let pieces = pieces_of net settings train spot step in
      let zones = standing_zones net train (place_after net train spot step) in
      halted same
      ∙ (ap (λ (all : List Claim). all ++ kept (standing_zones net train after) ticks till) cut
      ∙ (ap (λ (place : Place). pieces ++ kept (standing_zones net train place) ticks till) behind
      ∙ (ap (λ (end : ℤ). pieces ++ kept zones ticks end) release
      ∙ ap (λ (begin : ℤ). pieces ++ kept zones begin (begin +ℤ pos settings.release)) took)))

  pub way_is : (way : Way) (halts : Bool) (run : ℤ) (pieces ending : List Claim) → halts ≡ stands_after way.step.exit → run ≡ ticks_in net settings train spot way.step
      → pieces ≡ pieces_of net settings train spot way.step → ending ≡ ending_in net settings train spot way.step way.step.exit
      → ◌≡◌ {A = ChartWay} (record { block = way.step.block; halts = halts; next = way.next; run = run; pieces = pieces; ending = ending }) (way_in net settings train spot way)
  way_is way halts run pieces ending halts_is run_is pieces_are ended =
      λ j. record {
        block = way.step.block;
        halts = halts_is j;
        next = way.next;
        run = run_is j;
        pieces = pieces_are j;
        ending = ended j;
      }
