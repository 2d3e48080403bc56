-- A request has no more places than the spots of its train with each count of stops made.
use Rattle.std.proofs.Common.{◌≡◌, ◌≢◌, ◌∙◌, inl, inr, sym, ap, subst, arith, ℕ, ◌+◌, ◌*◌, ◌<◌, ◌≤◌, List, [], ◌∷◌, length, get_or, Some, All, Contains}
use Rattle.std.specs.Prelude.{slice_get, AllPairs}
use Rattle.std.proofs.lemmas.Bool.{cases_order}
use Rattle.std.proofs.lemmas.List.Elements.{All-contains}
use Rattle.std.proofs.lemmas.Nat.{mul-add-lt, same_from_place}
use Rattle.std.proofs.lemmas.Option.{slice_get-get_or}
use Rattle.std.proofs.Math.Nat.{mul_comm}
use Rattle.indexmap.proofs.IndexTableLemmas.Probe.{pigeonhole}
use Rattle.rail_types.specs.declared.tracks.Block.{Block}
use Rattle.rail_types.specs.declared.tracks.Network.{Network}
use Rattle.rail_types.specs.declared.trains.Request.{Request}
use Rattle.running_time.specs.declared.edges.Edge.{Edge}
use Rattle.running_time.specs.declared.edges.Edge.TheVariants.{Still as Halted, Rolling}
use Rattle.blocking_time.specs.Runs.{block_at}
use Rattle.stair_pieces.specs.declared.places.Place.{Place}
use Rattle.stair_pieces.specs.declared.places.Step.{Step}
use Rattle.stair_pieces.specs.Places.{start_place}
use Rattle.stair_pieces.specs.Moves.{IsMove, IsPlace, MayLeave, Reaches, begun, gone_on}
use Rattle.tail_states.specs.Asked.{IsAsked}
use Rattle.tail_states.specs.Spots.{AreSpots, MayComeNext, IsStride, IsWayOf, Spotted, SpotsBoundPlaces, with_made}
use Rattle.tail_states.proofs.Adding.{has_number, same_some}
use Rattle.tail_states.proofs.Counting.{is_within, number_in}
use Rattle.tail_states.proofs.Moving.{from_place}
use Rattle.tail_states.proofs.Numbers.{contains_at}

none_contained : (numbers : List ℕ) (number : ℕ) → Contains numbers number → numbers ≡ [] → ⊥
none_contained numbers number has none = let there = subst (λ l. Contains l number) none has in omega (arith, there.1)

module _ (net : Network) (request : Request) where
  follows : (tail : List ℕ) (block : Block) → Reaches net request tail block → MayComeNext net tail block
  follows [] block reaches = none_contained block.serves request.origin reaches
  follows (first ∷ tail) block reaches = reaches

  halts : (made : ℕ) (block : Block) (exit : Edge) → MayLeave request made block exit → exit ≡ Halted → block.serves ≡ [] → ⊥
  halts made block Rolling leaves is = absurd (cc)
  halts made block Halted leaves is = elim leaves [
    | inl makes ↦ none_contained block.serves makes.0.stop makes.2
    | inr arrives ↦ none_contained block.serves request.destination arrives.1
  ]

  -- a move of the request is a stride, whatever stops are made
  stride_of : (place : Place) (step : Step) → IsMove net request place step → IsStride net (with_made place 0) step
  stride_of place step move = record {
    within = move.within;
    follows = follows place.tail (block_at net step.block) move.reaches;
    halts = halts place.made (block_at net step.block) step.exit move.leaves;
  }

  module _ (spotted : Spotted) (are : AreSpots net request.train spotted) where
    -- each place of the request is a spot, but for the stops made
    in_spots : (place : Place) → IsPlace net request place → Contains spotted.spots (with_made place 0)
    in_spots place (begun step move no_end) = are.starts step (stride_of start_place step move)
    in_spots place (gone_on before step among move no_end) =
        let at = has_number spotted.spots (with_made before 0) (in_spots before among) in
        let own = get_or spotted.ways at.0 [] in
        let got : slice_get spotted.ways at.0 ≡ Some (get_or spotted.ways at.0 []) = slice_get-get_or spotted.ways at.0 [] (omega (arith, at.1, are.count)) in
        let from = are.ways at.0 (with_made before 0) own at.2 got in
        let has = from.whole step (stride_of before step move) in
        let way = All-contains (IsWayOf net request.train spotted.spots (with_made before 0)) own (record { step = step; next = has.0 }) from.sound has.1 in
        contains_at spotted.spots has.0 _ way.leads

    abbrev levels : ℕ
    levels = length request.stops + 1

    -- the number of a place by its spot and the stops made
    abbrev number_of : Place → ℕ
    number_of place = number_in spotted.spots (with_made place 0) * levels + place.made

    module _ (asked : IsAsked net request) where
      made_within : (place : Place) → IsPlace net request place → place.made < levels
      made_within place among = let most = (from_place net request asked place among).made in omega (arith, most)

      number_within : (place : Place) → IsPlace net request place → number_of place < length spotted.spots * levels
      number_within place among =
          let here = is_within spotted.spots (with_made place 0) (in_spots place among) in
          subst (λ n. number_of place < n) (mul_comm levels (length spotted.spots)) (mul-add-lt (number_in spotted.spots (with_made place 0)) levels place.made (length spotted.spots) here.0 (made_within place among))

      -- places of one number are one
      one_place : (one other : Place) → IsPlace net request one → IsPlace net request other → number_of one ≡ number_of other → one ≡ other
      one_place one other among among_too same =
          let both = same_from_place (number_in spotted.spots (with_made one 0)) one.made (number_in spotted.spots (with_made other 0)) other.made levels (made_within one among) (made_within other among_too) same in
          let here = is_within spotted.spots (with_made one 0) (in_spots one among) in
          let there = is_within spotted.spots (with_made other 0) (in_spots other among_too) in
          let spot : with_made one 0 ≡ with_made other 0 = same_some (sym here.1 ∙ (ap (slice_get spotted.spots) both.0 ∙ there.1)) in
          λ j. with_made (spot j) (both.1 j)

      no_longer : (places : List Place) → AllPairs (λ one other. one ≢ other) places → All (IsPlace net request) places → length places ≤ length spotted.spots * levels
      no_longer places distinct all = pigeonhole (length places) (length spotted.spots * levels) (λ i. number_of (get_or places i start_place))
          (λ i within. number_within (get_or places i start_place) (all i start_place within))
          (λ i j i_within j_within same.
          let alike : get_or places i start_place ≡ get_or places j start_place = one_place (get_or places i start_place) (get_or places j start_place) (all i start_place i_within) (all j start_place j_within) same in
          elim (cases_order i j) [
            | inl equal ↦ equal
            | inr (inl before) ↦ absurd (distinct i j start_place before j_within alike)
            | inr (inr behind) ↦ absurd (distinct j i start_place behind i_within (sym alike))
          ])

pub spots_bound_places : SpotsBoundPlaces
spots_bound_places net request spotted asked are enough (places, more, distinct, all) =
    let least = no_longer net request spotted are asked places distinct all in omega (arith, more, least, enough)
