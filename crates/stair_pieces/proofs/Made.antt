-- Moves of a request that take their time are a path that keeps it.
use Rattle.std.proofs.Common.{◌≡◌, ◌∙◌, inl, inr, sym, ap, refl, subst, ℕ, zero, suc, ◌+◌, ◌<◌, ◌≤◌, Bool, true, false, List, [], ◌∷◌, length, drop, All, Contains, Option, Some, None, arith, add-one}
use Rattle.std.specs.Prelude.{slice_get}
use Rattle.std.proofs.lemmas.Grind.{common_steps}
use Rattle.std.proofs.lemmas.Int.{ints}
use Rattle.std.proofs.lemmas.List.Elements.{All-nil, All-cons}
use Rattle.rail_types.specs.declared.tracks.Block.{Block}
use Rattle.rail_types.specs.declared.tracks.Network.{Network}
use Rattle.rail_types.specs.declared.trains.Stop.{Stop}
use Rattle.rail_types.specs.declared.trains.Request.{Request}
use Rattle.rail_types.specs.declared.entries.Settings.{Settings}
use Rattle.rail_types.specs.declared.paths.Run.{Run}
use Rattle.rail_types.specs.declared.paths.Path.{Path}
use Rattle.running_time.specs.declared.edges.Enter.{Enter}
use Rattle.running_time.specs.declared.edges.Enter.TheVariants.{Still}
use Rattle.running_time.specs.declared.edges.Edge.TheVariants.{Still as Halted}
use Rattle.blocking_time.specs.Runs.{block_at, exit_of, entry_behind}
use Rattle.blocking_time.specs.Legs.{Leg, legs_from, EntersFrom, Follows, Enters, KeepAll, KeepsByLegs}
use Rattle.stair_pieces.specs.declared.places.Place.{Place}
use Rattle.stair_pieces.specs.Places.{start_place, step_of, head_block, entry_of, made_after, place_after}
use Rattle.stair_pieces.specs.Moves.{Reaches, MakesStop, MayLeave, IsMove, IsEnd, IsMadeOfMoves, AreMoves, GoesOnAfter, TakeTheirTime}
use Rattle.stair_pieces.proofs.Keeping.{StopsOn, StopsAsNamed, FirstServes, LastServes, KeepsRequest}
use Rattle.stair_pieces.proofs.Tails.{head_is}
use Rattle.stair_pieces.proofs.Moments.{leg_of, entry_after}
use Rattle.stair_pieces.proofs.Asked.{under_some}

-- the stops that are left
stops_from : (stops : List Stop) (made : ℕ) (stop : Stop) → slice_get stops made ≡ Some stop → drop made stops ≡ stop ∷ drop (made + 1) stops
stops_from stops made stop is = rw add-one (go stops made is)
  where
    go : (stops : List Stop) (made : ℕ) → slice_get stops made ≡ Some stop → drop made stops ≡ stop ∷ drop (suc made) stops
    go [] made is = cc
    go (first ∷ stops) zero is = let same : first ≡ stop = cc in ap (λ one. one ∷ stops) same
    go (first ∷ stops) (suc made) is = go stops made is

none_past : (stops : List Stop) (made : ℕ) (stop : Stop) → made ≡ length stops → slice_get stops made ≡ Some stop → ⊥
none_past [] made stop all is = cc
none_past (first ∷ stops) zero stop all is = omega arith
none_past (first ∷ stops) (suc made) stop all is = none_past stops made stop (omega arith) is

-- a train that stands has stopped
halts : (stops : Bool) → exit_of stops ≡ Halted → stops ≡ true
halts true is = refl
halts false is = cc

serves_some : (serves : List ℕ) (stop : ℕ) → Contains serves stop → ¬ (serves ≡ [])
serves_some [] stop (k, within, is) none = omega arith
serves_some (x ∷ xs) stop some none = cc

reached_from : (net : Network) (request : Request) (tail : List ℕ) (block : Block) → (tail ≡ [] → ⊥) → Reaches net request tail block → block.from_point ≡ (block_at net (head_block tail)).to_point
reached_from net request [] block some reaches = absurd (some refl)
reached_from net request (first ∷ tail) block some reaches = reaches

module _ (net : Network) (settings : Settings) (request : Request) (long : 1 ≤ request.train.length_m) where
  -- what a move that is no end makes where it stops
  stop_made : (place : Place) (run : Run) → IsMove net request place (step_of run) → ¬ IsEnd request place (step_of run) → run.stops ≡ true → MakesStop request place.made (block_at net run.block)
  stop_made place run move no_end stops =
      let leaves : MayLeave request place.made (block_at net run.block) (exit_of true) = subst (λ b. MayLeave request place.made (block_at net run.block) (exit_of b)) stops move.leaves in
      elim leaves [ inl makes ↦ makes | inr arrives ↦ absurd (no_end (ap exit_of stops, arrives.0)) ]

  keep : (runs : List Run) (run : Run) (place : Place) (entry : Enter) (before : Option Leg) → entry_of net request.train place ≡ entry
      → Follows before (leg_of net entry run) → Enters before (leg_of net entry run)
      → AreMoves net request place (run ∷ runs) → TakeTheirTime net settings request place (run ∷ runs)
      → KeepAll request.train settings before (legs_from net request.train entry (run ∷ runs)) × StopsAsNamed net (drop place.made request.stops) (run ∷ runs) × LastServes net request.destination (run ∷ runs)
  keep [] run place entry before same follows enters (move, end) time =
      let stops = halts run.stops end.0 in
      let leaves : MayLeave request place.made (block_at net run.block) (exit_of true) = subst (λ b. MayLeave request place.made (block_at net run.block) (exit_of b)) stops move.leaves in (
        (record { follows = follows; timed = rw same at time.timed; enters = enters; stops = stops; begins = time.begins; ends = time.ends }, tt),
        grind (arith, common_steps, end.1),
        elim leaves [ inl makes ↦ absurd (none_past request.stops place.made makes.0 end.1 makes.1) | inr arrives ↦ arrives.1 ],
      )
  keep (next ∷ runs) run place entry before same follows enters (move, no_end, moves) (time, goes_on, times) =
      let there = place_after net request.train place (step_of run) in
      let follows_there : (block_at net next.block).from_point ≡ (block_at net run.block).to_point =
      reached_from net request there.tail (block_at net next.block) (under_some net request.train long place.tail run.block) (first_reaches runs moves) ∙ ap (λ b. (block_at net b).to_point) (head_is net request.train long place.tail run.block) in
      let enters_there = enter_next run.stops refl goes_on in
      let again = keep runs next there (entry_behind request.train (block_at net run.block) run.stops) (Some (leg_of net entry run)) (entry_after net request.train place run long) follows_there enters_there moves times in (
        (record { follows = follows; timed = rw same at time.timed; enters = enters; stops = λ stops. serves_some (block_at net run.block).serves _ (stop_made place run move no_end stops).2; begins = time.begins; ends = time.ends }, again.0),
        named run.stops refl goes_on again.1,
        again.2,
      )
    where
      first_reaches : (runs : List Run) → AreMoves net request (place_after net request.train place (step_of run)) (next ∷ runs) → Reaches net request (place_after net request.train place (step_of run)).tail (block_at net next.block)
      first_reaches [] moves = moves.0.reaches
      first_reaches (other ∷ runs) moves = moves.0.reaches

      enter_next : (stops : Bool) → run.stops ≡ stops → GoesOnAfter request place.made stops run next → EntersFrom run.leave next.enter stops
      enter_next true is waits = let makes = stop_made place run move no_end is in let late = waits makes.0 makes.1 in omega (arith, ints)
      enter_next false is at_once = at_once

      named : (stops : Bool) → run.stops ≡ stops → GoesOnAfter request place.made stops run next → StopsAsNamed net (drop (made_after place.made (exit_of run.stops)) request.stops) (next ∷ runs)
          → StopsOn net (drop place.made request.stops) stops run next (λ left. StopsAsNamed net left (next ∷ runs))
      named true is waits others =
          let makes = stop_made place run move no_end is in
          (makes.0, drop (place.made + 1) request.stops, stops_from request.stops place.made makes.0 makes.1, makes.2, waits makes.0 makes.1, subst (λ b. StopsAsNamed net (drop (made_after place.made (exit_of b)) request.stops) (next ∷ runs)) is others)
      named false is at_once others = subst (λ b. StopsAsNamed net (drop (made_after place.made (exit_of b)) request.stops) (next ∷ runs)) is others

  all_keep : (runs : List Run) → 1 ≤ length runs → AreMoves net request start_place runs → TakeTheirTime net settings request start_place runs
      → KeepAll request.train settings None (legs_from net request.train Still runs) × FirstServes net request.origin runs × LastServes net request.destination runs × StopsAsNamed net request.stops runs
  all_keep [] some moves times = absurd (omega arith)
  all_keep (run ∷ []) some moves times = let all = keep [] run start_place Still None refl tt tt moves times in (all.0, moves.0.reaches, all.2, all.1)
  all_keep (run ∷ (next ∷ runs)) some moves times = let all = keep (next ∷ runs) run start_place Still None refl tt tt moves times in (all.0, moves.0.reaches, all.2, all.1)

-- moves go through blocks of the network
pub within_net : (net : Network) (request : Request) (runs : List Run) (place : Place) → AreMoves net request place runs → All (λ run. run.block < length net.blocks) runs
within_net net request [] place moves = All-nil (λ run. run.block < length net.blocks)
within_net net request (run ∷ []) place moves = All-cons (λ run. run.block < length net.blocks) run [] moves.0.within (All-nil (λ run. run.block < length net.blocks))
within_net net request (run ∷ (next ∷ runs)) place moves = All-cons (λ run. run.block < length net.blocks) run (next ∷ runs) moves.0.within (within_net net request (next ∷ runs) (place_after net request.train place (step_of run)) moves.2)

pub moves_are_a_path : (net : Network) (settings : Settings) (request : Request) (path : Path) → 1 ≤ request.train.length_m → 1 ≤ length path.runs → IsMadeOfMoves net settings request path
    → KeepsByLegs net settings path × KeepsRequest net request path
moves_are_a_path net settings request path long some made =
    let all = all_keep net settings request long path.runs some made.moves made.times in (
      subst (λ train. KeepAll train settings None (legs_from net train Still path.runs)) (sym made.train) all.0,
      record { train_is = made.train; origin = all.1; destination = all.2; stops = all.3; departs = made.departs; arrives = made.arrives },
    )
