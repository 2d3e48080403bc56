-- A path that keeps a request is a list of its moves.
use Rattle.std.proofs.Common.{◌≡◌, inl, inr, sym, ap, refl, subst, ℕ, zero, suc, ◌+◌, ◌<◌, ◌≤◌, pos, ◌+ℤ◌, ◌≤ℤ◌, Bool, true, false, List, [], ◌∷◌, ◌++◌, length, drop, All, Contains, Option, Some, None, arith, length-drop, add-one}
use Rattle.std.specs.Prelude.{slice_get}
use Rattle.std.proofs.lemmas.Bool.Decides.{leb_tells}
use Rattle.std.proofs.lemmas.List.Elements.{All-head, All-tail}
use Rattle.rail_types.specs.declared.tracks.Block.{Block}
use Rattle.rail_types.specs.declared.tracks.Network.{Network}
use Rattle.rail_types.specs.declared.trains.Train.{Train}
use Rattle.rail_types.specs.declared.trains.Stop.{Stop}
use Rattle.rail_types.specs.declared.trains.Request.{Request}
use Rattle.rail_types.specs.declared.entries.Settings.{Settings}
use Rattle.rail_types.specs.declared.paths.Run.{Run}
use Rattle.rail_types.specs.declared.paths.Path.{Path}
use Rattle.running_time.specs.declared.edges.Enter.{Enter}
use Rattle.running_time.specs.declared.edges.Enter.TheVariants.{Still}
use Rattle.running_time.specs.declared.edges.Edge.TheVariants.{Still as Halted, Rolling}
use Rattle.blocking_time.specs.Runs.{block_at, exit_of, entry_behind}
use Rattle.blocking_time.specs.Legs.{Leg, legs_from, EntersFrom, KeepAll, KeepsByLegs}
use Rattle.stair_pieces.specs.declared.places.Place.{Place}
use Rattle.stair_pieces.specs.declared.places.Step.{Step}
use Rattle.stair_pieces.specs.Places.{start_place, step_of, head_block, entry_of, under_train, metres_of, made_after, place_after}
use Rattle.stair_pieces.specs.Moves.{Reaches, IsMove, IsEnd, IsPlace, begun, gone_on, AreMoves, ArePlaces, GoesOnAfter, TakeTheirTime}
use Rattle.stair_pieces.proofs.Keeping.{StopsOn, StopsAsNamed, FirstServes, LastServes, KeepsRequest}
use Rattle.stair_pieces.proofs.Tails.{is_cleared, head_is}
use Rattle.stair_pieces.proofs.Moments.{entry_after}

-- the stops that are left
stop_there : (stops : List Stop) (made : ℕ) (stop : Stop) (left : List Stop) → drop made stops ≡ stop ∷ left → slice_get stops made ≡ Some stop
stop_there [] zero stop left is = cc
stop_there [] (suc made) stop left is = cc
stop_there (first ∷ stops) zero stop left is = cc
stop_there (first ∷ stops) (suc made) stop left is = stop_there stops made stop left is

stops_then : (stops : List Stop) (made : ℕ) (stop : Stop) (left : List Stop) → drop made stops ≡ stop ∷ left → drop (made + 1) stops ≡ left
stops_then stops made stop left is = rw add-one (go stops made is)
  where
    go : (stops : List Stop) (made : ℕ) → drop made stops ≡ stop ∷ left → drop (suc made) stops ≡ left
    go [] zero is = cc
    go [] (suc made) is = cc
    go (first ∷ stops) zero is = cc
    go (first ∷ stops) (suc made) is = go stops made is

-- a place behind a run has blocks under its train
pub under_some : (net : Network) (train : Train) → 1 ≤ train.length_m → (blocks : List ℕ) (block : ℕ) → under_train net train (blocks ++ block ∷ []) ≡ [] → ⊥
under_some net train long [] block = rw (is_cleared 1 train.length_m long) (λ is. cc)
under_some net train long (first ∷ blocks) block = elim (leb_tells (suc (metres_of net (blocks ++ block ∷ []))) train.length_m) [
  | inl tells ↦ rw (tells.0) (λ is. cc)
  | inr tells ↦ rw (tells.0) (under_some net train long blocks block)
]

reaches_on : (net : Network) (request : Request) (tail : List ℕ) (block : Block) → (tail ≡ [] → ⊥) → block.from_point ≡ (block_at net (head_block tail)).to_point → Reaches net request tail block
reaches_on net request [] block some is = absurd (some refl)
reaches_on net request (first ∷ tail) block some is = is

module _ (net : Network) (settings : Settings) (request : Request) (long : 1 ≤ request.train.length_m) where
  abbrev Named : Place → List Run → Type 0
  Named place runs = StopsAsNamed net (drop place.made request.stops) runs

  -- the last run ends the path
  ends : (place : Place) (run : Run) → place.made ≤ length request.stops → drop place.made request.stops ≡ [] → run.stops ≡ true → run.block < length net.blocks
      → Reaches net request place.tail (block_at net run.block) → Contains (block_at net run.block).serves request.destination → IsMove net request place (step_of run) × IsEnd request place (step_of run)
  ends place run most none stops within reaches serves =
      let all : place.made ≡ length request.stops = omega (arith, length-drop place.made request.stops, ap length none) in
      (record { within = within; reaches = reaches; leaves = rw stops (inr (all, serves)) }, (rw stops refl, all))

  moves : (runs : List Run) (run : Run) (place : Place) (entry : Enter) (before : Option Leg) → place.made ≤ length request.stops → Named place (run ∷ runs)
      → KeepAll request.train settings before (legs_from net request.train entry (run ∷ runs)) → All (λ run. run.block < length net.blocks) (run ∷ runs)
      → Reaches net request place.tail (block_at net run.block) → LastServes net request.destination (run ∷ runs) → AreMoves net request place (run ∷ runs)
  moves [] run place entry before most named (rules, keep) within reaches serves = ends place run most named rules.stops (All-head (λ run. run.block < length net.blocks) run [] within) reaches serves
  moves (next ∷ runs) run place entry before most named (rules, (following, keep)) within reaches serves =
      let there = place_after net request.train place (step_of run) in
      let reaches_there : Reaches net request there.tail (block_at net next.block) = reaches_on net request there.tail (block_at net next.block) (under_some net request.train long place.tail run.block) (rw (head_is net request.train long place.tail run.block) following.follows) in
      go run.stops refl named (λ most_there named_there. moves runs next there (entry_behind request.train (block_at net run.block) run.stops) _ most_there named_there (following, keep) (All-tail (λ run. run.block < length net.blocks) run (next ∷ runs) within) reaches_there serves)
    where
      go : (stops : Bool) → run.stops ≡ stops → StopsOn net (drop place.made request.stops) stops run next (λ left. StopsAsNamed net left (next ∷ runs))
          → ((place_after net request.train place (step_of run)).made ≤ length request.stops → Named (place_after net request.train place (step_of run)) (next ∷ runs) → AreMoves net request (place_after net request.train place (step_of run)) (next ∷ runs))
          → AreMoves net request place (run ∷ (next ∷ runs))
      go true is (stop, left, is_named, on, dwell, others) again =
          let made_there : made_after place.made (exit_of run.stops) ≡ place.made + 1 = rw is refl in
          let less : place.made < length request.stops = omega (arith, length-drop place.made request.stops, ap length is_named) in (
            record { within = All-head (λ run. run.block < length net.blocks) run (next ∷ runs) within; reaches = reaches; leaves = rw is (inl (stop, stop_there request.stops place.made stop left is_named, on)) },
            λ end. (let all = end.1 in omega arith),
            again (rw made_there (omega arith)) (subst (λ n. StopsAsNamed net (drop n request.stops) (next ∷ runs)) (sym made_there) (rw (stops_then request.stops place.made stop left is_named) others)),
          )
      go false is others again =
          let made_there : made_after place.made (exit_of run.stops) ≡ place.made = rw is refl in (
            record { within = All-head (λ run. run.block < length net.blocks) run (next ∷ runs) within; reaches = reaches; leaves = rw is tt },
            λ end. (let halts : Rolling ≡ Halted = rw is at end.0 in cc),
            again (rw made_there most) (subst (λ n. StopsAsNamed net (drop n request.stops) (next ∷ runs)) (sym made_there) others),
          )

  -- they take their time
  goes_on_after : (place : Place) (run next : Run) (runs : List Run) (stops : Bool) → EntersFrom run.leave next.enter stops → StopsOn net (drop place.made request.stops) stops run next (λ left. StopsAsNamed net left (next ∷ runs)) → GoesOnAfter request place.made stops run next
  goes_on_after place run next runs true enters (stop, left, is_named, on, dwell, others) = λ named there.
      let same : stop ≡ named = let one = stop_there request.stops place.made stop left is_named in cc in
      subst (λ one. (run.leave +ℤ pos one.dwell) ≤ℤ next.enter) same dwell
  goes_on_after place run next runs false enters others = enters

  named_on : (place : Place) (run next : Run) (runs : List Run) (stops : Bool) → run.stops ≡ stops → StopsOn net (drop place.made request.stops) stops run next (λ left. StopsAsNamed net left (next ∷ runs)) → Named (place_after net request.train place (step_of run)) (next ∷ runs)
  named_on place run next runs true is (stop, left, is_named, on, dwell, others) =
      let made_there : made_after place.made (exit_of run.stops) ≡ place.made + 1 = rw is refl in
      subst (λ n. StopsAsNamed net (drop n request.stops) (next ∷ runs)) (sym made_there) (rw (stops_then request.stops place.made stop left is_named) others)
  named_on place run next runs false is others =
      let made_there : made_after place.made (exit_of run.stops) ≡ place.made = rw is refl in
      subst (λ n. StopsAsNamed net (drop n request.stops) (next ∷ runs)) (sym made_there) others

  times : (runs : List Run) (run : Run) (place : Place) (entry : Enter) (before : Option Leg) → entry_of net request.train place ≡ entry → Named place (run ∷ runs)
      → KeepAll request.train settings before (legs_from net request.train entry (run ∷ runs)) → TakeTheirTime net settings request place (run ∷ runs)
  times [] run place entry before same named (rules, keep) = record { timed = rw same rules.timed; begins = rules.begins; ends = rules.ends }
  times (next ∷ runs) run place entry before same named (rules, (following, keep)) = (
    record { timed = rw same rules.timed; begins = rules.begins; ends = rules.ends },
    goes_on_after place run next runs run.stops following.enters named,
    times runs next (place_after net request.train place (step_of run)) (entry_behind request.train (block_at net run.block) run.stops) _ (entry_after net request.train place run long) (named_on place run next runs run.stops refl named) (following, keep),
  )

  -- each move that is no end leads to a place
  places : (runs : List Run) (run : Run) (place : Place) → ((step : Step) → IsMove net request place step → ¬ IsEnd request place step → IsPlace net request (place_after net request.train place step))
      → AreMoves net request place (run ∷ runs) → ArePlaces net request place (run ∷ runs)
  places [] run place leads all = tt
  places (next ∷ runs) run place leads (move, no_end, others) =
      let there = leads (step_of run) move no_end in
      (there, places runs next (place_after net request.train place (step_of run)) (λ step. gone_on (place_after net request.train place (step_of run)) step there) others)

  all_moves : (runs : List Run) → FirstServes net request.origin runs → StopsAsNamed net request.stops runs → KeepAll request.train settings None (legs_from net request.train Still runs)
      → All (λ run. run.block < length net.blocks) runs → LastServes net request.destination runs → AreMoves net request start_place runs × TakeTheirTime net settings request start_place runs × ArePlaces net request start_place runs
  all_moves [] origin named keep within serves = absurd origin
  all_moves (run ∷ runs) origin named keep within serves =
      let made = moves runs run start_place Still None (omega arith) named keep within origin serves in
      (made, times runs run start_place Still None refl named keep, places runs run start_place (λ step move no_end. begun step move no_end) made)

pub paths_are_moves : (net : Network) (settings : Settings) (request : Request) (path : Path) → 1 ≤ request.train.length_m → All (λ run. run.block < length net.blocks) path.runs → KeepsByLegs net settings path → KeepsRequest net request path
    → AreMoves net request start_place path.runs × TakeTheirTime net settings request start_place path.runs × ArePlaces net request start_place path.runs
paths_are_moves net settings request path long within keep asked =
    all_moves net settings request long path.runs asked.origin asked.stops
    (subst (λ train. KeepAll train settings None (legs_from net train Still path.runs)) asked.train_is keep) within asked.destination
