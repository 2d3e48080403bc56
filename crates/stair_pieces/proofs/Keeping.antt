-- What a path is asked for besides the rules of runs, run by run.
use Rattle.std.proofs.Common.{◌≡◌, ℕ, pos, ◌+ℤ◌, ◌≤ℤ◌, Bool, true, false, List, [], ◌∷◌, Contains}
use Rattle.rail_types.specs.declared.tracks.Network.{Network}
use Rattle.rail_types.specs.declared.trains.Stop.{Stop}
use Rattle.rail_types.specs.declared.trains.Request.{Request}
use Rattle.rail_types.specs.declared.paths.Run.{Run}
use Rattle.rail_types.specs.declared.paths.Path.{Path}
use Rattle.blocking_time.specs.Runs.{block_at}
use Rattle.stair_pieces.specs.Moves.{OfFirst, OfLast, IsInside}

-- a run that stops makes the first of these stops, with its dwell before the next run
abbrev pub StopsOn : Network → List Stop → Bool → Run → Run → (List Stop → Type 0) → Type 0
StopsOn net stops false run next Rest = Rest stops
StopsOn net stops true run next Rest = (stop : Stop) × (left : List Stop) × (stops ≡ stop ∷ left) × Contains (block_at net run.block).serves stop.stop × ((run.leave +ℤ pos stop.dwell) ≤ℤ next.enter) × Rest left

-- the stops before the last run are these, in order, each on a block that serves it and with its dwell
abbrev pub StopsAsNamed : Network → List Stop → List Run → Type 0
StopsAsNamed net stops [] = Unit {0}
StopsAsNamed net stops (run ∷ []) = stops ≡ []
StopsAsNamed net stops (run ∷ (next ∷ runs)) = StopsOn net stops run.stops run next (λ left. StopsAsNamed net left (next ∷ runs))

-- the block of the first run, and of the last
abbrev pub FirstServes : Network → ℕ → List Run → Type 0
FirstServes net stop runs = OfFirst (λ run. Contains (block_at net run.block).serves stop) runs

abbrev pub LastServes : Network → ℕ → List Run → Type 0
LastServes net stop runs = OfLast (λ run. Contains (block_at net run.block).serves stop) runs

-- what a path is asked for
pub record KeepsRequest (net : Network) (request : Request) (path : Path) : Type 0 where
  pub train_is : path.train ≡ request.train
  pub origin : FirstServes net request.origin path.runs
  pub destination : LastServes net request.destination path.runs
  pub stops : StopsAsNamed net request.stops path.runs
  pub departs : OfFirst (λ run. IsInside request.depart run.enter) path.runs
  pub arrives : OfLast (λ run. IsInside request.arrive run.leave) path.runs
