-- The claims of one step from a place, and those of all steps of a path.
use Rattle.std.specs.Prelude.{ℕ, ℤ, pos, neg_ℤ, ◌+ℤ◌, ◌-ℤ◌, Bool, true, false, List, [], ◌∷◌, ◌++◌}
use Rattle.std.specs.Prelude.{map, nat_le, int_lt, if◌then◌else◌}
use Rattle.rail_types.specs.declared.tracks.Block.{Block}
use Rattle.rail_types.specs.declared.tracks.Network.{Network}
use Rattle.rail_types.specs.declared.trains.Train.{Train}
use Rattle.rail_types.specs.declared.entries.Settings.{Settings}
use Rattle.rail_types.specs.declared.paths.Claim.{Claim}
use Rattle.rail_types.specs.declared.paths.Run.{Run}
use Rattle.rail_types.specs.declared.paths.Path.{Path}
use Rattle.running_time.specs.declared.edges.Enter.{Enter}
use Rattle.running_time.specs.declared.edges.Enter.TheVariants.{Still, From}
use Rattle.running_time.specs.declared.edges.Edge.TheVariants.{Rolling}
use Rattle.running_time.specs.Times.{part_ticks, run_ticks, sight_ticks}
use Rattle.blocking_time.specs.Runs.{block_at}
use Rattle.blocking_time.specs.Passages.{passages_of}
use Rattle.blocking_time.specs.declared.passages.Passage.{Passage}
use Rattle.stair_pieces.specs.declared.places.Place.{Place}
use Rattle.stair_pieces.specs.declared.places.Step.{Step}
use Rattle.stair_pieces.specs.Places.{start_place, step_of, head_block, entry_of, place_after}
use Rattle.stair_pieces.specs.Places.{uncleared, standing_zones}

-- when a passage is cleared and released in a step whose head enters at tick 0; where it is
-- not cleared, when the step ends
abbrev pub step_end : Network → Settings → Train → Place → Step → ℕ → ℤ
step_end net settings train place step metres =
    if nat_le metres (block_at net step.block).length_m
    then
    pos (part_ticks (block_at net step.block) train settings (entry_of net train place)
    step.exit metres)
    +ℤ pos settings.release
    else pos
    (run_ticks (block_at net step.block) train settings (entry_of net train place) step.exit)

-- when the route ahead is set for a train that passes the end of this block at tick 0: in
-- time for the train to see it from the sight distance before the block, or from its
-- beginning where it stood there
abbrev pub step_approach : Settings → Train → Block → Enter → ℤ
step_approach settings train before Still =
    neg_ℤ (pos (run_ticks before train settings Still Rolling)) -ℤ pos settings.setting
step_approach settings train before (From speed) =
    neg_ℤ (pos (run_ticks before train settings (From speed) Rolling)) -ℤ pos settings.setting
    -ℤ pos (sight_ticks before train settings)

-- when the new block's zones are blocked, its head entering at tick 0: by the setting time before
-- it where the train stands, else before the block in which its head was
abbrev pub step_begin : Settings → Train → Block → Enter → Bool → ℤ
step_begin settings train before entered true = neg_ℤ (pos settings.setting)
step_begin settings train before entered false = step_approach settings train before entered

abbrev pub begin_of_step : Network → Settings → Train → Place → ℤ
begin_of_step net settings train place =
    step_begin settings train (block_at net (head_block place.tail)) place.entered place.standing

-- a claim from a tick until a passage is cleared and released, or the step ends
abbrev pub piece : Network → Settings → Train → Place → Step → ℤ → Passage → Claim
piece net settings train place step from passage = record {
  zone = passage.zone;
  span = record { from = from; to = step_end net settings train place step passage.metres };
}

-- the claims of a step from a place, its head entering at tick 0: those of the new block, then
-- those of the passages that were not cleared before
abbrev pub pieces_of : Network → Settings → Train → Place → Step → List Claim
pieces_of net settings train place step =
    map
    (piece net settings train place step (begin_of_step net settings train place))
    (passages_of train (block_at net step.block).cells)
    ++ map (piece net settings train place step (pos 0)) (uncleared net train place.tail)

-- claims that begin and end so many ticks later
abbrev pub later_by : ℤ → List Claim → List Claim
later_by ticks claims =
    map
    (λ claim. record {
      zone = claim.zone;
      span = record { from = claim.span.from +ℤ ticks; to = claim.span.to +ℤ ticks };
    })
    claims

-- zones that are kept from one tick to another, where that is any time
abbrev pub kept : List ℕ → ℤ → ℤ → List Claim
kept zones from to =
    if int_lt from to
    then map (λ zone. record { zone = zone; span = record { from = from; to = to } }) zones
    else []

-- the end of the wait after a run: the next run's enter, or behind the last run its release
abbrev pub wait_end : Settings → Run → List Run → ℤ
wait_end settings run [] = run.leave +ℤ pos settings.release
wait_end settings run (next ∷ runs) = next.enter

-- the claims of the runs that follow from a place, step by step: each step's pieces at its enter
-- tick, and the standing zones over the wait behind it
abbrev pub steps_from : Network → Settings → Train → Place → List Run → List Claim
steps_from net settings train place [] = []
steps_from net settings train place (run ∷ runs) =
    later_by run.enter (pieces_of net settings train place (step_of run))
    ++ (kept
    (standing_zones net train (place_after net train place (step_of run)))
    run.leave
    (wait_end settings run runs)
    ++ steps_from net settings train (place_after net train place (step_of run)) runs)

-- the claims of a path, step by step
abbrev pub steps_of_path : Network → Settings → Path → List Claim
steps_of_path net settings path = steps_from net settings path.train start_place path.runs
