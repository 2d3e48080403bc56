-- Inside: the runs of a path as legs, one behind the other, each with its block and with how
-- it is entered. What is said of a path by the numbers of its runs is said again from leg to
-- leg, as a search goes over them.
use Rattle.std.specs.Prelude.{◌≡◌, ℕ, ◌-◌, ℤ, pos, ◌+ℤ◌, ◌-ℤ◌, ◌≤ℤ◌, Bool, true, false, List, []}
use Rattle.std.specs.Prelude.{◌∷◌, ◌++◌, map, Option, Some, None, nat_le, if◌then◌else◌}
use Rattle.rail_types.specs.declared.tracks.Block.{Block}
use Rattle.rail_types.specs.declared.tracks.Network.{Network}
use Rattle.rail_types.specs.declared.trains.Train.{Train}
use Rattle.rail_types.specs.declared.entries.Settings.{Settings}
use Rattle.rail_types.specs.declared.paths.Run.{Run}
use Rattle.rail_types.specs.declared.paths.Path.{Path}
use Rattle.rail_types.specs.declared.paths.Claim.{Claim}
use Rattle.running_time.specs.declared.edges.Enter.{Enter}
use Rattle.running_time.specs.declared.edges.Enter.TheVariants.{Still, From}
use Rattle.running_time.specs.Times.{part_ticks, sight_ticks}
use Rattle.blocking_time.specs.declared.passages.Passage.{Passage}
use Rattle.blocking_time.specs.Passages.{passages_of}
use Rattle.blocking_time.specs.Runs.{block_at, entry_behind, exit_of}

-- a run, its block, and how it enters it
pub record Leg : Type 0 where
  pub block : Block
  pub entry : Enter
  pub run : Run

abbrev pub legs_from : Network → Train → Enter → List Run → List Leg
legs_from net train entry [] = []
legs_from net train entry (run ∷ runs) =
    record { block = block_at net run.block; entry = entry; run = run }
    ∷ legs_from net train (entry_behind train (block_at net run.block) run.stops) runs

-- the runs of a path, of which the first begins from stand
abbrev pub legs_of : Network → Path → List Leg
legs_of net path = legs_from net path.train Still path.runs

-- the tick at which the head has gone so many metres into the leg's block
abbrev pub reached : Train → Settings → Leg → ℕ → ℤ
reached train settings leg metres =
    leg.run.enter
    +ℤ pos (part_ticks leg.block train settings leg.entry (exit_of leg.run.stops) metres)

-- when the head has gone so many metres from the beginning of these legs; past the
-- last leg, when that was left
abbrev pub gone : Train → Settings → ℤ → List Leg → ℕ → ℤ
gone train settings leave [] metres = leave
gone train settings leave (leg ∷ legs) metres =
    if nat_le metres leg.block.length_m then reached train settings leg metres
    else gone train settings leg.run.leave legs (metres - leg.block.length_m)

-- a zone from a tick until a passage is cleared, and released
abbrev pub claim_until : Train → Settings → ℤ → ℤ → List Leg → Passage → Claim
claim_until train settings from leave legs passage = record {
  zone = passage.zone;
  span = record {
    from = from;
    to = gone train settings leave legs passage.metres +ℤ pos settings.release;
  };
}

-- when the route behind a leg that the train passes is set: in time for the train to see it from
-- the sight distance before the leg's block, or from its beginning where it stood there
abbrev pub approach : Train → Settings → Leg → Enter → ℤ
approach train settings before Still = before.run.enter -ℤ pos settings.setting
approach train settings before (From speed) =
    before.run.enter -ℤ pos settings.setting -ℤ pos (sight_ticks before.block train settings)

-- when the zones of a leg are blocked: by the setting time before it, or before the leg ahead of it
abbrev pub begin_of : Train → Settings → Option Leg → Leg → Enter → ℤ
begin_of train settings before leg Still = leg.run.enter -ℤ pos settings.setting
begin_of train settings None leg (From speed) = leg.run.enter -ℤ pos settings.setting
begin_of train settings (Some before) leg (From speed) = approach train settings before before.entry

-- the claims of the legs that follow one another behind a leg
abbrev pub claims_behind : Train → Settings → Option Leg → List Leg → List Claim
claims_behind train settings before [] = []
claims_behind train settings before (leg ∷ legs) =
    map
    (claim_until train settings
    (begin_of train settings before leg leg.entry)
    leg.run.leave
    (leg ∷ legs))
    (passages_of train leg.block.cells)
    ++ claims_behind train settings (Some leg) legs

-- the claims of a path, leg by leg
abbrev pub claims_by_legs : Network → Settings → Path → List Claim
claims_by_legs net settings path =
    claims_behind path.train settings None (legs_of net path)

-- the block begins where the block before ends
abbrev pub Follows : Option Leg → Leg → Type 0
Follows None leg = Unit {0}
Follows (Some before) leg = leg.block.from_point ≡ before.block.to_point

-- the train enters when it leaves the block before, or later where it stood there
abbrev pub EntersFrom : ℤ → ℤ → Bool → Type 0
EntersFrom left enter true = left ≤ℤ enter
EntersFrom left enter false = enter ≡ left

abbrev pub Enters : Option Leg → Leg → Type 0
Enters None leg = Unit {0}
Enters (Some before) leg = EntersFrom before.run.leave leg.run.enter before.run.stops

-- the last run stops, and others stop only where an operational point is served
abbrev pub StopsWell : Leg → List Leg → Type 0
StopsWell leg [] = leg.run.stops ≡ true
StopsWell leg (next ∷ legs) = leg.run.stops ≡ true → ¬ (leg.block.serves ≡ [])

-- what one leg keeps, behind one and before others
pub record KeepsRules
    (train : Train) (settings : Settings) (before : Option Leg) (leg : Leg)
    (legs : List Leg) : Type 0 where
  pub follows : Follows before leg
  pub timed : leg.run.leave ≡ reached train settings leg leg.block.length_m
  pub enters : Enters before leg
  pub stops : StopsWell leg legs
  pub begins : pos 0 ≤ℤ leg.run.enter
  pub ends : leg.run.leave ≤ℤ pos settings.horizon

abbrev pub KeepAll : Train → Settings → Option Leg → List Leg → Type 0
KeepAll train settings before [] = Unit {0}
KeepAll train settings before (leg ∷ legs) =
    KeepsRules train settings before leg legs × KeepAll train settings (Some leg) legs

-- a path of which each leg keeps the rules of runs
abbrev pub KeepsByLegs : Network → Settings → Path → Type 0
KeepsByLegs net settings path = KeepAll path.train settings None (legs_of net path)
