-- The room that the reply behind a commit needs at most, known before the commit.
use Rattle.std.specs.Prelude.{◌≡◌, ℕ, ◌+◌, ◌*◌, ◌^◌, ◌<◌, List, All, length}
use Rattle.rail_types.specs.declared.paths.Run.{Run}
use Rattle.rail_types.specs.Limits.{IsRunWithinLimits}
use Rattle.client_lines.specs.declared.reply_texts.replies.Reply.{Reply}
use Rattle.client_lines.specs.declared.reply_texts.replies.Reply.TheVariants as reply

-- by the number of runs that it prints
abbrev pub room_for : ℕ → ℕ
room_for runs = 160 + 32 * runs

abbrev pub IsNumber : ℕ → Type 0
IsNumber number = number < 2 ^ 64

-- a run that a path of a network has
abbrev pub IsPrintable : Run → Type 0
IsPrintable run = IsRunWithinLimits run × (run.block < 2 ^ 32)

-- the number of a line, its entry and the front, as their types have them
pub record TellsEntry (number entry front : ℕ) : Type 0 where
  pub number_fits : IsNumber number
  pub entry_fits : IsNumber entry
  pub front_fits : IsNumber front

-- the runs of a path, so many
pub record PrintsRuns (count : ℕ) (runs : List Run) : Type 0 where
  pub counted : length runs ≡ count
  pub fit : count < 2 ^ 32
  pub each : All IsPrintable runs

-- a reply to a line whose entry was begun, which prints so many runs: it tells of the line's own
-- entry, or of a fault of the disk
abbrev pub IsBehindEntry : ℕ → Reply → Type 0
IsBehindEntry runs (reply.Held number entry front) = TellsEntry number entry front
IsBehindEntry runs (reply.Pinned number entry front) = TellsEntry number entry front
IsBehindEntry runs (reply.Granted number entry front printed) =
    TellsEntry number entry front × PrintsRuns runs printed
IsBehindEntry runs (reply.Freed number entry freed front) =
    TellsEntry number entry front × IsNumber freed
IsBehindEntry runs (reply.Unsettled number entry front) = TellsEntry number entry front
IsBehindEntry runs reply.DiskFault = Unit {0}
IsBehindEntry runs other = ⊥
