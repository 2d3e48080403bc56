use Rattle.std.proofs.Common.{◌≡◌, All, ◌+◌, ◌*◌, ◌≤◌, ◌++◌, length, take}
use Rattle.std.specs.List.{flat_map}
use Rattle.std.specs.Int.{w32, to_be_bytes}
use Rattle.entry_codec.specs.Body.{run_text}
use Rattle.entry_codec.specs.Within.{IsFourBytes}
use Rattle.entry_codec.proofs.writing.add_runs.Given as goal

abbrev pub invariant-loop-run : goal.invariant-loop-run
invariant-loop-run l = record {
  held : l.to.held ≡ l.fn.to.held ++ (to_be_bytes w32 (length l.runs) ++ flat_map run_text (take l.run-index l.runs));
  spare : l.fn.to.spare ≤ l.to.spare + (4 + 21 * l.run-index);
  typed : All (λ run. IsFourBytes run.block) (take l.run-index l.runs);
}
