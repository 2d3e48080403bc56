use Rattle.std.proofs.Common.{◌≡◌, All, ◌+◌, ◌*◌, ◌≤◌, ◌++◌, length, take}
use Rattle.std.specs.List.{flat_map}
use Rattle.std.specs.Int.{w32, to_be_bytes}
use Rattle.entry_codec.specs.Body.{stop_text}
use Rattle.entry_codec.specs.Within.{IsFourBytes}
use Rattle.entry_codec.proofs.writing.add_stops.Given as goal

abbrev pub invariant-loop-stop : goal.invariant-loop-stop
invariant-loop-stop l = record {
  held : l.to.held ≡ l.fn.to.held ++ (to_be_bytes w32 (length l.stops) ++ flat_map stop_text (take l.stop-index l.stops));
  spare : l.fn.to.spare ≤ l.to.spare + (4 + 8 * l.stop-index);
  typed : All (λ stop. IsFourBytes stop.stop) (take l.stop-index l.stops);
}
