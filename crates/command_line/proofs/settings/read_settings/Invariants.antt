use Rattle.std.proofs.Common.{length, map, string_bytes}
use Rattle.command_line.proofs.Spellings.{Completes, Continues}
use Rattle.command_line.proofs.settings.read_settings.Given as goal

abbrev pub invariant-loop-rest : goal.invariant-loop-rest
invariant-loop-rest l = record {
  completes : Completes l.settings.items (map string_bytes l.rest) (map string_bytes l.words);
  continues : Continues l.settings.items (map string_bytes l.rest) (map string_bytes l.words);
}

abbrev pub decreases-loop-rest : goal.decreases-loop-rest
decreases-loop-rest l = length l.rest
