use Rattle.std.proofs.Common.{◌≡◌, length}
use Rattle.command_line.specs.Proofs.{proof_of as file_of}
use Rattle.command_line.proofs.proof_words.finding.proof_of.Given as goal

abbrev pub invariant-loop-first : goal.invariant-loop-first
invariant-loop-first l = file_of l.rest l.name ≡ file_of l.proofs l.name

abbrev pub decreases-loop-first : goal.decreases-loop-first
decreases-loop-first l = length l.rest
