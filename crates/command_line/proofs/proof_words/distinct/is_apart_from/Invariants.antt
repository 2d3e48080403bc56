use Rattle.std.proofs.Common.{ℕ, ◌<◌, get_or}
use Rattle.command_line.specs.Proofs.{AreApart}
use Rattle.command_line.specs.declared.proof_words.proofs.ProofWord.{ProofWord}
use Rattle.command_line.proofs.proof_words.distinct.is_apart_from.Given as goal

abbrev pub invariant-loop-other : goal.invariant-loop-other
invariant-loop-other l = (k : ℕ) (d : ProofWord) → k < l.other-index → AreApart l.one (get_or l.others k d)
