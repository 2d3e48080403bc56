use Rattle.std.proofs.Common.{◌≡◌, map, take}
use Rattle.std.specs.List.{All}
use Rattle.command_line.specs.Proofs.{IsProofOf, proof_text}
use Rattle.command_line.proofs.proof_words.proofs.proofs_among.Given as goal

abbrev pub invariant-loop-word : goal.invariant-loop-word
invariant-loop-word l = record {
  understood : All (IsProofOf l.clients) l.proofs;
  spelled : map proof_text l.proofs ≡ map (λ word. word.now) (take l.word-index l.words);
}
