-- The first proof that names a client, at a list's first element.
use Rattle.std.proofs.Common.{◌≡◌, ℕ, Bool, true, false, List, ◌∷◌, Option, Some, refl, if◌then◌else◌}
use Rattle.std.specs.Str.{bytes_eq}
use Rattle.std.proofs.lemmas.Slice.Eq.{bytes_eq-Decides}
use Rattle.command_line.specs.Proofs.{proof_of}
use Rattle.command_line.specs.declared.proof_words.proofs.ProofWord.{ProofWord}

pub found_first : (first : ProofWord) (others : List ProofWord) (name : List ℕ) → first.client ≡ name → proof_of (first ∷ others) name ≡ Some first.file
found_first first others name same =
    let is : bytes_eq first.client name ≡ true = (bytes_eq-Decides first.client name).1 same in
    rw is refl

over_by : (hit : Bool) (file : List ℕ) (rest : Option (List ℕ)) → (hit ≡ true → ⊥) → (if hit then Some file else rest) ≡ rest
over_by true file rest other = absurd (other refl)
over_by false file rest other = refl

pub passed_over : (first : ProofWord) (others : List ProofWord) (name : List ℕ) → (first.client ≡ name → ⊥) → proof_of (first ∷ others) name ≡ proof_of others name
passed_over first others name other = over_by (bytes_eq first.client name) first.file (proof_of others name) (λ is. other ((bytes_eq-Decides first.client name).0 is))
