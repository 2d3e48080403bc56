-- What is read at the beginning of a text.
use Rattle.std.specs.Prelude.{◌≡◌, ◌≢◌, ℕ, List, ◌++◌, drop, length, Result, Ok, Err}
use Rattle.client_lines.specs.Names.{Names}
use Rattle.client_lines.specs.Forms.{Spells}
use Rattle.client_lines.specs.Lines.{a_line}
use Rattle.client_lines.specs.declared.asks.Ask.TheVariants.{Path}
use Rattle.client_lines.specs.declared.asks.Line.{Line}
use Rattle.rail_types.specs.declared.trains.Request.{Request}
use Rattle.proof_texts.specs.declared.refusals.Proof.{Proof}
use Rattle.proof_texts.specs.declared.faults.ProofFault.{ProofFault}
use Rattle.proof_texts.specs.declared.faults.ProofFault.TheVariants.{NotUnderstood, Memory}
use Rattle.proof_texts.specs.Texts.{proof_text}
use Rattle.proof_texts.specs.Told.{IsProofOf, IsRequestOf}

-- the text begins with the text of this proof, and so much of it is the proof's
pub record BeginsWith (known : Names) (text : List ℕ) (proof : Proof) (count : ℕ) : Type 0 where
  pub told : IsProofOf known proof
  pub parts : text ≡ proof_text known.railway.stops proof ++ drop count text
  pub counted : count ≡ length (proof_text known.railway.stops proof)

-- the text begins with no proof's text
abbrev pub BeginsWithNone : Names → List ℕ → Type 0
BeginsWithNone known text =
    (proof : Proof) (rest : List ℕ) → IsProofOf known proof
    → text ≢ proof_text known.railway.stops proof ++ rest

-- a proof at the beginning of a text, or that there is none
abbrev pub Reads : Names → List ℕ → Result (Proof × ℕ) ProofFault → Type 0
Reads known text (Ok found) = BeginsWith known text found.0 found.1
Reads known text (Err NotUnderstood) = BeginsWithNone known text
Reads known text (Err Memory) = Unit {0}

-- no text begins with the texts of two proofs
abbrev pub ProofsAreReadOnce : Type 0
ProofsAreReadOnce =
    (known : Names) (one other : Proof) (rest behind : List ℕ) → IsProofOf known one
    → IsProofOf known other
    → proof_text known.railway.stops one ++ rest ≡ proof_text known.railway.stops other ++ behind
    → (one ≡ other) × (rest ≡ behind)

-- what a client's line asks for can be told
abbrev pub AsksCanBeTold : Type 0
AsksCanBeTold =
    (known : Names) (fields : List (List ℕ)) (line : Line) (number : ℕ) (request : Request)
    → Spells (a_line known) fields line → line.ask ≡ Path number request
    → IsRequestOf known request
