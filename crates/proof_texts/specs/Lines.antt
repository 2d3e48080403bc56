-- Inside: a text read line by line.
use Rattle.std.specs.Prelude.{◌≡◌, ℕ, zero, suc, List, [], ◌∷◌, ◌++◌, nat_eq, option_map, Option}
use Rattle.std.specs.Prelude.{Some, None, Result, Ok, Err, if◌then◌else◌}
use Rattle.client_lines.specs.Cuts.{fields_of}
use Rattle.client_lines.specs.Forms.{Form}
use Rattle.client_lines.specs.Names.{Names}
use Rattle.client_lines.specs.Reading.{line_reading}
use Rattle.client_lines.specs.declared.faults.LineFault.{LineFault}
use Rattle.client_lines.specs.declared.faults.LineFault.TheVariants as of_line
use Rattle.tail_states.specs.declared.certificates.Member.{Member}
use Rattle.proof_texts.specs.declared.refusals.Proof.{Proof}
use Rattle.proof_texts.specs.declared.faults.ProofFault.{ProofFault}
use Rattle.proof_texts.specs.declared.faults.ProofFault.TheVariants.{NotUnderstood, Memory}
use Rattle.proof_texts.specs.declared.heads.Head.{Head}
use Rattle.proof_texts.specs.Forms.{a_count, a_head, a_member}

-- what a text tells at its beginning, with what stands behind it
abbrev pub Beginning : Type 0 → Type 0
Beginning A = Option (A × List ℕ)

abbrev pub go_on : {A B : Type 0} → Beginning A → (A → List ℕ → Beginning B) → Beginning B
go_on (Some found) next = next found.0 found.1
go_on None next = None

-- a byte before the first line
abbrev pub with_byte : ℕ → List ℕ × List ℕ → List ℕ × List ℕ
with_byte byte parts = (byte ∷ parts.0, parts.1)

-- the first line of a text, without its end
unfoldable pub line_at : List ℕ → Beginning (List ℕ)
line_at [] = None
line_at (byte ∷ bytes) =
    if nat_eq byte 10 then Some ([], bytes)
    else option_map (with_byte byte) (line_at bytes)

-- what was read of a line, with what stands behind the line
abbrev pub with_rest : {A : Type 0} → List ℕ → Result A ℕ → Beginning A
with_rest rest (Ok said) = Some (said, rest)
with_rest rest (Err at) = None

-- a line of this form
abbrev pub lined : {A : Type 0} → Form A → List ℕ → Beginning A
lined form text =
    go_on (line_at text) (λ line rest. with_rest rest (line_reading form (fields_of line)))

-- these before what is read
abbrev pub with_front : List Member → Beginning (List Member) → Beginning (List Member)
with_front front found = go_on found (λ members rest. Some (front ++ members, rest))

-- the lines of so many members
unfoldable pub members_at : Names → ℕ → List ℕ → Beginning (List Member)
members_at known zero text = Some ([], text)
members_at known (suc count) text =
    go_on (lined (a_member known) text)
    (λ member rest. with_front (member ∷ []) (members_at known count rest))

abbrev pub proof_of : Head → List Member → Proof
proof_of head members = record {
  at = head.at;
  number = head.number;
  request = head.request;
  closed = record { members = members };
}

-- the count of members, and so many of them
abbrev pub counted_at : Names → List ℕ → Beginning (List Member)
counted_at known text = go_on (lined a_count text) (λ count rest. members_at known count rest)

-- the lines of a proof
abbrev pub proof_at : Names → List ℕ → Beginning Proof
proof_at known text =
    go_on (lined (a_head known) text)
    (λ head rest. go_on (counted_at known rest)
    (λ members behind. Some (proof_of head members, behind)))

-- what a call answered and left is what is read, unless memory ran out
abbrev pub Gives : {A : Type 0} → List ℕ → Result A ProofFault → Beginning A → Type 0
Gives rest (Ok said) found = found ≡ Some (said, rest)
Gives rest (Err NotUnderstood) found = found ≡ None
Gives rest (Err Memory) found = Unit {0}

-- what is wrong with a text, by what is wrong with one of its lines
abbrev pub fault_of : LineFault → ProofFault
fault_of (of_line.Bad field) = NotUnderstood
fault_of of_line.Memory = Memory
