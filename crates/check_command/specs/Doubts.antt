-- Inside: the first doubt, and what is reported of it.
use Rattle.std.specs.Prelude.{◌≡◌, ◌≢◌, ◌⊎◌, ℕ, List, [], ◌++◌, codes, drop, length, take}
use Rattle.proof_texts.specs.lines.Names.{Names}
use Rattle.command_reports.specs.Refusals.{IsTold}
use Rattle.command_reports.specs.declared.refusals.Refusal.{Refusal}
use Rattle.command_reports.specs.declared.refusals.Refusal.TheVariants.{Memory}
use Rattle.command_reports.specs.declared.exit_status.Status.TheVariants.{No}
use Rattle.rail_types.specs.declared.entries.Entry.{Entry}
use Rattle.rail_types.specs.Timetables.{Timetable}
use Rattle.proof_texts.specs.declared.refusals.Proof.{Proof}
use Rattle.proof_texts.specs.Texts.{proof_text}
use Rattle.proof_texts.specs.Told.{IsProofOf}
use Rattle.check_command.specs.Checks.{AreGood, Holds, IsFailing, IsNotUnderstood, IsTooWide}
use Rattle.check_command.specs.Checks.{doubt_line, texts_of}
use Rattle.check_command.specs.declared.doubts.Doubt.{Doubt}
use Rattle.check_command.specs.declared.doubts.Why.{Why}
use Rattle.check_command.specs.declared.doubts.Why.TheVariants as why

abbrev pub why_text : Why → List ℕ
why_text why.NotUnderstood = codes " not understood"
why_text why.Wide = codes " wide"
why_text why.Fails = codes " fails"
why_text why.Memory = []

-- the line of the doubt, or that memory was wanted
abbrev pub IsReported : Doubt → Refusal → Type 0
IsReported doubt refusal =
    (((doubt.why ≢ why.Memory) × IsTold No (doubt_line doubt.position (why_text doubt.why)) refusal)
    ⊎ (refusal ≡ Memory))

-- why the text does not go on with a proof that holds
abbrev pub Refutes : Names → Timetable → List Entry → List ℕ → Why → Type 0
Refutes known timetable entries text why.NotUnderstood =
    IsNotUnderstood known timetable entries text
Refutes known timetable entries text why.Wide = IsTooWide known timetable entries text
Refutes known timetable entries text why.Fails = IsFailing known timetable entries text
Refutes known timetable entries text why.Memory = Unit {0}

-- the text begins with a proof that holds, and so much of it is the proof's
pub record BeginsWell (known : Names) (timetable : Timetable) (entries : List Entry)
    (text : List ℕ) (count : ℕ) : Type 0 where
  pub proof : Proof
  pub told : IsProofOf known proof
  pub holds : Holds timetable entries proof
  pub parts : text ≡ proof_text known.railway.stops proof ++ drop count text
  pub counted : count ≡ length (proof_text known.railway.stops proof)

-- the first bytes, so many, are so many proofs that hold
pub record HasGood (known : Names) (timetable : Timetable) (entries : List Entry)
    (bytes : List ℕ) (at count : ℕ) : Type 0 where
  pub proofs : List Proof
  pub good : AreGood known timetable entries proofs
  pub text_is : take at bytes ≡ texts_of known proofs
  pub counted : count ≡ length proofs

-- behind proofs that hold, so many as its position, a text does not go on with one that does
pub record IsDoubtIn (known : Names) (timetable : Timetable) (entries : List Entry)
    (bytes : List ℕ) (doubt : Doubt) : Type 0 where
  pub proofs : List Proof
  pub rest : List ℕ
  pub good : AreGood known timetable entries proofs
  pub parts : bytes ≡ texts_of known proofs ++ rest
  pub counted : doubt.position ≡ length proofs
  pub refutes : Refutes known timetable entries rest doubt.why
