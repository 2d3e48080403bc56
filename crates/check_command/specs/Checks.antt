-- What a file of proofs comes to, by a history: its timetable and its entries.
use Rattle.std.specs.Prelude.{◌≡◌, ◌≢◌, ◌⊎◌, ◌≤◌, ℕ, List, [], ◌++◌, length, take, map, All, codes}
use Rattle.std.specs.Prelude.{decimal, flat_map, Result, Ok, Err}
use Rattle.proof_texts.specs.lines.Names.{Names}
use Rattle.command_reports.specs.Refusals.{IsTold, line_with}
use Rattle.command_reports.specs.declared.refusals.Refusal.{Refusal}
use Rattle.command_reports.specs.declared.refusals.Refusal.TheVariants.{Memory}
use Rattle.command_reports.specs.declared.exit_status.Status.TheVariants.{No}
use Rattle.path_recover.specs.history.Live.{live_claims}
use Rattle.rail_types.specs.declared.limits.TheConstants.{MAX_PLACES}
use Rattle.rail_types.specs.declared.entries.Entry.{Entry}
use Rattle.rail_types.specs.declared.paths.Claim.{Claim}
use Rattle.rail_types.specs.Timetables.{Timetable}
use Rattle.refusal_proof.specs.Proofs.{IsProof}
use Rattle.refusal_proof.specs.tails.Listed.{HasMoreThan}
use Rattle.proof_texts.specs.declared.refusals.Proof.{Proof}
use Rattle.proof_texts.specs.Texts.{proof_text}
use Rattle.proof_texts.specs.Told.{IsProofOf}

-- the claims that are live at some entries, whoever holds them
abbrev pub live_in : Timetable → List Entry → List Claim
live_in timetable entries = map (λ one. one.0) (live_claims timetable entries)

-- the request of a proof has more places than are listed
abbrev pub IsWide : Timetable → Proof → Type 0
IsWide timetable proof = HasMoreThan MAX_PLACES timetable.net proof.request

-- the front of a proof is one that a history of these entries had
abbrev pub IsPast : List Entry → Proof → Type 0
IsPast entries proof = proof.at ≤ length entries

-- the members show that no path could be granted at the proof's front,
-- which is at the first entries
abbrev pub Proves : Timetable → List Entry → Proof → Type 0
Proves timetable entries proof =
    IsProof timetable.net timetable.settings (live_in timetable (take proof.at entries))
    proof.request proof.closed

-- a proof of a history of these entries
pub record Holds (timetable : Timetable) (entries : List Entry) (proof : Proof) : Type 0 where
  pub past : IsPast entries proof
  pub listed : ¬ IsWide timetable proof
  pub proves : Proves timetable entries proof

-- the texts of proofs, one behind the other
abbrev pub texts_of : Names → List Proof → List ℕ
texts_of known proofs = flat_map (proof_text known.railway.stops) proofs

-- proofs that can be told, and hold
pub record AreGood (known : Names) (timetable : Timetable) (entries : List Entry)
    (proofs : List Proof) : Type 0 where
  pub told : All (IsProofOf known) proofs
  pub hold : All (Holds timetable entries) proofs

-- the bytes are the texts of these proofs, which hold
pub record AreProofs (known : Names) (timetable : Timetable) (entries : List Entry) (bytes : List ℕ)
    (proofs : List Proof) : Type 0 where
  pub good : AreGood known timetable entries proofs
  pub text_is : bytes ≡ texts_of known proofs

-- a text begins with this proof
pub record BeginsWith (known : Names) (text : List ℕ) (proof : Proof) : Type 0 where
  pub told : IsProofOf known proof
  pub rest : List ℕ
  pub parts : text ≡ proof_text known.railway.stops proof ++ rest

-- something stands there, and it begins with no proof of a front that the history had
pub record IsNotUnderstood (known : Names) (timetable : Timetable) (entries : List Entry)
    (text : List ℕ) : Type 0 where
  pub some : text ≢ []
  pub none : (proof : Proof) → BeginsWith known text proof → ¬ IsPast entries proof

-- it begins with a proof whose request has too many places
pub record IsTooWide (known : Names) (timetable : Timetable) (entries : List Entry)
    (text : List ℕ) : Type 0 where
  pub proof : Proof
  pub begins : BeginsWith known text proof
  pub past : IsPast entries proof
  pub wide : IsWide timetable proof

-- it begins with a proof that does not show what it is to show
pub record IsFailing (known : Names) (timetable : Timetable) (entries : List Entry)
    (text : List ℕ) : Type 0 where
  pub proof : Proof
  pub begins : BeginsWith known text proof
  pub past : IsPast entries proof
  pub listed : ¬ IsWide timetable proof
  pub fails : ¬ Proves timetable entries proof

-- the line of the proof at a position, from 0
abbrev pub doubt_line : ℕ → List ℕ → List ℕ
doubt_line position why = line_with (codes "proof ") (decimal position ++ why)

-- what is wrong where a text goes on behind so many proofs, by its line
abbrev pub IsDoubted : Names → Timetable → List Entry → List ℕ → ℕ → List ℕ → Type 0
IsDoubted known timetable entries text position line =
    (IsNotUnderstood known timetable entries text
    × (line ≡ doubt_line position (codes " not understood")))
    ⊎ ((IsTooWide known timetable entries text × (line ≡ doubt_line position (codes " wide")))
    ⊎ (IsFailing known timetable entries text × (line ≡ doubt_line position (codes " fails"))))

-- behind proofs that hold the bytes go on with one that does not, and this is its line
pub record HasDoubt (known : Names) (timetable : Timetable) (entries : List Entry)
    (bytes line : List ℕ) : Type 0 where
  pub proofs : List Proof
  pub rest : List ℕ
  pub good : AreGood known timetable entries proofs
  pub parts : bytes ≡ texts_of known proofs ++ rest
  pub doubt : IsDoubted known timetable entries rest (length proofs) line

-- the line that is reported where all of so many proofs hold
abbrev pub done_line : ℕ → List ℕ
done_line count = line_with (codes "proofs ") (decimal count)

-- the bytes are proofs that hold, and this is the line of their number
pub record IsDone (known : Names) (timetable : Timetable) (entries : List Entry)
    (bytes line : List ℕ) : Type 0 where
  pub proofs : List Proof
  pub are : AreProofs known timetable entries bytes proofs
  pub line_is : line ≡ done_line (length proofs)

-- what is told of a file of proofs: how many there are, or the first doubt
abbrev pub TellsProofs : Names → Timetable → List Entry → List ℕ → Result (List ℕ) Refusal → Type 0
TellsProofs known timetable entries bytes (Ok line) = IsDone known timetable entries bytes line
TellsProofs known timetable entries bytes (Err refusal) =
    ((line : List ℕ) × HasDoubt known timetable entries bytes line × IsTold No line refusal)
    ⊎ (refusal ≡ Memory)

-- bytes come to one line: that of all proofs, or that of the first doubt
pub record ProofsAreJudgedOnce : Type 0 where
  pub done : (known : Names) (timetable : Timetable) (entries : List Entry)
      (bytes line other : List ℕ)
      → IsDone known timetable entries bytes line → IsDone known timetable entries bytes other
      → line ≡ other
  pub doubt : (known : Names) (timetable : Timetable) (entries : List Entry)
      (bytes line other : List ℕ)
      → HasDoubt known timetable entries bytes line → HasDoubt known timetable entries bytes other
      → line ≡ other
  pub either : (known : Names) (timetable : Timetable) (entries : List Entry)
      (bytes line other : List ℕ)
      → IsDone known timetable entries bytes line → ¬ HasDoubt known timetable entries bytes other
