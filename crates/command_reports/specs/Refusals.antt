-- The statuses of refusals and the lines of their reports.
use Rattle.std.specs.Prelude.{◌≡◌, ◌⊎◌, ℕ, List, [], ◌∷◌, ◌++◌, codes}
use Rattle.command_reports.specs.declared.exit_status.Status.{Status}
use Rattle.command_reports.specs.declared.exit_status.Status.TheVariants.{Memory as wants_memory}
use Rattle.command_reports.specs.declared.refusals.Refusal.{Refusal}
use Rattle.command_reports.specs.declared.refusals.Refusal.TheVariants.{Told, Memory}

-- a head, a rest and the end of the line
abbrev pub line_with : List ℕ → List ℕ → List ℕ
line_with head rest = head ++ (rest ++ 10 ∷ [])

-- the status of a refusal
abbrev pub status_of : Refusal → Status
status_of (Told status line) = status
status_of Memory = wants_memory

-- the line that a refusal reports
abbrev pub line_of : Refusal → List ℕ
line_of (Told status line) = line
line_of Memory = line_with (codes "no memory") []

-- the refusal has this status and this line, or memory was wanted for the line
abbrev pub IsTold : Status → List ℕ → Refusal → Type 0
IsTold status line refusal = (refusal ≡ Told status line) ⊎ (refusal ≡ Memory)
