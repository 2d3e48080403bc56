-- Workers under whose names no number stands.
use Rattle.std.proofs.Common.{◌≡◌, ℕ, ◌+◌, ◌<◌, ◌≤◌, ◌⊎◌, false, List, Option, arith, ⊎_elim, subst}
use Rattle.command_line.specs.Workers.{worker_name}
use Rattle.rail_types.specs.declared.entries.Entry.{Entry}
use Rattle.batch_command.specs.Owners.{AreEnough, needs}

this_or_later : (worker other : ℕ) → worker ≤ other → (worker ≡ other) ⊎ (worker < other)
this_or_later worker other least = grind arith

-- a worker that is not needed, before later ones that are not
pub enough_with : (entries : List Entry) (batch : List ℕ) (before worker : ℕ) (numbers : List (Option ℕ)) → before + 1 ≡ worker
    → needs entries (worker_name batch worker) numbers ≡ false
    → AreEnough entries batch worker numbers → AreEnough entries batch before numbers
enough_with entries batch before worker numbers next none enough other behind within =
    ⊎_elim (λ (same : worker ≡ other). subst (λ (one : ℕ). needs entries (worker_name batch one) numbers ≡ false) same none)
    (λ (later : worker < other). enough other later within)
    (this_or_later worker other (omega arith))
