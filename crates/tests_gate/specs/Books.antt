-- What adding does to the book.
use Rattle.std.specs.Prelude.{◌≡◌, ◌⊎◌, ℕ, ◌+◌, ◌-◌, ◌^◌, ◌<◌, [], ◌∷◌, ◌++◌, min}
use Rattle.book_gate.specs.declared.views.Turn.{Turn}
use Rattle.tests_gate.specs.declared.numbers.Numbers.{Numbers}

-- the number stands behind the others
abbrev pub IsPushed : ℕ → Numbers → Numbers → Type 0
IsPushed number old new =
    (new.list.items ≡ old.list.items ++ number ∷ []) × (new.refused ≡ old.refused)

-- one refusal more was counted, unless the count is at its end
abbrev pub IsRefused : Numbers → Numbers → Type 0
IsRefused old new =
    (new.list.items ≡ old.list.items) × (new.refused ≡ min (old.refused + 1) (2 ^ 64 - 1))

-- the number was added, or its refusal counted
abbrev pub IsAdded : ℕ → Numbers → Numbers → Type 0
IsAdded number old new = IsPushed number old new ⊎ IsRefused old new

-- a turn that left one number or one refusal more than it found, unless the count was at its end
abbrev pub AddsOne : Turn → Type 0
AddsOne t =
    t.found.count < 2 ^ 64 - 1 → t.left.entries + t.left.count ≡ t.found.entries + t.found.count + 1
