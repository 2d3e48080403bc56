-- The passes of a gate that keeps a list of numbers, and what is known once all are joined.
use Rattle.std.specs.Prelude.{◌≡◌, ℕ, ◌≤◌, List, [], ◌++◌, All, length}
use Rattle.book_gate.specs.declared.gates.Gate.{Gate}
use Rattle.book_gate.specs.declared.gates.Pass.{Pass}
use Rattle.book_gate.specs.declared.views.Turn.{Turn}
use Rattle.book_gate.specs.Passes.{view, turns_left, IsOf, IsIdle}
use Rattle.book_gate.specs.Views.{IsChain, own, positions}
use Rattle.tests_gate.specs.declared.numbers.Numbers.{Numbers}
use Rattle.tests_gate.specs.Books.{AddsOne}

-- the turns that the pass was given
abbrev pub share : Pass Numbers ℕ ℕ → ℕ
share pass = (view pass).share

-- the pass is one of the gate, and has no turn open
abbrev pub IsReady : Gate Numbers ℕ ℕ → Pass Numbers ℕ ℕ → Type 0
IsReady gate pass = IsOf (λ b. b.name) gate pass × IsIdle pass

-- each of its turns added one
abbrev pub HasAdded : Pass Numbers ℕ ℕ → Type 0
HasAdded pass = All AddsOne (view pass).turns

-- it has that many turns, all of them left
abbrev pub IsFresh : ℕ → Gate Numbers ℕ ℕ → Pass Numbers ℕ ℕ → Type 0
IsFresh turns gate pass =
    IsReady gate pass × (turns ≤ turns_left pass) × (share pass ≡ turns) × ((view pass).turns ≡ [])

-- it has taken all its turns, and each added one
abbrev pub IsSpent : Pass Numbers ℕ ℕ → Type 0
IsSpent pass = (turns_left pass ≡ 0) × HasAdded pass

-- the pass took so many turns more, each of which added one
abbrev pub TakesTurns : ℕ → Pass Numbers ℕ ℕ → Pass Numbers ℕ ℕ → Type 0
TakesTurns count old new =
    (more : List Turn) × (length more ≡ count) × All AddsOne more
    × ((view new).turns ≡ (view old).turns ++ more)

-- so many turns, each going on from the one before, led from an empty list to this book, and added
-- the entries that it has, each once
abbrev pub IsHistory : ℕ → Numbers → Type 0
IsHistory served book =
    (turns : List Turn) × (length turns ≡ served)
    × (own turns ≡ positions 0 (length book.list.items))
    × IsChain 0 (record { entries = 0; settled = 0; count = 0 }) turns (record {
      entries = length book.list.items;
      settled = length book.list.items;
      count = book.refused;
    })
