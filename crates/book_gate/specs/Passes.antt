-- Gates, passes and books that are out.
use Rattle.std.specs.Prelude.{◌≡◌, ℕ, true, false, [], ◌∷◌, Some, None}
use Rattle.book_gate.specs.declared.gates.Gate.{Gate}
use Rattle.book_gate.specs.declared.gates.Pass.{Pass}
use Rattle.book_gate.specs.declared.views.Statement.{Statement}
use Rattle.book_gate.specs.declared.views.View.{View}
use Rattle.book_gate.specs.Rule.{budget, IsWithinShare}
use Rattle.book_gate.specs.Steps.{IsCalled}
use Rattle.book_gate.specs.Views.{origin}

module _ {S E F : Type 0} where
  -- the book that `new` was given
  abbrev pub opened : Gate S E F → S
  opened gate = gate.table.shared.key.book.value

  -- the turns that `new` was given
  abbrev pub turns_given : Gate S E F → ℕ
  turns_given gate = gate.table.shared.key.turns

  -- what a pass knows
  abbrev pub view : Pass S E F → View E F
  view pass = pass.seat.me.0

  -- the pass has no turn open, and no ticket
  abbrev pub IsIdle : Pass S E F → Type 0
  IsIdle pass =
      ((view pass).has_ticket ≡ false) × ((view pass).has_book ≡ false) × (pass.seat.me.1 ≡ [])

  -- the pass has a turn open
  abbrev pub IsInTurn : Pass S E F → Type 0
  IsInTurn pass =
      ((view pass).has_ticket ≡ true) × ((view pass).has_book ≡ true)
      × (pass.seat.me.1 ≡ (0, None) ∷ [])

  -- the pass waits with a ticket
  abbrev pub IsWaiting : Pass S E F → Type 0
  IsWaiting pass =
      ((view pass).has_ticket ≡ true) × ((view pass).has_book ≡ false) × (pass.seat.me.1 ≡ [])

  -- the pass holds the slot, with that book in it
  abbrev pub HasBook : S → Pass S E F → Type 0
  HasBook book pass = pass.seat.me.1 ≡ (0, Some book) ∷ []

  -- the turns that the pass may still take
  abbrev pub turns_left : Pass S E F → ℕ
  turns_left pass = budget (view pass)

  -- a turn was opened, and else the pass knows what it knew
  abbrev pub OpensTurn : Pass S E F → Pass S E F → Type 0
  OpensTurn old new = view new ≡ record (view old) {
    has_ticket = true;
    ticket = (view new).ticket;
    has_book = true;
    found = (view new).found;
  }

  -- the pass is one of this gate, and its turns, an open one among them, are within its share
  abbrev pub IsOf : (S → F) → Gate S E F → Pass S E F → Type 0
  IsOf footing gate pass =
      (pass.seat.table_id ≡ gate.table.shared.table_id)
      × ((view pass).origin ≡ Some (origin (footing (opened gate)) (turns_given gate)))
      × IsWithinShare (view pass)

  -- the pass was called, and holds the slot with a book that goes on from all that it knew
  abbrev pub IsCalledWith : (S → Statement E) → (S → F) → Pass S E F → Pass S E F → Type 0
  IsCalledWith stands footing old new = IsCalled stands footing old.seat.me new.seat.me
