-- A turn that was opened and ended.
use Rattle.std.proofs.Common.{◌≡◌, ◌≤◌, true, [], ◌∷◌, ◌++◌, length, ap, sym, subst}
use Rattle.book_gate.specs.declared.views.Statement.{Statement}
use Rattle.book_gate.specs.Steps.{served}
use Rattle.book_gate.specs.Views.{StartsWith, turn}
use Rattle.rail_types.specs.declared.entries.Entry.{Entry}
use Rattle.ask_turns.specs.Turns.{Sight, TakesTurn}

pub took_turn : (v m w : Sight) (left : Statement Entry)
    → m ≡ record v { has_ticket = true; ticket = m.ticket; has_book = true; found = m.found } → w ≡ served m left
    → StartsWith m.found.list v.seen → StartsWith left.list m.found.list
    → m.found.settled ≤ length m.found.list → m.found.count ≤ left.count → TakesTurn v w left.settled
took_turn v m w left opens ends goes_on keeps within counts = subst (λ (x : Sight). TakesTurn v x left.settled) (sym ends) record {
  turns = ap (λ (x : Sight). x.turns ++ turn m.ticket m.found left ∷ []) opens;
  share = ap (λ (x : Sight). x.share) opens;
  goes_on = goes_on;
  keeps = keeps;
  within = within;
  counts = counts;
}
