use Rattle.std.proofs.Common.{◌≡◌, ◌+◌, ◌≤◌, ◌++◌, length, take}
use Rattle.std.specs.List.{flat_map}
use Rattle.client_lines.proofs.reply_texts.prints.print_all.Given as goal

abbrev pub invariant-loop-item : goal.invariant-loop-item
invariant-loop-item g l = record {
  held : l.to.held ≡ l.fn.to.held ++ flat_map g.P.Print.text (take l.item-index l.items);
  spare : l.fn.to.spare ≤ l.to.spare + length (flat_map g.P.Print.text (take l.item-index l.items));
}
