use Rattle.std.proofs.Common.{◌∷◌, Some, ap, ◌∙◌, sym}
use Rattle.atomic_table.specs.Table.{rest}
use Rattle.book_gate.proofs.gates.Gate.take_out.Goals as goal

pub exchange-before-requires : goal.exchange-before-requires
exchange-before-requires g c = let e = c.requires.called.1 in (c.requires.own.0, (Some c.requires.called.0, e ∙ ap (λ l. (0, Some c.requires.called.0) ∷ rest l) (sym e)))
