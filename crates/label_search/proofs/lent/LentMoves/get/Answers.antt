use Rattle.std.proofs.Common.{arith, ◌∙◌}
use Rattle.label_search.proofs.Lending.{moves_counted, move_lent}
use Rattle.label_search.proofs.lent.LentMoves.get.Goals as goal

pub charted_move-requires : goal.charted_move-requires
charted_move-requires c =
    let counted = moves_counted c.self.inside.lender c.in-Charted.charted c.args.self.now
    c.in-Charted.is c.self.view_is in
    let within = c.requires in
    omega arith

pub returns-in-Charted : goal.returns-in-Charted
returns-in-Charted c =
    let counted = moves_counted c.self.inside.lender c.in-Charted.charted c.args.self.now
    c.in-Charted.is c.self.view_is in
    let within = c.requires in
    c.charted_move.ensures ∙ move_lent c.self.inside.lender c.in-Charted.charted
    c.args.self.now c.args.number c.in-Charted.is c.self.view_is (omega arith)
