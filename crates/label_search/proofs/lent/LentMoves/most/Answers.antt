use Rattle.std.proofs.Common.{arith}
use Rattle.label_search.proofs.Lending.{moves_counted, open_few}
use Rattle.label_search.proofs.lent.LentMoves.most.Goals as goal

pub returns-in-Charted : goal.returns-in-Charted
returns-in-Charted c =
    let counted = moves_counted c.self.inside.lender c.in-Charted.charted c.args.self.now
    c.in-Charted.is c.self.view_is in
    let few = open_few c.in-Charted.charted.call.now c.in-Charted.charted.ways.now in
    omega arith
