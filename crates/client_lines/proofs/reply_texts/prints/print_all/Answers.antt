use Rattle.std.proofs.Common.{arith}
use Rattle.std.proofs.lemmas.List.Folds.{length-flat_map-take}
use Rattle.std.proofs.Transfers.{starts_with_of_append, starts_with_trans}
use Rattle.client_lines.proofs.reply_texts.prints.print_all.Goals as goal

pub returns-in_default : goal.returns-in_default
returns-in_default g c =
    let fits = length-flat_map-take g.P.Print.text c.args.items.now c.loop-item.item-index c.item-item.result (omega (arith, c.loop-item-test.true)) in
    let one = rw (← c.item-item.is) at fits in
    record {
      ok = tt;
      kept = starts_with_trans _ _ _ c.print.ensures.kept (starts_with_of_append _ _ _ c.loop-item.invariant.held);
      room = λ all. c.in_default.ensures.room (omega (arith, all, c.loop-item.invariant.spare, one));
      spare = omega (arith, c.print.ensures.spare, c.loop-item.invariant.spare, one);
    }
