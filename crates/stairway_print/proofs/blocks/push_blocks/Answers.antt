use Rattle.std.proofs.Common.{◌≡◌, ◌∙◌, ◌+◌, ap, arith, length, get_or, ◌<◌, sym}
use Rattle.stairway_print.proofs.Lines.{ends_names, goes_on}
use Rattle.stairway_print.proofs.blocks.push_blocks.Goals as goal

pub returns-in_default : goal.returns-in_default
returns-in_default c =
    let within : c.lines.number < length c.args.blocks.now = omega (arith, c.lines.invariant.count, c.lines-test.true) in
    let is : c.block-item.result ≡ get_or c.args.blocks.now c.lines.number c.block-item.result = c.block-item.is ∙ ap (λ k. get_or c.args.blocks.now k c.block-item.result) (sym c.lines.invariant.count) in
    ends_names c.args.stops.now c.args.blocks.now c.args.names.now c.lines.number c.lines.to.items _ c.block-item.result within is c.in_default.ensures c.lines.invariant.text

pub lines-preserved : goal.lines-preserved
lines-preserved c =
    let within : c.lines.number < length c.args.blocks.now = omega (arith, c.lines.invariant.count, c.lines-test.true) in
    let is : c.block-item.result ≡ get_or c.args.blocks.now c.lines.number c.block-item.result = c.block-item.is ∙ ap (λ k. get_or c.args.blocks.now k c.block-item.result) (sym c.lines.invariant.count) in
    record {
      text = rw c.in_ok-push_block.ensures (goes_on c.args.stops.now c.args.blocks.now c.args.names.now c.lines.number c.lines.to.items _ c.block-item.result c.in-Some.name.now within is c.in-Some.ensures c.lines.invariant.text);
      count = ap (λ k. k + 1) c.lines.invariant.count;
    }
