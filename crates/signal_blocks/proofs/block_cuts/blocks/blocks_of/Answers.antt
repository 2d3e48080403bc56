use Rattle.std.proofs.Common.{rules, ◌≡◌, ◌+◌, ◌-◌, ◌∷◌, ◌++◌, [], arith, slice_index, length-append}
use Rattle.signal_blocks.specs.Blocks.{IsBlock}
use Rattle.signal_blocks.proofs.Cuttings.{each_pushed}
use Rattle.signal_blocks.proofs.block_cuts.blocks.blocks_of.Goals as goal

pub cuts-preserved : goal.cuts-preserved
cuts-preserved c =
    let behind : c.cuts.next - 1 + 1 ≡ c.cuts.next = omega (arith, c.cuts.auto.next) in
    let many = c.cuts.invariant.many in
    let block : IsBlock c.args.lines.now c.args.walk.now (slice_index c.args.cuts.now (c.cuts.next - 1)) (slice_index c.args.cuts.now (c.cuts.next - 1 + 1)) c.in_ok-block_of.field-0 = rw behind c.in_ok-block_of.ensures in
    let pushed : c.push.new.self.items ≡ c.cuts.blocks.items ++ c.in_ok-block_of.field-0 ∷ [] = search rules in
    rw pushed record {
      many = omega (arith, many, length-append c.cuts.blocks.items (c.in_ok-block_of.field-0 ∷ []));
      each = each_pushed (λ k block. IsBlock c.args.lines.now c.args.walk.now (slice_index c.args.cuts.now k) (slice_index c.args.cuts.now (k + 1)) block) _ _ _ many c.cuts.invariant.each block;
    }
