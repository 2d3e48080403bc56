use Rattle.std.proofs.Common.{◌≡◌, ◌^◌, ◌-◌, min, map, take, sum, length}
use Rattle.rail_types.proofs.flaws.has_too_many_cells.Given as goal

-- the cells of the blocks so far, up to the greatest number of its kind
abbrev pub invariant-loop-block : goal.invariant-loop-block
invariant-loop-block l = l.count ≡ min (sum (map (λ block. length block.cells) (take l.block-index l.blocks))) (2 ^ 64 - 1)
