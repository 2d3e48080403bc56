use Rattle.std.proofs.Common.{rules}
use Rattle.signal_blocks.specs.Cells.{cell_at}
use Rattle.signal_blocks.proofs.Ranges.{filter_map_range_more}
use Rattle.signal_blocks.proofs.block_cuts.cells.cells_between.Goals as goal
use Rattle.signal_blocks.proofs.block_cuts.cells.cells_between.Goals.{in-Some+in_ok-push, in_default}

pub places-preserved : goal.places-preserved
places-preserved c =
    let more = filter_map_range_more (cell_at c.args.walk.now c.args.from c.args.to) c.args.from c.places.place c.places.auto.place in
    elim c.match-cell_at.branch [
      | in-Some+in_ok-push w ↦ rw (more, ← c.cell_at.ensures, w.in-Some.is, ← c.places.invariant) (search rules)
      | in_default w ↦ rw (more, ← c.cell_at.ensures) (search rules)
    ]
