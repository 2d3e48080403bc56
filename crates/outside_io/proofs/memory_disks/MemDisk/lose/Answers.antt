use Rattle.std.proofs.Common.{◌≡◌, ◌+◌, ◌<◌, List, [], ◌++◌, length, sym, ap, ◌∙◌, arith, length-append}
use Rattle.outside_io.specs.StoredDisks.{Change, DiskInMemory, contents_after}
use Rattle.outside_io.specs.Logged.{bytes_in, changes_behind}
use Rattle.outside_io.specs.declared.logged.Logged.TheVariants.{FailedAt}
use Rattle.outside_io.proofs.Loggings.{failed-behind, bytes_in-push}
use Rattle.outside_io.proofs.memory_disks.MemDisk.lose.Goals as goal

pub invariant_of-self : goal.invariant_of-self
invariant_of-self c =
    let s = c.self.inside in
    let known = c.self.invariant in
    let pieces : c.extend_from_slice.new.self.items ≡ s.pieces.items ++ c.args.piece.now = c.in-Ok.ensures.items in
    let changes = (λ i. changes_behind [] (c.push_reserved.ensures.items i) (pieces i)) ∙ failed-behind [] s.log.items s.pieces.items c.args.piece.now c.args.at (length c.args.piece.now) known.whole in
    let room : c.args.room + length c.args.piece.now < s.room = rw (← c.self.view_is) at c.requires in record {
      contents = known.contents ∙ sym (ap (contents_after s.first.items) changes);
      whole = omega (arith, ap bytes_in c.push_reserved.ensures.items, bytes_in-push s.log.items (FailedAt c.args.at (length c.args.piece.now)), known.whole, ap length pieces, length-append s.pieces.items c.args.piece.now);
      bytes_room = omega (arith, known.bytes_room, room);
      log_room = omega (arith, known.log_room, room, c.push_reserved.ensures.len, c.push_reserved.ensures.capacity);
      pieces_room = omega (arith, known.pieces_room, room, c.in-Ok.ensures.len, c.extend_from_slice.ensures.capacity);
    }

pub returns : goal.returns
returns c =
    let s = c.self.inside in
    let pieces : c.extend_from_slice.new.self.items ≡ s.pieces.items ++ c.args.piece.now = c.in-Ok.ensures.items in
    let changes = (λ i. changes_behind [] (c.push_reserved.ensures.items i) (pieces i)) ∙ failed-behind [] s.log.items s.pieces.items c.args.piece.now c.args.at (length c.args.piece.now) c.self.invariant.whole in
    let view : List Change → DiskInMemory = λ all. record { first = s.first.items; changes = all; given = s.given; room = c.args.room; calls = s.calls; fails = s.fails.items; syncs = s.syncs; failing_syncs = s.failing_syncs.items; faults = s.faults } in
    rw (← c.self.view_is) (ap view changes)
