use Rattle.std.proofs.Common.{◌≡◌, ◌+◌, ◌-◌, List, [], ◌++◌, length, refl, sym, ap, ◌∙◌, arith, length-append}
use Rattle.std.specs.Prelude.{vec_len}
use Rattle.outside_io.specs.Disks.{write_over}
use Rattle.outside_io.specs.StoredDisks.{Change, DiskInMemory, contents_after}
use Rattle.outside_io.specs.Logged.{bytes_in, changes_behind}
use Rattle.outside_io.specs.declared.logged.Logged.TheVariants.{Wrote}
use Rattle.outside_io.proofs.Loggings.{wrote-behind, bytes_in-push}
use Rattle.outside_io.proofs.memory_disks.MemDisk.keep.Goals as goal

pub invariant_of-self : goal.invariant_of-self
invariant_of-self c =
    let s = c.self.inside in
    let known = c.self.invariant in
    let pieces : c.extend_from_slice.new.self.items ≡ s.pieces.items ++ c.args.piece.now = c.in-Ok.ensures.items in
    let changes = (λ i. changes_behind [] (c.push_reserved.ensures.items i) (pieces i)) ∙ wrote-behind [] s.log.items s.pieces.items c.args.piece.now c.args.at (length c.args.piece.now) known.whole refl in
    let held : length (contents_after s.first.items (changes_behind [] s.log.items s.pieces.items)) ≡ vec_len s.bytes = ap length (sym known.contents) ∙ sym s.bytes.ok.0 in
    let asked = rw (← c.self.view_is) at c.requires in
    let room : c.args.room + (c.args.at - vec_len s.bytes) + length c.args.piece.now + 1 ≡ s.room = (λ i. c.args.room + (c.args.at - sym held i) + length c.args.piece.now + 1) ∙ asked in record {
      contents = c.overwrite.ensures.items ∙ ap (write_over c.args.at c.args.piece.now) known.contents ∙ sym (ap (contents_after s.first.items) changes);
      whole = omega (arith, ap bytes_in c.push_reserved.ensures.items, bytes_in-push s.log.items (Wrote c.args.at (length c.args.piece.now)), known.whole, ap length pieces, length-append s.pieces.items c.args.piece.now);
      bytes_room = omega (arith, known.bytes_room, room, c.overwrite.ensures.len, c.overwrite.ensures.capacity);
      log_room = omega (arith, known.log_room, room, c.push_reserved.ensures.len, c.push_reserved.ensures.capacity);
      pieces_room = omega (arith, known.pieces_room, room, c.in-Ok.ensures.len, c.extend_from_slice.ensures.capacity);
    }

pub returns : goal.returns
returns c =
    let s = c.self.inside in
    let pieces : c.extend_from_slice.new.self.items ≡ s.pieces.items ++ c.args.piece.now = c.in-Ok.ensures.items in
    let changes = (λ i. changes_behind [] (c.push_reserved.ensures.items i) (pieces i)) ∙ wrote-behind [] s.log.items s.pieces.items c.args.piece.now c.args.at (length c.args.piece.now) c.self.invariant.whole refl in
    let view : List Change → DiskInMemory = λ all. record { first = s.first.items; changes = all; given = s.given; room = c.args.room; calls = s.calls; fails = s.fails.items; syncs = s.syncs; failing_syncs = s.failing_syncs.items; faults = s.faults } in
    rw (← c.self.view_is) (ap view changes)
