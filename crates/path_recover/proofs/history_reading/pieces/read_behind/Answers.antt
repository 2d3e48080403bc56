use Rattle.std.proofs.Common.{rules, ◌≡◌, ◌++◌, ap, ◌∙◌}
use Rattle.path_recover.proofs.history_reading.pieces.read_behind.Goals as goal
use Rattle.path_recover.proofs.Pieces.{looked_on, longer_told, whole_told}

pub loop-preserved : goal.loop-preserved
loop-preserved g c =
    let front = c.loop.file.items in
    let piece = c.in_ok-piece.piece.bytes.items in
    let all = c.extend_from_slice.new.self.items in
    let split : all ≡ front ++ piece = c.in-Ok.ensures.items ∙ ap (λ l. front ++ l) c.as_slice.ensures.value in
    record {
      front = longer_told (g.D.Disk.contents c.loop.disk) (g.D.Disk.contents c.args.disk.now) front piece all _ c.loop.invariant.looked.contents (search rules) split c.loop.invariant.front c.in_ok-piece.ensures.front;
      looked = looked_on g.D.Disk c.args.disk.now c.loop.disk c.read_piece.new.disk c.loop.invariant.looked c.in_ok-piece.ensures.looked;
      faults = c.in_ok-piece.ensures.cause ∙ c.loop.invariant.faults;
    }

pub returns-then-piece-clause-bytes : goal.returns-then-piece-clause-bytes
returns-then-piece-clause-bytes g c =
    let front = c.loop.file.items in
    let piece = c.in_ok-piece.piece.bytes.items in
    let all = c.extend_from_slice.new.self.items in
    let split : all ≡ front ++ piece = c.in-Ok.ensures.items ∙ ap (λ l. front ++ l) c.as_slice.ensures.value in
    whole_told (g.D.Disk.contents c.loop.disk) (g.D.Disk.contents c.args.disk.now) front piece all _ c.loop.invariant.looked.contents (search rules) split c.loop.invariant.front (c.in_ok-piece.ensures.end c.if-piece.true)
