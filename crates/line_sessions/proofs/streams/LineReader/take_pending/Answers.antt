use Rattle.std.proofs.Common.{ap}
use Rattle.line_sessions.proofs.LineParts.{found_too_many, found_ending}
use Rattle.line_sessions.proofs.streams.LineReader.take_pending.Goals as goal

pub returns-then-pending-room : goal.returns-then-pending-room
returns-then-pending-room c =
    let lacks = rw c.deref.ensures.value at c.in-None.ensures.absent in
    let big = rw (c.deref.ensures.value, c.len-room.ensures) at c.if-pending-room.true in
    found_too_many c.self.inside.piece.items _ c.self.inside.begin c.self.inside.end _ (ap (λ lines. lines.pending) c.self.view_is) (ap (λ lines. lines.line) c.self.view_is) lacks c.requires big

pub returns-in-Ok : goal.returns-in-Ok
returns-in-Ok c =
    let cut = rw c.deref.ensures.value at c.in-Some.ensures.found in
    let small = rw c.len-room.ensures at c.if-front-room.false in
    found_ending c.self.inside.piece.items _ _ c.in-Some.front.now _ c.self.inside.begin c.self.inside.end _ (ap (λ lines. lines.pending) c.self.view_is) (ap (λ lines. lines.line) c.self.view_is) cut c.in-Ok.ensures.ok c.requires small
