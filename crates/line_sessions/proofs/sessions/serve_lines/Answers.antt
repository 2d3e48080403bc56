use Rattle.std.proofs.Common.{arith, refl}
use Rattle.line_sessions.specs.Ends.{scene, streams}
use Rattle.line_sessions.proofs.SessionSteps.{ends_at_end, ends_at_full_end, ends_at_line_count, ends_at_long_line, ends_at_memory, ends_at_wanted, ends_at_write_fault, ends_in_full_fault, ends_in_read_fault, ends_unserved, ends_with_last, serving_line, serving_none}
use Rattle.line_sessions.proofs.sessions.serve_lines.Goals as goal

pub returns-in_default-clause-ended : goal.returns-in_default-clause-ended
returns-in_default-clause-ended g c =
    rw c.end_behind.ensures
    (ends_unserved g.K.Desk.answers (streams g.S.Source.left g.S.Source.faults g.T.Sink.held g.T.Sink.faults)
    (scene c.args.desk.now c.args.source.now c.args.sink.now c.args.proofs.now))

pub loop-before-init : goal.loop-before-init
loop-before-init g c = record {
  serving = serving_none g.K.Desk.answers (streams g.S.Source.left g.S.Source.faults g.T.Sink.held g.T.Sink.faults)
      (scene c.args.desk.now c.args.source.now c.args.sink.now c.args.proofs.now) c.in-Ok.reader.pending c.in-Ok.ensures;
  sound = c.requires.sound;
  left = omega (arith, c.requires.left);
}

pub returns-in-WriteFault-clause-ended : goal.returns-in-WriteFault-clause-ended
returns-in-WriteFault-clause-ended g c =
    rw c.end_behind-in-WriteFault.ensures
    (ends_at_write_fault g.K.Desk.answers (streams g.S.Source.left g.S.Source.faults g.T.Sink.held g.T.Sink.faults)
    c.loop-before.invariant.serving (scene c.answer_line.new.desk c.next_line.new.source c.answer_line.new.sink c.answer_line.new.proofs) _ _
    c.loop-before-test.true (c.in-Line.ensures.quiet (λ is. cc)) c.in-WriteFault.ensures.wanted c.in-Line.ensures.says
    (rw c.line-line.ensures at c.in-WriteFault.ensures.answered))

pub returns-in-Memory-answer_line-clause-ended : goal.returns-in-Memory-answer_line-clause-ended
returns-in-Memory-answer_line-clause-ended g c =
    rw c.end_behind-in-Memory-answer_line.ensures
    (ends_at_wanted g.K.Desk.answers (streams g.S.Source.left g.S.Source.faults g.T.Sink.held g.T.Sink.faults)
    c.loop-before.invariant.serving (scene c.answer_line.new.desk c.next_line.new.source c.answer_line.new.sink c.answer_line.new.proofs) _ _
    c.loop-before-test.true (c.in-Line.ensures.quiet (λ is. cc)) c.in-Memory-answer_line.ensures.wanted c.in-Line.ensures.says
    (rw c.line-line.ensures at c.in-Memory-answer_line.ensures.answered)
    (record { written = c.in-Memory-answer_line.ensures.quiet (λ is. cc); proofs_written = c.in-Memory-answer_line.ensures.proofs_quiet (λ is. cc) }))

pub returns-in-Last-clause-ended : goal.returns-in-Last-clause-ended
returns-in-Last-clause-ended g c =
    let answered = rw c.line-line-in-Last.ensures at c.answer_line-answered.ensures.answered in
    rw c.end_with.ensures
    (ends_with_last g.K.Desk.answers (streams g.S.Source.left g.S.Source.faults g.T.Sink.held g.T.Sink.faults)
    c.loop-before.invariant.serving (scene c.answer_line-answered.new.desk c.next_line.new.source c.answer_line-answered.new.sink c.answer_line-answered.new.proofs) _ _
    c.loop-before-test.true (c.in-Last.ensures.quiet (λ is. cc)) c.answer_line-answered.ensures.wanted c.answer_line-answered.result
    c.in-Last.ensures.says answered
    (λ isnt. record { written = c.answer_line-answered.ensures.quiet isnt; proofs_written = c.answer_line-answered.ensures.proofs_quiet isnt }))

pub returns-in-End-clause-ended : goal.returns-in-End-clause-ended
returns-in-End-clause-ended g c =
    rw c.end_behind-in-End.ensures
    (ends_at_end g.K.Desk.answers (streams g.S.Source.left g.S.Source.faults g.T.Sink.held g.T.Sink.faults)
    c.loop-before.invariant.serving c.next_line.new.source (c.in-End.ensures.quiet (λ is. cc)) _
    c.in-End.ensures.says (omega arith))

pub returns-in-LongLine-clause-ended : goal.returns-in-LongLine-clause-ended
returns-in-LongLine-clause-ended g c =
    rw c.end_behind-in-LongLine.ensures
    (ends_at_long_line g.K.Desk.answers (streams g.S.Source.left g.S.Source.faults g.T.Sink.held g.T.Sink.faults)
    c.loop-before.invariant.serving c.next_line.new.source (c.in-LongLine.ensures.quiet (λ is. cc))
    c.in-LongLine.ensures.says c.loop-before-test.true)

pub returns-in-ReadFault-clause-ended : goal.returns-in-ReadFault-clause-ended
returns-in-ReadFault-clause-ended g c =
    rw c.end_behind-in-ReadFault.ensures
    (ends_in_read_fault g.K.Desk.answers (streams g.S.Source.left g.S.Source.faults g.T.Sink.held g.T.Sink.faults)
    c.loop-before.invariant.serving c.next_line.new.source (c.in-ReadFault.ensures.fault refl) (omega arith)
    (λ full. absurd (omega (arith, full, c.loop-before-test.true))))

pub returns-in-Memory-clause-ended : goal.returns-in-Memory-clause-ended
returns-in-Memory-clause-ended g c =
    rw c.end_behind-in-Memory.ensures
    (ends_at_memory g.K.Desk.answers (streams g.S.Source.left g.S.Source.faults g.T.Sink.held g.T.Sink.faults)
    c.loop-before.invariant.serving c.next_line.new.source (c.in-Memory.ensures.quiet (λ is. cc)) _
    c.in-Memory.ensures.says.came (omega arith))

pub loop-before-preserved : goal.loop-before-preserved
loop-before-preserved g c = record {
  serving = serving_line g.K.Desk.answers (streams g.S.Source.left g.S.Source.faults g.T.Sink.held g.T.Sink.faults)
      c.loop-before.invariant.serving (scene c.answer_line.new.desk c.next_line.new.source c.answer_line.new.sink c.answer_line.new.proofs) _ _
      c.in-Line.ensures.says (rw c.line-line.ensures at c.in-Whole.ensures.answered)
      (c.in-Line.ensures.quiet (λ is. cc)) c.in-Whole.ensures.wanted
      (record { written = c.in-Whole.ensures.quiet (λ is. cc); proofs_written = c.in-Whole.ensures.proofs_quiet (λ is. cc) });
  sound = c.answer_line.ensures.sound;
  left = omega (arith, c.answer_line.ensures.left, c.loop-before.invariant.left);
}

pub returns-in-Bytes-clause-ended : goal.returns-in-Bytes-clause-ended
returns-in-Bytes-clause-ended g c =
    rw c.end_behind-in-Bytes.ensures
    (ends_at_line_count g.K.Desk.answers (streams g.S.Source.left g.S.Source.faults g.T.Sink.held g.T.Sink.faults)
    c.loop-before.invariant.serving c.has_more.new.source (c.in-Bytes.ensures.quiet (λ is. cc))
    c.in-Bytes.ensures.says (omega arith))

pub returns-in-Nothing-clause-ended : goal.returns-in-Nothing-clause-ended
returns-in-Nothing-clause-ended g c =
    rw c.end_behind-in-Nothing.ensures
    (ends_at_full_end g.K.Desk.answers (streams g.S.Source.left g.S.Source.faults g.T.Sink.held g.T.Sink.faults)
    c.loop-before.invariant.serving c.has_more.new.source (c.in-Nothing.ensures.quiet (λ is. cc)) _
    c.in-Nothing.ensures.says (omega arith))

pub returns-clause-ended : goal.returns-clause-ended
returns-clause-ended g c =
    rw c.end_behind-in-Failed.ensures
    (ends_in_full_fault g.K.Desk.answers (streams g.S.Source.left g.S.Source.faults g.T.Sink.held g.T.Sink.faults)
    c.loop-before.invariant.serving c.has_more.new.source c.in-Failed.ensures.says.0 c.in-Failed.ensures.says.1
    c.in-Failed.ensures.later (c.in-Failed.ensures.cause refl) (omega arith))
