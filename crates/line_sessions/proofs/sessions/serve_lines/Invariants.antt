use Rattle.std.proofs.Common.{◌+◌, ◌≤◌}
use Rattle.line_sessions.specs.declared.sessions.TheConstants.{MAX_LINES}
use Rattle.line_sessions.specs.Ends.{scene, streams}
use Rattle.line_sessions.proofs.SessionSteps.{Serving}
use Rattle.line_sessions.proofs.sessions.serve_lines.Given as goal

abbrev pub invariant-loop-before : goal.invariant-loop-before
invariant-loop-before g l = record {
  serving : Serving g.K.Desk.answers (streams g.S.Source.left g.S.Source.faults g.T.Sink.held g.T.Sink.faults) (scene l.fn.desk l.fn.source l.fn.sink l.fn.proofs) (scene l.desk l.source l.sink l.proofs) l.reader.pending l.before;
  sound : g.K.Desk.is_sound l.desk;
  left : MAX_LINES ≤ g.K.Desk.lines_left l.desk + l.before;
}
