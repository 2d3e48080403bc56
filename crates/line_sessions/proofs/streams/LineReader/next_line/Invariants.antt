use Rattle.std.proofs.Common.{◌+◌, ◌-◌, ◌++◌, length}
use Rattle.client_lines.specs.declared.lines.TheConstants.{MAX_LINE_BYTES}
use Rattle.line_sessions.proofs.LineParts.{IsReading}
use Rattle.line_sessions.proofs.streams.LineReader.next_line.Given as goal

abbrev pub invariant-loop-self : goal.invariant-loop-self
invariant-loop-self g l = IsReading (g.S.Source.left l.fn.source) (g.S.Source.left l.source) l.fn.self.pending l.self (g.S.Source.faults l.fn.source) (g.S.Source.faults l.source)

-- a part of a line is taken as long as it is not too long, and more bytes come behind it
abbrev pub decreases-loop-self : goal.decreases-loop-self
decreases-loop-self g l = MAX_LINE_BYTES + 1 - length (l.self.line ++ l.self.pending)
