use Rattle.std.proofs.Common.{refl}
use Rattle.line_sessions.proofs.LineParts.{part_before, part_kept, says_long}
use Rattle.line_sessions.proofs.streams.LineReader.next_line.Goals as goal

pub returns-in-TooMany-clause-says : goal.returns-in-TooMany-clause-says
returns-in-TooMany-clause-says g c = says_long _ _ _ c.loop-self.self c.take_pending.new.self _ _ c.loop-self.invariant c.in-TooMany.ensures

pub returns-in-Failed-clause-says : goal.returns-in-Failed-clause-says
returns-in-Failed-clause-says g c = part_kept _ _ _ _ (part_before _ _ _ c.loop-self.self c.take_pending.new.self _ _ c.loop-self.invariant c.in-Part.ensures) c.in-Failed.ensures.says

pub returns-in-Failed-clause-fault : goal.returns-in-Failed-clause-fault
returns-in-Failed-clause-fault g c is = record {
  at_fault = c.loop-self.source;
  part = part_before _ _ _ c.loop-self.self c.take_pending.new.self _ _ c.loop-self.invariant c.in-Part.ensures;
  quiet = c.loop-self.invariant.quiet;
  kept = c.in-Failed.ensures.says;
  later = c.in-Failed.ensures.later;
  rose = c.in-Failed.ensures.cause refl;
}
