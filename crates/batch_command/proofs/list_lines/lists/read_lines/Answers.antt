use Rattle.std.proofs.Common.{◌++◌, ◌∷◌, [], ◌∙◌, List, ℕ, ap, arith, refl}
use Rattle.batch_command.proofs.Gathered.{broken, broken_when_full, gathered_line, gathered_none, too_long, too_many, wanted, whole_at_end, whole_with_last}
use Rattle.batch_command.proofs.list_lines.lists.read_lines.Goals as goal

pub loop-before-init : goal.loop-before-init
loop-before-init g c = gathered_none g.S.Source c.args.source.now c.args.reader.now.pending c.args.lines.now.items c.requires.nothing c.requires.none

pub loop-before-preserved : goal.loop-before-preserved
loop-before-preserved g c =
    gathered_line g.S.Source c.loop-before.invariant c.next_line.new.source _ _ _ c.in-Line.ensures.says (c.in-Line.ensures.quiet (λ is. cc))
    (c.in-Ok.ensures ∙ ap (λ (line : List ℕ). c.loop-before.lines.items ++ line ∷ []) c.line.ensures)

pub returns-in-Last-clause-read : goal.returns-in-Last-clause-read
returns-in-Last-clause-read g c =
    whole_with_last g.S.Source c.loop-before.invariant c.next_line.new.source _ _ _ c.in-Last.ensures.says (c.in-Last.ensures.quiet (λ is. cc))
    (c.in-Ok-keep.ensures ∙ ap (λ (line : List ℕ). c.loop-before.lines.items ++ line ∷ []) c.line-in-Last.ensures) c.loop-before-test.true

pub returns-in-End-clause-read : goal.returns-in-End-clause-read
returns-in-End-clause-read g c =
    whole_at_end g.S.Source c.loop-before.invariant c.next_line.new.source _ c.in-End.ensures.says (c.in-End.ensures.quiet (λ is. cc)) (omega arith)

pub returns-in-LongLine-clause-refused : goal.returns-in-LongLine-clause-refused
returns-in-LongLine-clause-refused g c =
    too_long g.S.Source c.loop-before.invariant c.next_line.new.source c.in-LongLine.ensures.says (c.in-LongLine.ensures.quiet (λ is. cc)) c.loop-before-test.true

pub returns-in-ReadFault-clause-refused : goal.returns-in-ReadFault-clause-refused
returns-in-ReadFault-clause-refused g c =
    broken g.S.Source c.loop-before.invariant c.next_line.new.source (c.in-ReadFault.ensures.fault refl) c.loop-before-test.true

pub returns-in_default-clause-refused : goal.returns-in_default-clause-refused
returns-in_default-clause-refused g c =
    wanted g.S.Source c.loop-before.invariant c.next_line.new.source _ c.in-Line.ensures.says.came (c.in-Line.ensures.quiet (λ is. cc))

pub returns-in_default-keep-clause-refused : goal.returns-in_default-keep-clause-refused
returns-in_default-keep-clause-refused g c =
    wanted g.S.Source c.loop-before.invariant c.next_line.new.source _ c.in-Last.ensures.says.last.came (c.in-Last.ensures.quiet (λ is. cc))

pub returns-in-Memory-clause-refused : goal.returns-in-Memory-clause-refused
returns-in-Memory-clause-refused g c =
    wanted g.S.Source c.loop-before.invariant c.next_line.new.source _ c.in-Memory.ensures.says.came (c.in-Memory.ensures.quiet (λ is. cc))

pub returns-in-Bytes-clause-refused : goal.returns-in-Bytes-clause-refused
returns-in-Bytes-clause-refused g c =
    too_many g.S.Source c.loop-before.invariant c.has_more.new.source c.in-Bytes.ensures.says (c.in-Bytes.ensures.quiet (λ is. cc)) (omega arith)

pub returns-in-Nothing-clause-read : goal.returns-in-Nothing-clause-read
returns-in-Nothing-clause-read g c =
    whole_at_end g.S.Source c.loop-before.invariant c.has_more.new.source _ c.in-Nothing.ensures.says (c.in-Nothing.ensures.quiet (λ is. cc)) (omega arith)

pub returns-in-Failed-clause-refused : goal.returns-in-Failed-clause-refused
returns-in-Failed-clause-refused g c =
    broken_when_full g.S.Source c.loop-before.invariant c.has_more.new.source c.in-Failed.ensures.says.0 c.in-Failed.ensures.says.1
    c.in-Failed.ensures.later (c.in-Failed.ensures.cause refl) (omega arith)
