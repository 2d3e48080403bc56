use Rattle.std.proofs.Common.{◌-◌, arith}
use Rattle.label_search.proofs.Zones.{all_ended, none_ended}
use Rattle.label_search.proofs.stretches.all_end_before.Goals as goal

pub returns-clause-before : goal.returns-clause-before
returns-clause-before c ended k other low high = all_ended c.args.kept.now c.args.span.now.from (c.args.count - 1) _ c.requires.zone (omega (arith, c.if-count-eq0.false, c.requires.count)) (c.ends_before.ensures.before ended) k other (omega (arith, c.if-count-eq0.false))

pub returns-clause-after : goal.returns-clause-after
returns-clause-after c open_there k other low high = none_ended c.args.kept.now c.args.span.now.from (c.args.count - 1) _ c.requires.zone (omega (arith, c.if-count-eq0.false, c.requires.count)) (c.ends_before.ensures.after open_there) k other low high
