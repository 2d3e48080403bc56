use Rattle.std.proofs.Common.{rules, ◌∙◌, ◌-◌, length, get_or, w64}
use Rattle.std.proofs.lemmas.Int.{to_z-of_z}
use mir.Val.{SFits}
use Rattle.blocking_time.proofs.Suffixes.{no_run, walk_here, walk_on, walk_end}
use Rattle.blocking_time.proofs.stairways.gone_from.Goals as goal

pub returns-then-left-block-clause-value : goal.returns-then-left-block-clause-value
returns-then-left-block-clause-value c =
    let fits : SFits w64 c.reaches.result = search rules in
    to_z-of_z w64 c.reaches.result fits ∙ walk_here c.args.net.now c.args.settings.now c.args.path.now _ c.loop-at.at c.loop-at.left c.run_block-block.result.now _ c.reaches.result (search rules) c.run_block-block.ensures.value (search rules) c.reaches.ensures.value c.loop-at.invariant

pub loop-at-preserved : goal.loop-at-preserved
loop-at-preserved c = walk_on c.args.net.now c.args.settings.now c.args.path.now _ c.loop-at.at c.loop-at.left c.run_block-block.result.now _ (search rules) c.run_block-block.ensures.value (search rules) c.loop-at.invariant

pub returns-clause-value : goal.returns-clause-value
returns-clause-value c =
    let fits : SFits w64 (get_or c.as_slice-runs.result.now (length c.as_slice-runs.result.now - 1) no_run).leave = search rules in
    to_z-of_z w64 _ fits ∙ walk_end c.args.net.now c.args.settings.now c.args.path.now c.loop-at.at c.loop-at.left _ c.as_slice-runs.result.now c.as_slice-runs.ensures c.loop-at-test.false (search rules) c.loop-at.invariant
