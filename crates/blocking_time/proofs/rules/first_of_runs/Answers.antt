use Rattle.std.proofs.Common.{rules, ◌∙◌, sym}
use Rattle.blocking_time.proofs.Searching.{run_goes_on, run_stops, runs_end}
use Rattle.blocking_time.proofs.rules.first_of_runs.Goals as goal

pub returns-in-Some : goal.returns-in-Some
returns-in-Some c = sym (run_stops c.args.net.now c.args.settings.now c.args.path.now c.loop-index.index (search rules) c.in-Some.rule (sym c.first_of_run.ensures ∙ c.in-Some.is)) ∙ c.loop-index.invariant

pub loop-index-preserved : goal.loop-index-preserved
loop-index-preserved c = sym (run_goes_on c.args.net.now c.args.settings.now c.args.path.now c.loop-index.index (search rules) (sym c.first_of_run.ensures ∙ c.in_default.is)) ∙ c.loop-index.invariant

pub returns : goal.returns
returns c = sym (runs_end c.args.net.now c.args.settings.now c.args.path.now c.loop-index.index (search rules)) ∙ c.loop-index.invariant
