use Rattle.std.proofs.Common.{rules}
use Rattle.blocking_time.proofs.Leading.{keeps_told}
use Rattle.blocking_time.proofs.rules.keeps.Goals as goal

pub returns-in-Some-clause-keeps : goal.returns-in-Some-clause-keeps
returns-in-Some-clause-keeps c = keeps_told c.args.net.now c.args.settings.now c.args.path.now c.args.wanted.now _ (search rules)

pub returns-in-Asked-clause-keeps : goal.returns-in-Asked-clause-keeps
returns-in-Asked-clause-keeps c = keeps_told c.args.net.now c.args.settings.now c.args.path.now c.args.wanted.now _ (search rules)

pub returns-in-Pinned-clause-keeps : goal.returns-in-Pinned-clause-keeps
returns-in-Pinned-clause-keeps c = keeps_told c.args.net.now c.args.settings.now c.args.path.now c.args.wanted.now _ (search rules)
