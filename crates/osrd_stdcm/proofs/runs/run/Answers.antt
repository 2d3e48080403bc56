use Rattle.std.proofs.Common.{inl, inr, rules}
use Rattle.command_reports.specs.Scenes.{scene}
use Rattle.osrd_stdcm.proofs.Unhindered.{answered}
use Rattle.osrd_stdcm.proofs.runs.run.Goals as goal

pub returns-in-Err-NotUnderstood-clause-says : goal.returns-in-Err-NotUnderstood-clause-says
returns-in-Err-NotUnderstood-clause-says g c = inr (inl (record {
  asked = λ order asked. c.in-Err-NotUnderstood.ensures.refused (search rules) order asked;
  tells = c.refuse_words.ensures;
}))

pub returns-in-Err-NotUnderstood-clause-words : goal.returns-in-Err-NotUnderstood-clause-words
returns-in-Err-NotUnderstood-clause-words g c is order asked = c.in-Err-NotUnderstood.ensures.refused (search rules) order asked

pub returns-in-Ok-clause-complete : goal.returns-in-Ok-clause-complete
returns-in-Ok-clause-complete g c u =
    answered g.O.Src.Source g.O.Snk.Sink g.O.Dsk.Disk g.L.Rule c.args.rules.items
    (scene g.O.Outside c.args.outside.now) (scene g.O.Outside c.obey.new.outside) c.obey.result c.in-Ok.order
    (u.unhindered c.in-Ok.order c.in-Ok.ensures.understood) c.obey.ensures.says

pub returns-in-Err-NotUnderstood-clause-complete : goal.returns-in-Err-NotUnderstood-clause-complete
returns-in-Err-NotUnderstood-clause-complete g c u =
    absurd (c.in-Err-NotUnderstood.ensures.refused (search rules) u.order u.asked)

pub returns-in-Ok-clause-leaves : goal.returns-in-Ok-clause-leaves
returns-in-Ok-clause-leaves g c = inr (record {
  order = c.in-Ok.order;
  asked = c.in-Ok.ensures.understood;
  leaves = c.obey.ensures.leaves;
})

pub returns-in-Err-NotUnderstood-clause-leaves : goal.returns-in-Err-NotUnderstood-clause-leaves
returns-in-Err-NotUnderstood-clause-leaves g c = inl c.refuse_words.ensures.tells.reports.only
