use Rattle.command_words.proofs.Errors.{err_over}
use Rattle.command_words.proofs.reading.rule_words.Goals as goal

pub returns-in-Ok-clause-understood : goal.returns-in-Ok-clause-understood
returns-in-Ok-clause-understood c = record {
  order = c.in-Ok.order;
  asked = c.in-Ok.ensures.understood;
  rules_are = c.rules_in.ensures;
}

pub returns-in-Err-clause-refused : goal.returns-in-Err-clause-refused
returns-in-Err-clause-refused c is order asked = c.in-Err.ensures.refused (err_over _ _ is) order asked
