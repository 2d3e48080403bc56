use Rattle.std.proofs.Common.{inr, rules}
use Rattle.osrd_stdcm.proofs.access.access_of_words.Goals as goal

pub returns-in-Err-NotUnderstood : goal.returns-in-Err-NotUnderstood
returns-in-Err-NotUnderstood c = inr (λ order asked. c.in-Err-NotUnderstood.ensures.refused (search rules) order asked, search rules)
