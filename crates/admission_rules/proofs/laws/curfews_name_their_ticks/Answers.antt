use Rattle.admission_rules.proofs.Ticks.{holds_tells}
use Rattle.admission_rules.proofs.laws.curfews_name_their_ticks.Goals as goal

pub returns : goal.returns
returns c window from to = holds_tells window from to
