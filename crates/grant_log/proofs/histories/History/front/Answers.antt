use Rattle.std.proofs.Common.{subst}
use Rattle.grant_log.specs.Legal.{IsLegal, Register}
use Rattle.grant_log.proofs.histories.History.front.Goals as goal

pub returns-clause-legal : goal.returns-clause-legal
returns-clause-legal c = subst (λ (register : Register). IsLegal register.timetable register.entries) c.self.view_is c.self.invariant.legal
