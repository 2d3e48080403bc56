use Rattle.std.proofs.Common.{refl, sym, subst, ◌∙◌}
use Rattle.path_recover.specs.history.declared.verdicts.Verdict.{Verdict}
use Rattle.path_recover.specs.history.declared.verdicts.Verdict.TheVariants.{BreaksRequest}
use Rattle.carry_command.specs.Carried.{IsReason}
use Rattle.carry_command.specs.CarriedInside.{carried_of}
use Rattle.carry_command.specs.declared.carried_history.reasons.Reason.TheVariants.{Breaks}
use Rattle.carry_command.proofs.carried_history.joining.carry_live.Goals as goal

pub leave-requires-clause-reason : goal.leave-requires-clause-reason
leave-requires-clause-reason c =
    let t = c.args.empty.now.timetable in
    let entries = carried_of c.args.old.now.entries c.args.carrying.now in
    let entry = c.args.entry.now in
    let rule = c.in-Some.rule in
    let told = c.verdicts_say_what_they_mean.ensures.only t entries entry (BreaksRequest rule) tt (c.requires.next.new, sym c.breaks.ensures.first ∙ c.in-Some.is) in
    subst (λ (verdict : Verdict). IsReason c.args.carrying.now.kept.items verdict (Breaks rule)) (sym told) refl
