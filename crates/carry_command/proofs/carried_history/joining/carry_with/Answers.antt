use Rattle.std.proofs.Common.{ℕ, List, length, refl, sym, subst, ap, ◌∙◌}
use Rattle.path_recover.specs.history.declared.verdicts.Verdict.{Verdict}
use Rattle.path_recover.specs.history.Meanings.{Says}
use Rattle.carry_command.specs.Carried.{IsReason}
use Rattle.carry_command.specs.CarriedInside.{carried_of}
use Rattle.carry_command.proofs.Judging.{told_new}
use Rattle.carry_command.proofs.carried_history.joining.carry_with.Goals as goal

pub reason_of-requires : goal.reason_of-requires
reason_of-requires c =
    let t = c.args.empty.now.timetable in
    let next = c.requires.next in
    let entries = carried_of c.args.old.now.entries c.args.carrying.now in
    let entry = c.args.entry.now in
    let verdict = c.judge-verdict.result in
    let says = subst (Says t entries entry) (sym c.judge-verdict.ensures) (c.verdicts_say_what_they_mean.ensures.says t entries entry) in
    record { told = told_new t entries entry verdict (length c.deref.result.now) next.live.takes_zones next.new (ap length c.deref.ensures.value ∙ next.carried.carried.are_kept.count) (λ claim at. c.live_claims_are_unfreed.ensures.unfreed t entries claim at) says }

pub keep-requires-clause-joins : goal.keep-requires-clause-joins
keep-requires-clause-joins c = record { in_range = c.requires.next.in_range; fresh = sym c.judge-verdict.ensures ∙ c.in-None.ensures.none refl }

pub leave-requires-clause-reason : goal.leave-requires-clause-reason
leave-requires-clause-reason c = subst (λ (p : List ℕ × Verdict). IsReason p.0 p.1 c.in-Some.reason) (λ i. (c.deref.ensures.value i, c.judge-verdict.ensures i)) c.in-Some.ensures.some
