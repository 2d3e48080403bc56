use Rattle.std.proofs.Common.{◌≡◌, ◌≤◌, ◌+◌, length, ap, subst, sym, ◌∙◌, rules, arith}
use Rattle.grant_log.specs.Since.{AreFreedBelow}
use Rattle.grant_log.proofs.Bringing.{freed_yes, freed_no}
use Rattle.grant_log.proofs.copy_since.since.freed_since.Goals.{in-Some-freed_before+in_ok-claims_at+in_ok-push, in_default-freed_before}
use Rattle.grant_log.proofs.copy_since.since.freed_since.Goals as goal

pub loop-by-preserved : goal.loop-by-preserved
loop-by-preserved c =
    let timetable = c.args.history.now.timetable in
    let entries = c.args.history.now.entries in
    let front = c.args.front in
    let entry = c.in-Some.entry.now in
    let from : front ≤ c.loop-by.by = c.loop-by.auto.by in
    elim c.match-freed_before.branch [
      | in-Some-freed_before+in_ok-claims_at+in_ok-push w ↦
          let named = w.in-Some-freed_before.ensures.some in
          let more = freed_yes timetable entries front c.loop-by.by w.in-Some-freed_before.at entry c.loop-by.all.items _ from (search rules) named.0 named.1 (search rules) (w.from_vec-claims.ensures ∙ w.in_ok-claims_at.ensures) c.loop-by.invariant in
          subst (AreFreedBelow timetable entries front (c.loop-by.by + 1)) (sym (ap (λ v. v.items) w.all-is ∙ w.in_ok-push.ensures.items)) more
      | in_default-freed_before w ↦
          subst (AreFreedBelow timetable entries front (c.loop-by.by + 1)) (sym (ap (λ v. v.items) w.all-is)) (freed_no timetable entries front c.loop-by.by entry c.loop-by.all.items (search rules) (search rules) c.loop-by.invariant)
    ]

pub returns : goal.returns
returns c =
    let end : c.loop-by.by ≡ length c.args.history.now.entries = omega (arith, c.loop-by-test.false, c.loop-by.auto.by-end, c.front-by-end.ensures.front, c.requires) in
    subst (λ by. AreFreedBelow c.args.history.now.timetable c.args.history.now.entries c.args.front by c.loop-by.all.items) end c.loop-by.invariant
