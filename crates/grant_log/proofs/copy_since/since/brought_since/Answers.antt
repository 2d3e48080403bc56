use Rattle.std.proofs.Common.{◌≡◌, ◌<◌, ◌-◌, ◌++◌, [], length, take, drop, append-nil, is_some, true, false, not, refl, ap, subst, sym, ◌∙◌}
use Rattle.grant_log.specs.Live.{claims_of, freed_by, live_from, live_of, owned_by}
use Rattle.grant_log.proofs.Lives.{entry_at}
use Rattle.grant_log.specs.Since.{claims_at, claims_of_some}
use Rattle.grant_log.proofs.Bringing.{brought_more}
use Rattle.grant_log.proofs.copy_since.since.brought_since.Goals.{then-is_none+in_ok-push_brought, else-is_none}
use Rattle.grant_log.proofs.copy_since.since.brought_since.Goals as goal

pub loop-at-preserved : goal.loop-at-preserved
loop-at-preserved c =
    let timetable = c.args.history.now.timetable in
    let entries = c.args.history.now.entries in
    let front = c.args.front in
    let at = c.loop-at.at in
    let within : at < length entries = subst (λ n. at < n) c.front-at-end.ensures.front c.loop-at-test.true in
    let here = entry_at entries at within in
    let more = brought_more timetable entries front at here.0 c.loop-at.auto.at here.1 in
    let claims : claims_at timetable entries at ≡ claims_of timetable here.0.deed = ap (claims_of_some timetable) here.1 in
    elim c.if-is_none.branch [
      | then-is_none+in_ok-push_brought w ↦
          let none : is_some (freed_by entries at) ≡ false = ap is_some (sym c.freed_by.ensures) ∙ c.is_none.ensures ∙ ap not w.if-is_none.true in
          let own : live_of timetable entries at here.0 ≡ owned_by at (claims_of timetable here.0.deed) = rw none refl in
          ap (λ v. v.items) w.all-is ∙ w.in_ok-push_brought.ensures ∙ ap (λ l. l ++ owned_by at (claims_at timetable entries at)) c.loop-at.invariant ∙ ap (λ l. live_from timetable entries front (take (at - front) (drop front entries)) ++ owned_by at l) claims ∙ ap (λ l. live_from timetable entries front (take (at - front) (drop front entries)) ++ l) (sym own) ∙ sym more
      | else-is_none w ↦
          let some : is_some (freed_by entries at) ≡ true = ap is_some (sym c.freed_by.ensures) ∙ c.is_none.ensures ∙ ap not w.if-is_none.false in
          let own : live_of timetable entries at here.0 ≡ [] = rw some refl in
          ap (λ v. v.items) w.all-is ∙ c.loop-at.invariant ∙ sym (append-nil _) ∙ ap (λ l. live_from timetable entries front (take (at - front) (drop front entries)) ++ l) (sym own) ∙ sym more
    ]
