use Rattle.std.proofs.Common.{◌≡◌, ℕ, ◌+◌, ◌-◌, ◌<◌, ◌++◌, ◌∷◌, [], Bool, cond, List, filter, length, slice_get, append_assoc, ap, sym, ◌∙◌, subst}
use Rattle.line_answers.specs.gate.Views.{positions}
use Rattle.served_clients.specs.Tellings.{may_tell}
use Rattle.served_clients.proofs.Owned.{positions_step}
use Rattle.served_clients.proofs.client_seats.tellings.told_positions.Goals as goal
use Rattle.served_clients.proofs.client_seats.tellings.told_positions.Goals.{then-may_tell+in_ok-push, else-may_tell}

pub loop-at-preserved : goal.loop-at-preserved
loop-at-preserved c =
    let entries = c.args.history.now.entries in let at = c.loop-at.at in
    let items : List ℕ = c.loop-at.places.items in
    let test : ℕ → Bool = λ p. may_tell (slice_get entries p) in
    let rest : List ℕ = filter test (positions (at + 1) (length entries - (at + 1))) in
    let below : at < length entries = subst (λ n. at < n) c.front-at-end.ensures.front c.loop-at-test.true in
    let asked : c.may_tell.result ≡ test at = c.may_tell.ensures ∙ ap may_tell c.entry.ensures in
    let before = ap (λ l. items ++ filter test l) (sym (positions_step (length entries) at below)) ∙ c.loop-at.invariant in
    elim c.if-may_tell.branch [
      | then-may_tell+in_ok-push w ↦ ap (λ v. v.items ++ rest) w.places-is ∙ ap (λ l. l ++ rest) w.in_ok-push.ensures.items
          ∙ append_assoc items (at ∷ []) rest ∙ ap (λ b. items ++ cond b (at ∷ rest) rest) (sym (sym asked ∙ w.if-may_tell.true)) ∙ before
      | else-may_tell w ↦ ap (λ v. v.items ++ rest) w.places-is ∙ ap (λ b. items ++ cond b (at ∷ rest) rest) (sym (sym asked ∙ w.if-may_tell.false)) ∙ before
    ]
