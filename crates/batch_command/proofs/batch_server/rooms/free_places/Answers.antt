use Rattle.std.proofs.Common.{◌≡◌, ℕ, Bool, true, false, [], ◌∷◌, ◌++◌, None, get_or, is_none, ap, sym, ◌∙◌}
use Rattle.std.proofs.lemmas.List.{append-nil}
use Rattle.std.specs.List.{filter, range_with_len}
use Rattle.batch_command.proofs.Places.{filter_more, none_is}
use Rattle.batch_command.proofs.batch_server.rooms.free_places.Goals as goal
use Rattle.batch_command.proofs.batch_server.rooms.free_places.Goals.{then-is_none+in_ok-push, else-is_none}

pub loop-at-preserved : goal.loop-at-preserved
loop-at-preserved c =
    let p : ℕ → Bool = λ at. is_none (get_or c.args.owners.now at None) in
    let at : ℕ = c.loop-at.at in
    let is : p at ≡ c.is_none.result = none_is (get_or c.args.owners.now at None) c.is_none.result c.is_none.ensures in
    elim c.if-is_none.branch [
      | then-is_none+in_ok-push w ↦ ap (λ v. v.items) w.places-is ∙ w.in_ok-push.ensures.items ∙ ap (λ l. l ++ at ∷ []) c.loop-at.invariant
          ∙ sym (filter_more p at true (is ∙ w.if-is_none.true))
      | else-is_none w ↦ ap (λ v. v.items) w.places-is ∙ c.loop-at.invariant ∙ sym (append-nil (filter p (range_with_len 0 at)))
          ∙ sym (filter_more p at false (is ∙ w.if-is_none.false))
    ]
