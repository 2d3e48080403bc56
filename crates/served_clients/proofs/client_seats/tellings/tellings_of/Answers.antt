use Rattle.std.proofs.Common.{◌≡◌, ℕ, ◌+◌, ◌++◌, ◌∷◌, [], List, drop, drop-cons, get_or, option_to_list, add-one, append_assoc, ap, refl, sym, ◌∙◌}
use Rattle.served_clients.specs.declared.client_seats.tellings.Telling.{Telling}
use Rattle.served_clients.proofs.Owned.{told_of_each, told_of_positions}
use Rattle.served_clients.proofs.client_seats.tellings.tellings_of.Goals as goal
use Rattle.served_clients.proofs.client_seats.tellings.tellings_of.Goals.{in-Some+in_ok-push, in_default}

pub loop-at-init : goal.loop-at-init
loop-at-init c = ap (λ (l : List Telling). l ++ told_of_each c.args.history.now.entries c.args.name.now c.args.places.now) c.new-tellings.ensures.items ∙ (ap (told_of_each c.args.history.now.entries c.args.name.now) c.requires ∙ told_of_positions c.args.history.now.entries c.args.name.now)

pub loop-at-preserved : goal.loop-at-preserved
loop-at-preserved c =
    let history = c.args.history.now.entries in let name = c.args.name.now in
    let places : List ℕ = c.args.places.now in let i : ℕ = c.loop-at.at-index in
    let at : ℕ = get_or places i 0 in
    let items : List Telling = c.loop-at.tellings.items in
    let rest : List Telling = told_of_each history name (drop (i + 1) places) in
    let here : drop i places ≡ at ∷ drop (i + 1) places = drop-cons places i 0 c.loop-at-test.true ∙ rw add-one refl in
    let before = ap (λ l. items ++ told_of_each history name l) (sym here) ∙ c.loop-at.invariant in
    elim c.match-own_telling.branch [
      | in-Some+in_ok-push w ↦ ap (λ v. v.items ++ rest) w.tellings-is ∙ ap (λ l. l ++ rest) w.in_ok-push.ensures.items
          ∙ append_assoc items (w.in-Some.telling ∷ []) rest ∙ ap (λ o. items ++ (option_to_list o ++ rest)) (sym (sym c.own_telling.ensures ∙ w.in-Some.is)) ∙ before
      | in_default w ↦ ap (λ v. v.items ++ rest) w.tellings-is ∙ ap (λ o. items ++ (option_to_list o ++ rest)) (sym (sym c.own_telling.ensures ∙ w.in_default.is)) ∙ before
    ]
