use Rattle.std.proofs.Common.{◌≡◌, ◌↔◌, ◌<◌, Bool, true, false, Some, length, nat_eq, slice_get, ap, sym, subst, refl, ◌∙◌}
use mathlib.Core.Bool.{beq}
use Rattle.std.proofs.lemmas.Bool.Decides.{Decides-eqb}
use Rattle.std.proofs.lemmas.List.{length-map}
use Rattle.std.proofs.lemmas.Option.{slice_get-get_or}
use Rattle.plan_core.specs.Inside.{Agrees, IsOwner, party_of, plan_of}
use Rattle.plan_core.specs.Worlds.{Plan}
use Rattle.plan_core.proofs.Lists.{mapping}
use Rattle.plan_core.proofs.Telling.{agrees_none, agrees_some, some_agrees}
use Rattle.plan_core.proofs.worlds.World.agrees.Goals as goal

-- two tests have the same answer just where what they tell is the same
both_told : (one other : Bool) (P Q : Type 0) → (one ≡ true ↔ P) → (other ≡ true ↔ Q) → (beq one other ≡ true) ↔ (P ↔ Q)
both_told true true P Q first second = ((λ same. ((λ p. second.0 refl), (λ q. first.0 refl))), (λ both. refl))
both_told true false P Q first second = ((λ same. let wrong : ◌≡◌ {A = Bool} false true = same in cc), (λ both. second.1 (both.0 (first.0 refl))))
both_told false true P Q first second = ((λ same. let wrong : ◌≡◌ {A = Bool} false true = same in cc), (λ both. first.1 (both.1 (second.0 refl))))
both_told false false P Q first second = ((λ same. ((λ p. let wrong : ◌≡◌ {A = Bool} false true = first.1 p in cc), (λ q. let wrong : ◌≡◌ {A = Bool} false true = second.1 q in cc))), (λ both. refl))

pub returns-in-Some : goal.returns-in-Some
returns-in-Some c =
    let s = c.self.inside in
    let world = plan_of s.history s.settled s.up s.clients.items in
    let one = c.index.result.now in
    let another = c.args.another in
    let client = c.args.client in
    let owner = c.args.owner.now in
    let at = c.in-Some.at in
    let within : another < length s.clients.items = subst (λ n. another < n) (ap (λ (it : Plan). length it.clients) (sym c.self.view_is) ∙ length-map s.clients.items party_of) c.requires in
    let there : slice_get s.clients.items another ≡ Some one = slice_get-get_or s.clients.items another one within ∙ ap Some (sym c.index.ensures) in
    let seen : slice_get world.clients another ≡ Some one.party = mapping party_of s.clients.items another one there in
    let here : slice_get c.args.self.now.clients another ≡ Some one.party = ap (λ (it : Plan). slice_get it.clients another) (sym c.self.view_is) ∙ seen in
    let first = sym c.first.ensures ∙ c.in-Some.is in
    let told = both_told c.is_owner.result (nat_eq another client) (IsOwner c.args.self.now.entries at owner) (another ≡ client) c.is_owner.ensures (Decides-eqb another client) in (
      (λ yes. agrees_some c.args.self.now client another owner one.party here at first (told.0 yes)),
      (λ agrees. told.1 (some_agrees c.args.self.now client another owner one.party here at first agrees)),
    )

pub returns-in-None : goal.returns-in-None
returns-in-None c =
    let s = c.self.inside in
    let world = plan_of s.history s.settled s.up s.clients.items in
    let one = c.index.result.now in
    let another = c.args.another in
    let within : another < length s.clients.items = subst (λ n. another < n) (ap (λ (it : Plan). length it.clients) (sym c.self.view_is) ∙ length-map s.clients.items party_of) c.requires in
    let there : slice_get s.clients.items another ≡ Some one = slice_get-get_or s.clients.items another one within ∙ ap Some (sym c.index.ensures) in
    let here : slice_get world.clients another ≡ Some one.party = mapping party_of s.clients.items another one there in
    let agrees : Agrees world c.args.client c.args.owner.now another = agrees_none world c.args.client another c.args.owner.now one.party here (sym c.first.ensures ∙ c.in-None.is) in
    ((λ yes. subst (λ (it : Plan). Agrees it c.args.client c.args.owner.now another) c.self.view_is agrees), (λ told. refl))
