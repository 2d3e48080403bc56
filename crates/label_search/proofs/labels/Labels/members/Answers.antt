use Rattle.std.proofs.Common.{false, ◌∙◌, ◌≤ℤ◌, All, sym, subst, ap}
use Rattle.label_search.specs.Labels.{members_of}
use Rattle.label_search.specs.Closed.{IsHeld}
use Rattle.label_search.proofs.Fronts.{all_at}
use Rattle.label_search.proofs.Members.{held_of_in, in_of_held, members_some}
use Rattle.label_search.proofs.labels.Labels.members.Goals as goal

pub returns-clause-held : goal.returns-clause-held
returns-clause-held c place tick at =
    let same = c.in_ok-members.ensures ∙ ap members_of c.as_slice.ensures.value in
    subst (λ members. IsHeld members place tick) (sym same) (held_of_in place tick c.in_ok-fronts.fronts.items (all_at c.args.self.now.labels c.in_ok-fronts.fronts.items c.in_ok-fronts.ensures.complete place false tick at))

pub returns-clause-reached : goal.returns-clause-reached
returns-clause-reached c place tick is =
    let same = c.in_ok-members.ensures ∙ ap members_of c.as_slice.ensures.value in
    c.in_ok-fronts.ensures.sound place false tick (in_of_held place tick c.in_ok-fronts.fronts.items (subst (λ members. IsHeld members place tick) same is))

pub returns-clause-some : goal.returns-clause-some
returns-clause-some c =
    let same = c.in_ok-members.ensures ∙ ap members_of c.as_slice.ensures.value in
    subst (All (λ member. member.window.from ≤ℤ member.window.to)) (sym same) (members_some c.in_ok-fronts.fronts.items c.in_ok-fronts.ensures.some)
