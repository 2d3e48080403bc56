use Rattle.std.proofs.Common.{◌≡◌, ◌<◌, subst, length, All}
use Rattle.std.specs.Prelude.{IfSome}
use Rattle.refusal_proof.specs.declared.labels.Label.{Label}
use Rattle.refusal_proof.specs.Inside.{members_of}
use Rattle.refusal_proof.proofs.Moving.{labels_stand}
use Rattle.refusal_proof.proofs.labels.labels_of.Goals as goal

pub returns-clause-found : goal.returns-clause-found
returns-clause-found c =
    let places = c.args.places.now.members in
    let members = c.args.members.now in
    let first = c.in-Some.labels in
    let told : members_of places first.items ≡ members = subst (λ o. IfSome o (λ labels. members_of places labels.items ≡ members)) c.in-Some.is c.in_ok-labels.ensures.found in
    let numbers : All (λ (label : Label). label.number < length places) first.items = subst (λ o. IfSome o (λ labels. All (λ (label : Label). label.number < length places) labels.items)) c.in-Some.is c.in_ok-labels.ensures.numbers in
    labels_stand places members first.items c.sort_by_number.new.labels.items c.as_slice.result.now c.in_ok-labels-2.labels.items told numbers c.requires.windows c.sort_by_number.ensures.same c.as_slice.ensures.value
    c.in_ok-labels-2.ensures.alike c.in_ok-labels-2.ensures.grown c.in_ok-labels-2.ensures.order
