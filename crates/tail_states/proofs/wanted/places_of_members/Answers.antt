use Rattle.std.proofs.Common.{Contains, ◌∙◌, ap, get_or, subst}
use Rattle.std.proofs.lemmas.List.{get_or_default}
use Rattle.std.proofs.lemmas.List.Elements.{AllWithin-more}
use Rattle.tail_states.specs.declared.certificates.Member.{Member}
use Rattle.tail_states.proofs.Adding.{interned_still}
use Rattle.tail_states.proofs.Numbers.{contains_at}
use Rattle.tail_states.proofs.wanted.places_of_members.Goals as goal

pub loop-member-preserved : goal.loop-member-preserved
loop-member-preserved c =
    let wanted = c.args.wanted.now in
    let k = c.loop-member.member-index in
    let old = c.loop-member.places in
    let new = c.intern.new.self in
    let place = c.in_ok-place.place in
    let member = c.member-item.result in
    let told = c.in_ok-intern.ensures in
    AllWithin-more (λ (one : Member). Contains new one.place) wanted 0 k (λ j d low high. interned_still old new place (get_or wanted j d).place told.grown (c.loop-member.invariant j d low high))
    (λ d. subst (Contains new) (c.in_ok-place.ensures ∙ ap (λ (one : Member). one.place) (c.member-item.is ∙ get_or_default wanted k member d c.loop-member-test.true)) (contains_at new c.in_ok-intern.field-0 place told.at))
