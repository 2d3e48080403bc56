use Rattle.std.proofs.Common.{◌∙◌, ◌<◌, sym, ap, subst, length, get_or, All, arith}
use Rattle.std.specs.Prelude.{Contains}
use Rattle.std.proofs.lemmas.List.Elements.{All-push, AllWithin-more}
use Rattle.std.proofs.lemmas.List.{get_or_default}
use Rattle.std.proofs.lemmas.Option.{slice_get_within, get_or_from_slice_get}
use Rattle.stair_pieces.specs.Places.{start_place}
use Rattle.tail_states.specs.declared.certificates.Member.{Member}
use Rattle.refusal_proof.specs.declared.labels.Label.{Label}
use Rattle.refusal_proof.specs.Inside.{members_of}
use Rattle.refusal_proof.proofs.Moving.{contains_at, told_next}
use Rattle.refusal_proof.proofs.labels.numbered.Goals as goal

pub returns-in_default-clause-none : goal.returns-in_default-clause-none
returns-in_default-clause-none c = λ _ all. c.in_default.ensures.none (subst (λ (m : Member). Contains c.args.places.now.members m.place) (sym c.member-item.is) (all c.loop-member.member-index c.member-item.result c.loop-member-test.true))

pub label_at-requires : goal.label_at-requires
label_at-requires c =
    let within = slice_get_within c.args.places.now.members c.in-Some.number c.member-item.result.place c.in-Some.ensures.found in
    let few = c.requires.few in
    omega (arith, within, few)

pub loop-member-preserved : goal.loop-member-preserved
loop-member-preserved c =
    let places = c.args.places.now.members in
    let members = c.args.members.now in
    let k = c.loop-member.member-index in
    let old = c.loop-member.invariant in
    let label = c.label_at.result in
    let at = c.in-Some.ensures.found in
    let within = slice_get_within places c.in-Some.number c.member-item.result.place at in
    record {
      members_are = ap (members_of places) c.in_ok-push.ensures.items ∙ told_next places c.loop-member.labels.items members k label c.member-item.result old.members_are c.loop-member-test.true c.member-item.is
          (ap (λ n. get_or places n start_place) c.label_at.ensures.number ∙ get_or_from_slice_get places c.in-Some.number c.member-item.result.place start_place at) c.label_at.ensures.window;
      numbers = subst (All (λ (one : Label). one.number < length places)) (sym c.in_ok-push.ensures.items)
          (All-push (λ (one : Label). one.number < length places) c.loop-member.labels.items label old.numbers (let n = c.label_at.ensures.number in omega (arith, within, n)));
      places_are = AllWithin-more (λ (m : Member). Contains places m.place) members 0 k old.places_are
          (λ d. subst (λ (m : Member). Contains places m.place) (c.member-item.is ∙ get_or_default members k c.member-item.result d c.loop-member-test.true) (contains_at places c.in-Some.number c.member-item.result.place at));
    }
