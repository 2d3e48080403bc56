use Rattle.std.proofs.Common.{◌-◌, ◌<◌, ◌≤ℤ◌, length, subst, refl, inl, inr, arith}
use Rattle.std.specs.List.{AllWithin}
use Rattle.std.proofs.lemmas.Bool.{cases_eq}
use Rattle.free_windows.proofs.Hints.{ended_to, late_from}
use Rattle.free_windows.proofs.frees.first_ending_near.Goals as goal

pub loop-at-init : goal.loop-at-init
loop-at-init c = record {
  bound = c.if-not-have_ended.ensures.bound refl;
  before = elim (cases_eq c.args.hint 0) [
    | inl none ↦ λ k other low high. absurd (omega (arith, none, high))
    | inr some ↦
        let bound = c.if-not-have_ended.ensures.bound refl in
        subst (λ n. AllWithin (λ one. one.0.span.to ≤ℤ c.args.span.now.from) c.args.kept.now.claims 0 n) (omega (arith, some))
        (ended_to c.args.zone c.args.kept.now.claims c.args.span.now.from c.requires (c.args.hint - 1) (omega (arith, some, bound)) (c.if-not-have_ended.ensures.ended refl (omega (arith, some))))
  ];
}

pub returns-then-not-ends_by-clause-after : goal.returns-then-not-ends_by-clause-after
returns-then-not-ends_by-clause-after c =
    let within : c.loop-at.at < length c.args.kept.now.claims = omega (arith, c.len-at-end.ensures, c.loop-at-test.true) in
    late_from c.args.zone c.args.kept.now.claims c.args.span.now.from c.requires c.loop-at.at within (c.if-not-ends_by.ensures.late refl within)
