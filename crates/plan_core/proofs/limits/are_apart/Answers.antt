use Rattle.std.proofs.Common.{◌≡◌, ◌<◌, ◌+◌, ◌++◌, ◌∷◌, [], ℕ, pos, Bool, true, false, length, take, get_or, All, AllPairs, ap, sym, subst, refl, ◌∙◌, arith, length-take}
use Rattle.std.specs.Bool.{IsTrue}
use Rattle.std.proofs.lemmas.List.{get_or-take, get_or_default, take_all, take_more}
use Rattle.std.proofs.lemmas.List.Quantifiers.{all_pairs_push}
use Rattle.rail_types.specs.declared.paths.Claim.{Claim}
use Rattle.rail_types.specs.Occupation.{EndsBefore}
use Rattle.plan_core.proofs.limits.are_apart.Goals as goal

abbrev plain : Claim
plain = record { zone = 0; span = record { from = pos 0; to = pos 0 } }

pub returns-then-not-are_before : goal.returns-then-not-are_before
returns-then-not-are_before c =
    let claims = c.args.claims.now in
    let at = c.loop-at.at in
    let within : at < length claims = c.loop-at-test.true in (
      (λ yes. let wrong : ◌≡◌ {A = Bool} false true = yes in cc),
      (λ all.
          let before : All (λ one. EndsBefore one (get_or claims at plain)) (take at claims) = λ k d less.
          let lower : k < at = omega (arith, less, length-take at claims) in
          subst (λ it. EndsBefore it (get_or claims at plain)) (sym (get_or-take at claims k d lower)) (subst (EndsBefore (get_or claims k d)) (get_or_default claims at d plain within) (all k at d lower within)) in
          subst IsTrue c.if-not-are_before.true (c.are_before.ensures.1 (subst (All (λ one. EndsBefore one (get_or claims at plain))) (sym c.split_at.ensures.front) before))),
    )

pub loop-at-preserved : goal.loop-at-preserved
loop-at-preserved c =
    let claims = c.args.claims.now in
    let at = c.loop-at.at in
    let one = get_or claims at plain in
    let before : All (λ it. EndsBefore it one) (take at claims) = subst (All (λ it. EndsBefore it one)) c.split_at.ensures.front (c.are_before.ensures.0 c.if-not-are_before.false) in
    subst (AllPairs EndsBefore) (sym (take_more claims at plain c.loop-at-test.true)) (all_pairs_push EndsBefore (take at claims) one c.loop-at.invariant before)

pub returns : goal.returns
returns c = (
  (λ yes. subst (AllPairs EndsBefore) (take_all c.loop-at.at c.args.claims.now (omega (arith, c.loop-at-test.false))) c.loop-at.invariant),
  (λ all. refl),
)
