use Rattle.std.proofs.Common.{◌<◌, ◌≤◌, arith, refl, sym, subst, length, true≢false}
use Rattle.rail_types.specs.Occupation.{Clash, HeldClaim}
use Rattle.occupation_book.proofs.Clashes.{free_past_the_end, free_before_the_next, first_clash_here}
use Rattle.occupation_book.proofs.zones.ZoneClaims.first_clashing.Goals as goal

pub returns-then-at-len-clause-free : goal.returns-then-at-len-clause-free
returns-then-at-len-clause-free c =
    let bounds = c.first_ending_after-at.ensures in
    let past : length c.args.self.now.claims ≤ c.first_ending_after-at.result = omega (arith, c.len.ensures) in
    (λ _. free_past_the_end _ _ _ c.requires.order bounds.before bounds.after past, λ _. refl)

pub returns-then-clashes-clause-found : goal.returns-then-clashes-clause-found
returns-then-clashes-clause-found c =
    let bounds = c.first_ending_after-at.ensures in
    let within : c.first_ending_after-at.result < length c.args.self.now.claims = omega (arith, c.len.ensures) in
    first_clash_here _ _ _ c.requires.order bounds.before bounds.after _ within (λ other. sym (c.claim_at-next.ensures other)) (c.clashes.ensures.0 c.if-clashes.true)

pub returns-then-clashes-clause-free : goal.returns-then-clashes-clause-free
returns-then-clashes-clause-free c =
    let within : c.first_ending_after-at.result < length c.args.self.now.claims = omega (arith, c.len.ensures) in
    let met = subst (λ (one : HeldClaim). Clash one.0 c.args.claim.now) (c.claim_at-next.ensures c.claim_at-next.result) (c.clashes.ensures.0 c.if-clashes.true) in
    (λ none. absurd (true≢false none), λ free. absurd (free c.first_ending_after-at.result c.claim_at-next.result within met))

pub returns-else-clashes-clause-free : goal.returns-else-clashes-clause-free
returns-else-clashes-clause-free c =
    let bounds = c.first_ending_after-at.ensures in
    let within : c.first_ending_after-at.result < length c.args.self.now.claims = omega (arith, c.len.ensures) in
    let apart : ¬ Clash c.claim_at-next.result.0 c.args.claim.now = λ clash. let passes = c.clashes.ensures.1 clash in let fails = c.if-clashes.false in cc in
    (λ _. free_before_the_next _ _ _ c.requires.order bounds.before bounds.after within (λ other. subst (λ one. ¬ Clash one.0 c.args.claim.now) (c.claim_at-next.ensures other) apart), λ _. refl)
