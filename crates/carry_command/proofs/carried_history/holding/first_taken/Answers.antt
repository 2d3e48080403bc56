use Rattle.std.proofs.Common.{◌+◌, drop, sym, ap, subst, ◌∙◌}
use Rattle.std.proofs.lemmas.List.{drop_more}
use Rattle.rail_types.specs.FirstClash.{first_clash}
use Rattle.rail_types.specs.Occupation.{AreJoined}
use Rattle.path_recover.specs.claims.Held.{held}
use Rattle.path_recover.proofs.history_lemmas.Joinings.{joined_drop}
use Rattle.carry_command.proofs.carried_history.holding.first_taken.Goals as goal

pub returns-in-Some : goal.returns-in-Some
returns-in-Some c =
    let claims = c.args.claims.now in
    let at = c.loop-claim.claim-index in
    let here = drop_more claims at _ c.loop-claim-test.true in
    let rest = subst AreJoined here (joined_drop claims at c.requires.joined) in
    let told = c.first_clashes_are_first.ensures.in_order (held c.args.book.now) _ (drop (at + 1) claims) c.in-Some.first c.requires.apart rest (sym c.first_clashing.ensures.first ∙ c.in-Some.is) in
    sym told ∙ (ap (first_clash (held c.args.book.now)) (sym here) ∙ c.loop-claim.invariant)
