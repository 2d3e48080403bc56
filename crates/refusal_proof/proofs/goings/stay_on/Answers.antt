use Rattle.std.proofs.Common.{◌∙◌, sym, ◌∷◌, []}
use Rattle.occupation_book.specs.Held.{held}
use Rattle.refusal_proof.proofs.Clashing.{meets, stays_until_first}
use Rattle.refusal_proof.proofs.goings.stay_on.Goals as goal

pub returns-clause-to : goal.returns-clause-to
returns-clause-to c =
    let kept = held c.args.book.now in
    let at = c.kept_for.result in
    stays_until_first kept c.args.zone c.args.window.now at (c.in-Some.other, c.in-Some.field-0-1) c.until.result.to c.kept_for.ensures.zone c.kept_for.ensures.from c.kept_for.ensures.to
    (meets kept at (c.in-Some.other, c.in-Some.field-0-1) (c.first_clashes_are_first.ensures.some kept (at ∷ []) (c.in-Some.other, c.in-Some.field-0-1) (sym c.first_clashing.ensures.first ∙ c.in-Some.is)))
    c.until.ensures.to
