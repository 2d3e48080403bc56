use Rattle.std.proofs.Common.{◌∙◌, sym, ◌∷◌, []}
use Rattle.occupation_book.specs.Held.{held}
use Rattle.refusal_proof.proofs.Clashing.{behind_other_one, meets}
use Rattle.refusal_proof.proofs.frees.behind_clash_of.Goals as goal

pub returns-clause-behind : goal.returns-clause-behind
returns-clause-behind c =
    let kept = held c.args.book.now in
    let at = c.at_begin.result in
    let begun = c.at_begin.ensures in
    behind_other_one kept c.args.claim.now at (c.in-Some.other, c.in-Some.field-0-1) c.args.window.now c.behind_other.result begun.zone begun.from begun.to
    (meets kept at (c.in-Some.other, c.in-Some.field-0-1) (c.first_clashes_are_first.ensures.some kept (at ∷ []) (c.in-Some.other, c.in-Some.field-0-1) (sym c.first_clashing.ensures.first ∙ c.in-Some.is)))
    c.behind_other.ensures.from c.behind_other.ensures.to
