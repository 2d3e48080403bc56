use Rattle.std.proofs.Common.{◌≡◌, ◌∙◌, true, false, is_some, ap, sym, subst}
use Rattle.path_commit.proofs.Standing.{ClashesOwn, Unfreed, clash_own, is_none, own_clash}
use Rattle.path_commit.proofs.clashes.entry_clashes.Goals as goal

pub returns-then-is_some : goal.returns-then-is_some
returns-then-is_some c =
    let t = c.args.history.now.timetable in
    let entries = c.args.history.now.entries in
    let found = clash_own t entries c.args.claims.now (λ claim at. c.live_claims_are_unfreed.ensures.unfreed t entries claim at) c.args.at in
    ((λ wrong. cc), (λ clash. let none = (found clash).0 in let some : is_some c.freed_by.result ≡ true = sym c.is_some.ensures ∙ c.if-is_some.true in absurd (let wrong : false ≡ true = sym (ap is_some (c.freed_by.ensures ∙ none)) ∙ some in cc)))

pub returns : goal.returns
returns c =
    let t = c.args.history.now.timetable in
    let entries = c.args.history.now.entries in
    let law : Unfreed t entries = λ claim at. c.live_claims_are_unfreed.ensures.unfreed t entries claim at in
    let own = c.deref.ensures.value ∙ c.in_ok-own.ensures in
    let none = is_none c.freed_by.result (sym c.is_some.ensures ∙ c.if-is_some.false) in (
      (λ answer. own_clash t entries c.args.claims.now law c.args.at (sym c.freed_by.ensures ∙ none) (subst (λ l. ClashesOwn l c.args.claims.now) own (c.any_clashes-answer.ensures.0 answer))),
      (λ clash. c.any_clashes-answer.ensures.1 (subst (λ l. ClashesOwn l c.args.claims.now) (sym own) (clash_own t entries c.args.claims.now law c.args.at clash).1)),
    )
