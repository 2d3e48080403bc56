use Rattle.std.proofs.Common.{◌≡◌, get_or, rules, ap, sym, ◌∙◌}
use Rattle.label_search.specs.declared.seen.SeenPlace.{SeenPlace}
use Rattle.label_search.proofs.seen.is_there.Goals as goal

pub returns-clause-place : goal.returns-clause-place
returns-clause-place c same d =
    let read : get_or c.args.seen.now c.args.number d ≡ c.in-Some.one.now = sym (c.in-Some.ensures.lookup.3.1 d) in
    let there : c.in-Some.one.now.place ≡ c.args.place = search rules in
    ap (λ (one : SeenPlace). one.place) read ∙ there
