use Rattle.std.proofs.Common.{rules, ◌≡◌, ℕ, List, get_or, refl, ◌∙◌, ap, arith}
use Rattle.std.proofs.lemmas.List.{length-map}
use Rattle.admission_rules.specs.Ruled.{Ruled, ruled, stand, with_free}
use Rattle.admission_rules.proofs.Steps.{far_all, next_told, ruled_same}
use Rattle.admission_rules.proofs.client_rules.tellings.tell_each_freed.Goals as goal

pub loop-rule-init : goal.loop-rule-init
loop-rule-init g c = refl

pub loop-rule-preserved : goal.loop-rule-preserved
loop-rule-preserved g c =
    let L = g.row.L.Denot in let kind = g.L.Rule in
    let one : L → Ruled = λ rule. ruled (kind.sense rule) (kind.numbers rule) in
    let change : Ruled → Ruled = λ rule. with_free rule c.args.wish.now in
    let s : List L = c.loop-rule.rules in let i : ℕ = c.loop-rule.rule-index in
    let xs : List Ruled = stand kind c.args.rules.now in
    let item : L = c.rule-item.result in let new : L = c.freed.new.self in
    let here : get_or s i item ≡ item = search rules in
    let long = length-map c.args.rules.now one in
    next_told one change s xs i item new c.loop-rule.invariant (omega (arith, c.loop-rule-test.true)) here
    (ruled_same c.freed.ensures.sense c.freed.ensures.numbers ∙ ap (λ (rule : L). change (one rule)) here)

pub returns : goal.returns
returns g c =
    let L = g.row.L.Denot in let kind = g.L.Rule in
    let one : L → Ruled = λ rule. ruled (kind.sense rule) (kind.numbers rule) in
    let change : Ruled → Ruled = λ rule. with_free rule c.args.wish.now in
    let xs : List Ruled = stand kind c.args.rules.now in
    let long = length-map c.args.rules.now one in
    c.loop-rule.invariant ∙ far_all change xs c.loop-rule.rule-index (omega (arith, c.loop-rule-test.false))
