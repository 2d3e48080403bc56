use Rattle.std.proofs.Common.{rules, ◌≡◌, ℕ, true, false, List, Some, get_or, sym, ◌∙◌, ap}
use Rattle.admission_rules.specs.Ruled.{Ruled, ruled}
use Rattle.admission_rules.proofs.Steps.{next_asked, stop_asked}
use Rattle.admission_rules.proofs.client_rules.denials.first_no.Goals as goal

pub returns-then-not-allows : goal.returns-then-not-allows
returns-then-not-allows g c =
    let L = g.row.L.Denot in let kind = g.L.Rule in
    let one : L → Ruled = λ rule. ruled (kind.sense rule) (kind.numbers rule) in
    let s : List L = c.args.rules.now in let i : ℕ = c.loop-rule.rule-index in
    let item : L = c.rule-item.result in
    let here : get_or s i item ≡ item = search rules in
    let says : c.allows.result ≡ false = search rules in
    ap Some c.name.ensures
    ∙ stop_asked one c.args.wish.now s i item c.loop-rule-test.true here c.loop-rule.invariant (sym c.allows.ensures ∙ says)

pub loop-rule-preserved : goal.loop-rule-preserved
loop-rule-preserved g c =
    let L = g.row.L.Denot in let kind = g.L.Rule in
    let one : L → Ruled = λ rule. ruled (kind.sense rule) (kind.numbers rule) in
    let s : List L = c.args.rules.now in let i : ℕ = c.loop-rule.rule-index in
    let item : L = c.rule-item.result in
    let here : get_or s i item ≡ item = search rules in
    let says : c.allows.result ≡ true = search rules in
    next_asked one c.args.wish.now s i item c.loop-rule-test.true here c.loop-rule.invariant (sym c.allows.ensures ∙ says)
