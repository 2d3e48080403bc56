use Rattle.std.proofs.Common.{◌≡◌, ◌<◌, ◌∷◌, ◌∙◌, All, ap, false, length, map, refl, rules, subst, sym, true}
use Rattle.std.specs.Prelude.{◌+◌, ◌^◌}
use Rattle.std.proofs.lemmas.List.Elements.{All-head, All-rest}
use Rattle.label_search.specs.declared.charts.ChartWay.{ChartWay}
use Rattle.label_search.specs.Charts.{move_of_way, number_over}
use Rattle.label_search.proofs.Lending.{moves_found, none_open, way_passed}
use Rattle.label_search.proofs.lent.first_charted.Goals as goal

pub loop-way-init : goal.loop-way-init
loop-way-init c = record { same = refl; few = c.args.charted.now.few }

pub loop-way-preserved : goal.loop-way-preserved
loop-way-preserved c =
    let begins : c.loop-way.left.now ≡ c.in-Some.way.now ∷ c.in-Some.behind.now = search rules in
    let closed : c.is_open.result ≡ false = search rules in
    record {
      same = way_passed c.args.charted.now.call.now c.in-Some.way.now c.loop-way.left.now
          c.in-Some.behind.now c.args.charted.now.ways.now begins c.loop-way.invariant.same
          (sym c.is_open.ensures ∙ closed);
      few = All-rest (λ (way : ChartWay). number_over c.args.charted.now.levels way.next
          (c.args.charted.now.made + 1) < 2 ^ 32) c.in-Some.way.now c.in-Some.behind.now
          c.loop-way.left.now begins c.loop-way.invariant.few;
    }

pub first_along-requires-clause-way : goal.first_along-requires-clause-way
first_along-requires-clause-way c =
    let begins : c.loop-way.left.now ≡ c.in-Some.way.now ∷ c.in-Some.behind.now = search rules in
    All-head (λ (way : ChartWay). number_over c.args.charted.now.levels way.next
    (c.args.charted.now.made + 1) < 2 ^ 32) c.in-Some.way.now c.in-Some.behind.now
    (subst (All (λ (way : ChartWay). number_over c.args.charted.now.levels way.next
    (c.args.charted.now.made + 1) < 2 ^ 32)) begins c.loop-way.invariant.few)

pub first_along-requires-clause-behind : goal.first_along-requires-clause-behind
first_along-requires-clause-behind c =
    let begins : c.loop-way.left.now ≡ c.in-Some.way.now ∷ c.in-Some.behind.now = search rules in
    All-rest (λ (way : ChartWay). number_over c.args.charted.now.levels way.next
    (c.args.charted.now.made + 1) < 2 ^ 32) c.in-Some.way.now c.in-Some.behind.now
    c.loop-way.left.now begins c.loop-way.invariant.few

pub returns-then-is_open-clause-some : goal.returns-then-is_open-clause-some
returns-then-is_open-clause-some c =
    let begins : c.loop-way.left.now ≡ c.in-Some.way.now ∷ c.in-Some.behind.now = search rules in
    let found : c.is_open.result ≡ true = search rules in
    moves_found c.args.charted.now.call.now c.in-Some.way.now c.loop-way.left.now
    c.in-Some.behind.now c.args.charted.now.ways.now begins c.loop-way.invariant.same
    c.args.charted.now.levels c.args.charted.now.made (sym c.is_open.ensures ∙ found)
    c.first_along.result.step c.first_along.result.behind c.first_along.ensures.step
    c.first_along.ensures.behind

pub returns-clause-none : goal.returns-clause-none
returns-clause-none c =
    let none : length c.loop-way.left.now ≡ 0 = search rules in
    ap (map (move_of_way c.args.charted.now.levels c.args.charted.now.made))
    (none_open c.args.charted.now.call.now c.loop-way.left.now c.args.charted.now.ways.now none
    c.loop-way.invariant.same)
