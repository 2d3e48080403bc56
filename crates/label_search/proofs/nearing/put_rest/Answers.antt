use Rattle.std.proofs.Common.{◌∙◌, ◌+◌, ◌<◌, Bor, length, map, ap, arith}
use Rattle.label_search.specs.declared.nearing.Near.{Near}
use Rattle.label_search.proofs.Resting.{ahead_read, rests_by}
use Rattle.label_search.proofs.nearing.put_rest.Goals as goal

pub returns : goal.returns
returns c =
    let nears = map (λ (near : Bor Near). near.now) c.args.nears.now in
    let rests = c.args.rests.now.items in
    let next = c.args.made + 1 in
    let within : next < length rests = omega (arith, c.requires.rests.count) in
    rests_by c.args.chart.now.spots c.args.calls.now nears c.args.made rests c.least_ahead-least.result c.requires.rests c.requires.made
    c.call_of.result.now c.near_of-2.result.now c.index.result.now c.as_slice-behind.result.now
    c.call_of.ensures.call c.near_of-2.ensures (ahead_read rests next c.index.result.now within c.index.ensures)
    (c.as_slice-behind.ensures ∙ ap (λ (near : Near). near.behind) c.near_of.ensures)
    c.least_ahead-least.ensures.ahead c.least_ahead-least.ensures.least
