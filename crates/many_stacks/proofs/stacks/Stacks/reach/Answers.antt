use Rattle.std.proofs.Common.{◌≡◌, ◌∙◌, ◌-◌, ◌≤◌, [], length, get_or, ap, arith}
use Rattle.std.specs.Prelude.{vec_len}
use Rattle.many_stacks.proofs.Linking.{reached, zeros_behind}
use Rattle.many_stacks.proofs.stacks.Stacks.reach.Goals as goal

pub returns-clause-kept : goal.returns-clause-kept
returns-clause-kept g c one =
    let tops = c.self.inside.tops.items in
    let nodes = c.self.inside.nodes.items in
    let low : length tops ≤ c.in-Some.count = omega (arith, c.in-Some.ensures, c.if-number-len.false, c.len.ensures) in
    let same : get_or c.resize.new.self.items one 0 ≡ get_or tops one 0 = ap (λ all. get_or all one 0) c.in_ok-resize.ensures.items ∙ zeros_behind tops c.in-Some.count (c.in-Some.count - vec_len c.self.inside.tops) one low in
    reached tops c.resize.new.self.items nodes one same ∙ ap (λ all. get_or all one []) c.self.view_is
