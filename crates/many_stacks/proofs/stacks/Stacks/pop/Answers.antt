use Rattle.std.proofs.Common.{◌≡◌, ◌∙◌, ◌+◌, ◌-◌, ◌<◌, ◌++◌, ◌∷◌, [], length, get_or, set, sym, subst, ap, arith}
use Rattle.std.proofs.lemmas.List.{length-map, get_or_default}
use Rattle.many_stacks.specs.Stacks.{stack_at, stacks_to, stacks_of}
use Rattle.many_stacks.proofs.Linking.{empty, popped, left}
use Rattle.many_stacks.proofs.stacks.Stacks.pop.Goals as goal

pub returns-then-top-eq0-clause-none : goal.returns-then-top-eq0-clause-none
returns-then-top-eq0-clause-none g c =
    let tops = c.self.inside.tops.items in
    let nodes = c.self.inside.nodes.items in
    let inside : c.args.number < length tops = subst (λ n. c.args.number < n) (length-map tops (stack_at (stacks_to nodes))) (subst (λ all. c.args.number < length all) (sym c.self.view_is) c.requires) in
    subst (λ all. get_or all c.args.number [] ≡ []) c.self.view_is
    (empty tops nodes c.self.invariant.within c.self.invariant.behind c.args.number c.index-top.result.now inside (c.index-top.ensures ∙ get_or_default tops c.args.number c.index-top.result.now 0 inside) (omega (arith, c.if-top-eq0.true)))

pub returns-clause-some : goal.returns-clause-some
returns-clause-some g c =
    let tops = c.self.inside.tops.items in
    let nodes = c.self.inside.nodes.items in
    let inside : c.args.number < length tops = subst (λ n. c.args.number < n) (length-map tops (stack_at (stacks_to nodes))) (subst (λ all. c.args.number < length all) (sym c.self.view_is) c.requires) in
    let at = c.index-top.result.now - 1 in
    let some : c.index-top.result.now ≡ at + 1 = omega (arith, c.if-top-eq0.false) in
    let top_is : c.index-top.result.now ≡ get_or tops c.args.number 0 = c.index-top.ensures ∙ get_or_default tops c.args.number c.index-top.result.now 0 inside in
    let here = c.index-node.result.now in
    let node : here ≡ get_or nodes at here = c.index-node.ensures in
    record {
      left = stack_at (stacks_to nodes) (get_or nodes at here).below;
      was = subst (λ one. get_or c.args.self.now c.args.number [] ≡ stack_at (stacks_to nodes) (get_or nodes at here).below ++ one.item ∷ []) (sym node) (subst (λ all. get_or all c.args.number [] ≡ stack_at (stacks_to nodes) (get_or nodes at here).below ++ (get_or nodes at here).item ∷ []) c.self.view_is
          (popped tops nodes c.self.invariant.within c.self.invariant.behind c.args.number c.index-top.result.now inside top_is at here some));
      is = ap (λ one. stacks_of (set tops c.args.number one.below) nodes) node ∙ left tops nodes c.self.invariant.within c.self.invariant.behind c.args.number c.index-top.result.now inside top_is at here some ∙ ap (λ all. set all c.args.number (stack_at (stacks_to nodes) (get_or nodes at here).below)) c.self.view_is;
    }
