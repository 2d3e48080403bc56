use Rattle.std.proofs.Common.{◌≡◌, ◌∙◌, ◌+◌, ◌<◌, ◌++◌, ◌∷◌, [], length, get_or, set, refl, sym, subst, ap, arith}
use Rattle.std.proofs.lemmas.List.{length-map}
use Rattle.many_stacks.specs.declared.stacks.Node.{Node}
use Rattle.many_stacks.specs.Stacks.{stack_at, stacks_to, stacks_of}
use Rattle.many_stacks.proofs.Linking.{pushed}
use Rattle.many_stacks.proofs.stacks.Stacks.push.Goals as goal

pub returns-clause-ok : goal.returns-clause-ok
returns-clause-ok g c =
    let node : Node g.row.T.Denot = record { item = c.args.item; below = c.index.result.now } in
    let tops = c.self.inside.tops.items in
    let nodes = c.self.inside.nodes.items in
    let items : c.push.new.self.items ≡ nodes ++ node ∷ [] = c.in_ok-push.ensures.items in
    let count : c.len.result ≡ length nodes + 1 = omega (arith, c.len.ensures, c.in_ok-push.ensures.len) in
    let inside : c.args.number < length tops = subst (λ n. c.args.number < n) (length-map tops (stack_at (stacks_to nodes))) (subst (λ all. c.args.number < length all) (sym c.self.view_is) c.requires) in
    ap (λ all. stacks_of (set tops c.args.number c.len.result) all) items ∙ ap (λ n. stacks_of (set tops c.args.number n) (nodes ++ node ∷ [])) count ∙ pushed tops nodes c.self.invariant.within c.args.number c.index.result.now c.args.item node inside refl c.index.ensures ∙ ap (λ all. set all c.args.number (get_or all c.args.number [] ++ c.args.item ∷ [])) c.self.view_is
