use Rattle.std.proofs.Common.{rules, ◌≡◌, ℕ, ◌+◌, ◌++◌, List, Some, sum_by, ap, ◌∙◌, arith}
use Rattle.std.proofs.lemmas.List.Elements.{All-append, All-pop}
use Rattle.std.proofs.lemmas.List.Sorted.{All-permutation}
use Rattle.std.proofs.lemmas.List.Sums.{sum_by_push}
use Rattle.book_gate.specs.declared.views.Turn.{Turn}
use Rattle.book_gate.specs.Passes.{view, turns_left}
use Rattle.tests_gate.specs.declared.clients.Client.{Client}
use Rattle.tests_gate.specs.Books.{AddsOne}
use Rattle.tests_gate.specs.Passes.{IsReady, HasAdded, share}
use Rattle.tests_gate.proofs.clients.join_all.Goals as goal

pub loop-client-preserved : goal.loop-client-preserved
loop-client-preserved c =
    let now = c.loop-client.invariant in let client : Client = c.in-Some.client in let rest : List Client = c.pop.new.self.items in let items = c.in-Some.ensures.items in
    let sum : (f : Client → ℕ) → sum_by f c.loop-client.clients.items ≡ sum_by f rest + f client = λ f. ap (sum_by f) items ∙ sum_by_push f rest client in
    let shares = sum (λ x. share x.pass) in let lefts = sum (λ x. turns_left x.pass) in
    let popped = All-pop (λ x. HasAdded x.pass) c.loop-client.clients.items rest (Some client) items now.all_added in
    let mine : List Turn = (view c.loop-client.pass).turns in let its : List Turn = (view client.pass).turns in record {
      ready = search rules;
      all = (All-pop (λ x. IsReady c.args.gate.now x.pass) c.loop-client.clients.items rest (Some client) items now.all).0;
      joined = let joined = ap (λ v. v.share) c.join.ensures.joined in let was = now.joined in omega arith;
      left = let budget = c.join.ensures.budget in let was = now.left in omega arith;
      added = All-permutation AddsOne (mine ++ its) (view c.join.new.into).turns c.join.ensures.turns (All-append AddsOne mine its now.added popped.1);
      all_added = popped.0;
    }
