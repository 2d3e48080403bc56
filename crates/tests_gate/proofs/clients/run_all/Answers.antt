use Rattle.std.proofs.Common.{◌≡◌, ℕ, ◌+◌, ◌-◌, ◌*◌, [], All, length, sum_by, sym, ap, ◌∙◌, subst, arith}
use Rattle.std.proofs.lemmas.List.Elements.{All-nil}
use Rattle.book_gate.specs.Passes.{view, turns_left}
use Rattle.book_gate.specs.Rule.{budget}
use Rattle.tests_gate.specs.declared.clients.Client.{Client}
use Rattle.tests_gate.specs.Books.{AddsOne}
use Rattle.tests_gate.specs.Passes.{share}
use Rattle.tests_gate.proofs.Sums.{sum_by-same}
use Rattle.tests_gate.proofs.clients.run_all.Goals as goal

pub close_all-requires-clause-whole : goal.close_all-requires-clause-whole
close_all-requires-clause-whole g c =
    let turns : ℕ = c.args.turns in
    let joined = c.join_all.ensures.share in
    let split = c.in_ok-all.ensures.pass.1 in
    let fresh : share c.in-Ok.made.1 ≡ c.args.clients * turns + 1 = ap (λ v. v.share) c.in-Ok.ensures.fresh in
    let given = c.in-Ok.ensures.turns in
    let count : length c.serve_all-all.result.items ≡ c.args.clients = c.serve_all-all.ensures.count ∙ c.in_ok-all.ensures.count in
    let sum : sum_by (λ (x : Client). share x.pass) c.serve_all-all.result.items ≡ c.args.clients * turns =
    sum_by-same (λ (x : Client). share x.pass) turns c.serve_all-all.result.items (λ k d h. (c.serve_all-all.ensures.ready k d h).1) ∙ ap (λ (n : ℕ). n * turns) count in
    omega arith

pub returns-clause-served : goal.returns-clause-served
returns-clause-served g c =
    let served = c.close_all.ensures.served in let given = c.in-Ok.ensures.turns in let split = c.in_ok-all.ensures.left in let joined = c.join_all.ensures.left in
    let fresh : turns_left c.in-Ok.made.1 ≡ c.args.clients * c.args.turns + 1 - 0 = ap budget c.in-Ok.ensures.fresh in
    let none : sum_by (λ (x : Client). turns_left x.pass) c.serve_all-all.result.items ≡ length c.serve_all-all.result.items * 0 =
    sum_by-same (λ (x : Client). turns_left x.pass) 0 c.serve_all-all.result.items (λ k d h. (c.serve_all-all.ensures.spent k d h).0) in
    omega arith

pub join_all-requires-clause-added : goal.join_all-requires-clause-added
join_all-requires-clause-added g c =
    let turns : (view c.split_all.new.pass).turns ≡ [] = c.in_ok-all.ensures.turns ∙ ap (λ v. v.turns) c.in-Ok.ensures.fresh in
    (subst (All AddsOne) (sym turns) (All-nil AddsOne), λ k d h. (c.serve_all-all.ensures.spent k d h).1)

pub returns-clause-book : goal.returns-clause-book
returns-clause-book g c = c.close_all.ensures.book c.join_all.ensures.added ∙ returns-clause-served g c
