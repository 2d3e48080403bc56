use Rattle.std.proofs.Common.{rules, ◌≡◌, ◌<◌, ◌++◌, ℕ, List, get_or, length, take, sym, ◌∙◌, ap, arith}
use Rattle.std.proofs.lemmas.List.{length-set}
use Rattle.admission_rules.specs.Clients.{if_named, rules_named}
use Rattle.admission_rules.specs.declared.client_rules.clients.ClientRules.{ClientRules}
use Rattle.admission_rules.proofs.Named.{drop-next, drop-set, flat_map-more, flat_map-set, here_alike}
use Rattle.admission_rules.proofs.client_rules.clients.take_rules.Goals as goal

pub loop-one-preserved : goal.loop-one-preserved
loop-one-preserved g c =
    let L = g.row.L.Denot in
    let all : List (ClientRules L) = c.args.all.now in let left : List (ClientRules L) = c.loop-one.all in
    let i : ℕ = c.loop-one.one-index in let now = c.loop-one.invariant in
    let name : List ℕ = c.args.client.now in
    let item : ClientRules L = c.one-item.result in let new : ClientRules L = c.take_named.new.one in
    let here : get_or left i item ≡ item = search rules in
    let same : get_or all i item ≡ item = sym (here_alike left all i item now.rest) ∙ here in
    let long = now.long in
    let below : i < length all = c.loop-one-test.true in
    let within : i < length left = omega arith in
    record {
      taken = c.in_ok-take_named.ensures.taken ∙ ap (λ (l : List L). l ++ if_named name (get_or left i item)) now.taken
          ∙ ap (λ (o : ClientRules L). rules_named name (take i all) ++ if_named name o) here
          ∙ sym (flat_map-more (if_named name) all i item below same);
      others = λ other differs.
          flat_map-set (if_named other) left i new item within (c.in_ok-take_named.ensures.others other differs) ∙ now.others other differs;
      rest = drop-set left i new ∙ drop-next left all i now.rest;
      long = length-set left i new ∙ now.long;
    }

pub returns-in_err-take_named-clause-others : goal.returns-in_err-take_named-clause-others
returns-in_err-take_named-clause-others g c other differs =
    let L = g.row.L.Denot in
    let left : List (ClientRules L) = c.loop-one.all in let i : ℕ = c.loop-one.one-index in
    let item : ClientRules L = c.one-item.result in let new : ClientRules L = c.take_named.new.one in
    let long = c.loop-one.invariant.long in let below : i < length c.args.all.now = c.loop-one-test.true in
    let within : i < length left = omega arith in
    flat_map-set (if_named other) left i new item within (c.take_named.ensures.others other differs) ∙ c.loop-one.invariant.others other differs
