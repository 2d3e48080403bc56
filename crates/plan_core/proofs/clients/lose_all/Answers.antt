use Rattle.std.proofs.Common.{◌≡◌, ◌<◌, ◌≤◌, ap, sym, subst, ◌∙◌, length, get_or, arith}
use Rattle.plan_core.specs.Inside.{Desk, IsAtLast, party_of}
use Rattle.plan_core.specs.Parties.{losing}
use Rattle.plan_core.proofs.Lists.{map_each}
use Rattle.plan_core.proofs.clients.lose_all.Goals as goal

pub lose-requires : goal.lose-requires
lose-requires c =
    let k = c.loop-k.k in
    let one = c.index_mut.result.now in
    let within : k < length c.args.clients.now.items = omega (arith, c.loop-k-test.true, c.len-k-end.ensures) in
    let same : get_or c.args.clients.now.items k one ≡ one = sym (c.index_mut.ensures.value ∙ c.loop-k.invariant.left k one (omega arith) within) in
    record { last = subst (λ (desk : Desk). IsAtLast c.args.at desk.party.log) same (c.requires k one within) }

pub returns : goal.returns
returns c = map_each party_of (losing c.args.at) c.loop-k.clients.items c.args.clients.now.items c.loop-k.invariant.long (λ k d less. c.loop-k.invariant.done k d (omega (arith, c.loop-k-test.false, c.len-k-end.ensures, c.loop-k.auto.k-end, less)) less)
