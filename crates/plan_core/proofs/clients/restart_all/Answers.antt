use Rattle.std.proofs.Common.{arith}
use Rattle.plan_core.specs.Inside.{party_of}
use Rattle.plan_core.specs.Parties.{restarting}
use Rattle.plan_core.proofs.Lists.{map_each}
use Rattle.plan_core.proofs.clients.restart_all.Goals as goal

pub returns : goal.returns
returns c = map_each party_of (restarting c.args.front) c.loop-k.clients.items c.args.clients.now.items c.loop-k.invariant.long (λ k d less. c.loop-k.invariant.done k d (omega (arith, c.loop-k-test.false, c.len-k-end.ensures, c.loop-k.auto.k-end, less)) less)
