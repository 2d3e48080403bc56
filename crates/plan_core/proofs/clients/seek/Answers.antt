use Rattle.std.proofs.Common.{ap, ◌∙◌}
use Rattle.plan_core.specs.Inside.{Desk, party_of}
use Rattle.plan_core.specs.Parties.{seeking}
use Rattle.plan_core.proofs.Lists.{map_set}
use Rattle.plan_core.proofs.clients.seek.Goals as goal

pub returns : goal.returns
returns c = map_set party_of seeking c.args.clients.now.items c.args.client c.seek.new.self c.index_mut.result.now c.requires (c.seek.ensures.party ∙ ap (λ (desk : Desk). seeking desk.party) c.index_mut.ensures.value)
