use Rattle.std.proofs.Common.{ap, ◌∙◌}
use Rattle.std.proofs.lemmas.Option.{slice_get_within}
use Rattle.plan_core.specs.Inside.{Desk, party_of}
use Rattle.plan_core.specs.Parties.{writing}
use Rattle.plan_core.proofs.Lists.{map_set}
use Rattle.plan_core.proofs.clients.write.Goals as goal

pub returns : goal.returns
returns c =
    let old = c.index_mut.result.now in
    let within = slice_get_within c.args.clients.now.items c.args.client c.requires.room.0 c.requires.room.1 in
    map_set party_of (writing c.args.at) c.args.clients.now.items c.args.client c.write.new.self old within (c.write.ensures.party ∙ ap (λ (desk : Desk). writing c.args.at desk.party) c.index_mut.ensures.value)
