use Rattle.std.proofs.Common.{ap, ◌∙◌}
use Rattle.std.proofs.lemmas.Option.{slice_get_within}
use Rattle.plan_core.specs.Inside.{Desk, party_of}
use Rattle.plan_core.specs.Parties.{noting}
use Rattle.plan_core.proofs.Lists.{map_set}
use Rattle.plan_core.proofs.clients.note.Goals as goal

pub returns : goal.returns
returns c =
    let old = c.index_mut.result.now in
    let within = slice_get_within c.args.clients.now.items c.args.client c.requires.0 c.requires.1 in
    map_set party_of (noting c.args.point c.args.entry) c.args.clients.now.items c.args.client c.note.new.self old within (c.note.ensures.party ∙ ap (λ (desk : Desk). noting c.args.point c.args.entry desk.party) c.index_mut.ensures.value)
