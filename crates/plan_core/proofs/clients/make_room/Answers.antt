use Rattle.std.proofs.Common.{◌≡◌, ap, sym, subst, ◌∙◌, set, length, slice_get, Some, arith}
use Rattle.std.proofs.Math.Seq.{map-set_same}
use Rattle.std.proofs.lemmas.List.{get_or-set_same}
use Rattle.std.proofs.lemmas.Option.{slice_get-get_or}
use Rattle.std.proofs.lemmas.Result.{on_ok_weaker}
use Rattle.std.proofs.Common.{length-set}
use Rattle.plan_core.specs.Inside.{Desk, party_of}
use Rattle.plan_core.proofs.clients.make_room.Goals as goal

pub returns-clause-parties : goal.returns-clause-parties
returns-clause-parties c = map-set_same party_of c.args.clients.now.items c.args.client c.reserve.new.self c.index_mut.result.now (c.reserve.ensures.party ∙ ap party_of c.index_mut.ensures.value)

pub returns-clause-room : goal.returns-clause-room
returns-clause-room c =
    let desks = c.args.clients.now.items in
    let client = c.args.client in
    let desk = c.reserve.new.self in
    let here : slice_get (set desks client desk) client ≡ Some desk = slice_get-get_or (set desks client desk) client desk (omega (arith, c.requires, length-set desks client desk)) ∙ ap Some (get_or-set_same desks client desk desk c.requires) in
    on_ok_weaker c.reserve.result (λ room. (desk, here, room)) c.reserve.ensures.room
