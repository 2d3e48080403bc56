use Rattle.std.proofs.Common.{sym, subst, arith}
use Rattle.std.specs.Prelude.{◌↔◌, IsTrue}
use Rattle.std.proofs.lemmas.Option.{get_or_from_slice_get}
use Rattle.stair_pieces.specs.Places.{start_place}
use Rattle.refusal_proof.specs.Proofs.{claims_held}
use Rattle.refusal_proof.specs.Inside.{CanGoOn, StepsPass, members_of}
use Rattle.refusal_proof.proofs.Moving.{moves_and_steps, place_at_number}
use Rattle.refusal_proof.proofs.checks.label_passes.Goals as goal

pub moves_pass-requires-clause-place : goal.moves_pass-requires-clause-place
moves_pass-requires-clause-place c = (c.places_may_be_cut.ensures c.args.net.now c.args.settings.now c.args.request.now (c.sound_networks_are_asked.ensures c.args.net.now c.args.request.now c.requires.flawless c.requires.request.train c.requires.request.count) c.requires.settings).places c.place-place.result.now (place_at_number c.args.net.now c.args.request.now c.args.places.now.members c.args.label.now.number c.place-place.result.now c.requires.places.sound c.place-place.ensures)

pub moves_pass-requires-clause-made : goal.moves_pass-requires-clause-made
moves_pass-requires-clause-made c =
    let made = (c.places_may_be_cut.ensures c.args.net.now c.args.settings.now c.args.request.now (c.sound_networks_are_asked.ensures c.args.net.now c.args.request.now c.requires.flawless c.requires.request.train c.requires.request.count) c.requires.settings).made c.place-place.result.now (place_at_number c.args.net.now c.args.request.now c.args.places.now.members c.args.label.now.number c.place-place.result.now c.requires.places.sound c.place-place.ensures) in
    let few = c.requires.request.count in
    omega (arith, made, few)

pub returns : goal.returns
returns c =
    let places = c.args.places.now.members in
    let labels = c.args.labels.now in
    let live = claims_held c.args.book.now in
    let place = c.place-place.result.now in
    let window = c.args.label.now.window in
    let law = moves_and_steps c.args.net.now c.args.settings.now c.args.request.now c.args.book.now places labels c.requires.places.distinct c.requires.labels place c.moves-moves.result.now
    (c.requires.here place c.moves-moves.result.now c.place-place.ensures c.moves-moves.ensures) c.in_ok-going.going (CanGoOn c.args.net.now c.args.request.now live place window) c.in_ok-going.ensures.goes in
    subst (λ p. IsTrue c.in_ok-passes.passes ↔ StepsPass c.args.net.now c.args.settings.now c.args.request.now live (members_of places labels) (CanGoOn c.args.net.now c.args.request.now live p window) p)
    (sym (get_or_from_slice_get places c.args.label.now.number place start_place c.place-place.ensures))
    ((λ yes. law.0 (c.in_ok-passes.ensures.0 yes)), (λ steps. c.in_ok-passes.ensures.1 (law.1 steps)))
