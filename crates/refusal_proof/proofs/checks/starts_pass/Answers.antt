use Rattle.std.proofs.Common.{All, subst}
use Rattle.std.specs.Prelude.{◌↔◌, IsTrue}
use Rattle.occupation_book.specs.Held.{held}
use Rattle.stair_pieces.specs.Moves.{IsInside}
use Rattle.stair_pieces.specs.Places.{start_place}
use Rattle.refusal_proof.specs.Inside.{MovePasses}
use Rattle.refusal_proof.proofs.Moving.{moves_and_steps}
use Rattle.refusal_proof.proofs.checks.starts_pass.Goals as goal

pub returns : goal.returns
returns c =
    let kept = held c.args.book.now in
    let labels = c.args.labels.now in
    let going = c.at_once-going.result in
    let passes = c.in_ok-passes.passes in
    let law = moves_and_steps c.args.net.now c.args.settings.now c.args.request.now c.args.book.now c.args.places.now.members labels c.requires.places.distinct c.requires.labels start_place c.args.places.now.starts c.requires.moves.starts going (IsInside c.args.request.now.depart)
    (λ enter begins ends. c.at_once-going.ensures.goes kept enter) in
    let told = subst (λ moves. IsTrue passes ↔ All (MovePasses c.args.net.now c.args.settings.now c.args.request.now kept labels going start_place) moves) c.starts-moves.ensures
    (subst (λ place. IsTrue passes ↔ All (MovePasses c.args.net.now c.args.settings.now c.args.request.now kept labels going place) c.starts-moves.result.now) c.start-start.ensures c.in_ok-passes.ensures) in
    ((λ yes. law.0 (told.0 yes)), (λ steps. told.1 (law.1 steps)))
