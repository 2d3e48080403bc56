use Rattle.std.proofs.Common.{subst}
use Rattle.stair_pieces.specs.Places.{start_place}
use Rattle.tail_states.specs.Listed.{AreMovesFrom}
use Rattle.tail_states.proofs.Adding.{moves_still, wanted_moves}
use Rattle.tail_states.proofs.wanted.places_for.Goals as goal

pub returns-clause-moves : goal.returns-clause-moves
returns-clause-moves c =
    let net = c.args.net.now in
    let request = c.args.request.now in
    let from_start = subst (λ place. AreMovesFrom net request c.moves_onto.new.members place c.in_ok-starts.starts) c.start-start.ensures c.in_ok-starts.ensures.moves in
    let still = moves_still net request start_place c.moves_onto.new.members c.moves_of_wanted.new.members c.in_ok-moves.ensures.grown c.in_ok-starts.starts from_start in
    wanted_moves net request c.args.wanted.now c.in_ok-wanted.wanted c.moves_of_wanted.new.members c.in_ok-starts.starts c.in_ok-moves.moves.items c.in_ok-wanted.ensures still c.in_ok-moves.ensures.moves c.in_ok-moves.ensures.all
