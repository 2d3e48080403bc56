use Rattle.refusal_proof.proofs.checks.check.Goals as goal

pub check_listed-requires-clause-places : goal.check_listed-requires-clause-places
check_listed-requires-clause-places c = record { sound = c.requires.places.sound; distinct = c.requires.places.distinct }

pub check_listed-requires-clause-moves : goal.check_listed-requires-clause-moves
check_listed-requires-clause-moves c = record {
  starts = c.requires.moves.starts;
  count = c.requires.moves.count;
  moves = λ number place moves wanted. c.requires.moves.moves number place moves;
}
