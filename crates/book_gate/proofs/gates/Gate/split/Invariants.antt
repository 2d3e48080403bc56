use Rattle.book_gate.proofs.gates.Gate.split.Given as goal

abbrev pub ghosts-split_by : goal.ghosts-split_by
ghosts-split_by g a = record { amount = a.turns }
