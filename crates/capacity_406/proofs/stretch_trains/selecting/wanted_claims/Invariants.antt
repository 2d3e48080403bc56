use Rattle.std.proofs.Common.{◌≡◌, take, filter}
use Rattle.capacity_406.specs.InsideStretch.{is_wanted}
use Rattle.capacity_406.proofs.stretch_trains.selecting.wanted_claims.Given as goal

abbrev pub invariant-loop-one : goal.invariant-loop-one
invariant-loop-one l = l.wanted.items ≡ filter (is_wanted l.history.entries l.stretch) (take l.one-index l.held)
