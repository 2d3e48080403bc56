use Rattle.std.proofs.Common.{take, All}
use Rattle.capacity_406.specs.Selecting.{BeginsWithin}
use Rattle.capacity_406.proofs.stretch_trains.groups.runs.Given as goal

-- none of the claims so far begins in the window
abbrev pub invariant-loop-claim : goal.invariant-loop-claim
invariant-loop-claim l = All (λ claim. ¬ BeginsWithin l.stretch claim) (take l.claim-index l.claims)
