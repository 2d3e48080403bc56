use Rattle.std.proofs.Common.{◌≡◌, All, ◌+◌, ◌*◌, ◌≤◌, ◌++◌, take}
use Rattle.std.specs.List.{flat_map}
use Rattle.entry_codec.specs.Body.{claim_text}
use Rattle.entry_codec.specs.Within.{IsFourBytes}
use Rattle.entry_codec.proofs.writing.add_claims.Given as goal

abbrev pub invariant-loop-claim : goal.invariant-loop-claim
invariant-loop-claim l = record {
  held : l.to.held ≡ l.fn.to.held ++ flat_map claim_text (take l.claim-index l.claims);
  spare : l.fn.to.spare ≤ l.to.spare + 20 * l.claim-index;
  typed : All (λ claim. IsFourBytes claim.zone) (take l.claim-index l.claims);
}
