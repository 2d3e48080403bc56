-- What a search answers, with what shows it.
use Rattle.std.specs.Prelude.{◌≡◌, ◌≤◌, ◌≤ℤ◌, All, List, Option, None, Some, length}
use Rattle.rail_types.specs.declared.tracks.Network.{Network}
use Rattle.rail_types.specs.declared.trains.Request.{Request}
use Rattle.rail_types.specs.declared.entries.Settings.{Settings}
use Rattle.rail_types.specs.declared.limits.TheConstants.{MAX_PLACES}
use Rattle.rail_types.specs.declared.paths.Claim.{Claim}
use Rattle.rail_types.specs.declared.paths.Path.{Path}
use Rattle.rail_types.specs.Limits.{IsRequestWithinLimits}
use Rattle.path_labels.specs.Answers.{IsCertificate, IsFinding, before, last_leave}
use Rattle.refusal_proof.specs.Proofs.{IsProof}
use Rattle.path_labels.specs.tails.declared.certificates.Closed.{Closed}
use Rattle.path_labels.specs.tails.Listed.{AreTheMoves, AreThePlaces, Listed}
use Rattle.ask_turns.specs.declared.certificates.searches.Certified.{Certified}

-- All that the check asks of a request and of members holds, and they pass: the places are those of
-- the request, which is within its limits, and no more than are searched; each window has a tick,
-- and the members show that no path of the request can be granted.
pub record Passes (net : Network) (settings : Settings) (live : List Claim) (request : Request)
    (places : Listed) (closed : Closed) : Type 0 where
  pub within : IsRequestWithinLimits request
  pub listed : AreThePlaces net request places.members
  pub moves : AreTheMoves net request places
  pub few : length places.members ≤ MAX_PLACES
  pub windows : All (λ member. member.window.from ≤ℤ member.window.to) closed.members
  pub proves : IsProof net settings live request closed

-- the request that is excluded beside an answer: itself where no path was found, and beside a path
-- the request whose window of arrival ends one tick before the path's last leave
abbrev pub excluded : Request → Option Path → Request
excluded request None = request
excluded request (Some path) = before request (last_leave path)

-- The earliest path of a request, or that there is none; and members that pass
-- the check for what is excluded.
pub record IsCertified (net : Network) (settings : Settings) (live : List Claim) (request : Request)
    (found : Certified) : Type 0 where
  pub answer : IsFinding net settings live request found.path
  pub excludes : found.excluded ≡ excluded request found.path
  pub certificate : IsCertificate net settings live found.excluded found.closed
  pub places : Listed
  pub passes : Passes net settings live found.excluded places found.closed
