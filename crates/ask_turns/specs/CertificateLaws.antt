-- The certificates of the search pass the check, and can be told.
use Rattle.std.specs.Prelude.{◌≡◌, ◌≤◌, None, List, length}
use Rattle.rail_types.specs.declared.tracks.Network.{Network}
use Rattle.rail_types.specs.declared.trains.Request.{Request}
use Rattle.rail_types.specs.declared.entries.Settings.{Settings}
use Rattle.rail_types.specs.declared.limits.TheConstants.{MAX_NUMBER, MAX_PLACES}
use Rattle.rail_types.specs.declared.paths.Claim.{Claim}
use Rattle.rail_types.specs.declared.paths.Path.{Path}
use Rattle.rail_types.specs.Flaws.{first_flaw}
use Rattle.rail_types.specs.Limits.{IsRequestWithinLimits, IsSettingsWithinLimits}
use Rattle.client_lines.specs.Names.{Names}
use Rattle.path_labels.specs.Answers.{IsAnswer, IsCertificate, before, last_leave}
use Rattle.path_labels.specs.declared.answers.Sought.TheVariants.{Found, NoPath}
use Rattle.proof_texts.specs.declared.refusals.Proof.{Proof}
use Rattle.proof_texts.specs.Told.{IsProofOf, IsRequestOf}
use Rattle.path_labels.specs.tails.declared.certificates.Closed.{Closed}
use Rattle.path_labels.specs.tails.Listed.{AreTheMoves, AreThePlaces, Listed}
use Rattle.ask_turns.specs.Certified.{Passes}

-- The certificate beside the answer that there is no path passes the check for the request.
abbrev pub RefusalsPass : Type 0
RefusalsPass =
    (net : Network) (settings : Settings) (live : List Claim) (request : Request)
    (places : Listed) (closed : Closed) → first_flaw net ≡ None
    → IsSettingsWithinLimits settings → IsRequestWithinLimits request
    → AreThePlaces net request places.members → AreTheMoves net request places
    → length places.members ≤ MAX_PLACES
    → IsAnswer net settings live request (NoPath closed)
    → Passes net settings live request places closed

-- The certificate beside a path passes it for the request whose window of arrival ends one tick
-- before the path's last leave.
abbrev pub EarlierRefusalsPass : Type 0
EarlierRefusalsPass =
    (net : Network) (settings : Settings) (live : List Claim) (request : Request)
    (places : Listed) (path : Path) (closed : Closed) → first_flaw net ≡ None
    → IsSettingsWithinLimits settings → IsRequestWithinLimits request
    → AreThePlaces net request places.members → AreTheMoves net request places
    → length places.members ≤ MAX_PLACES
    → IsAnswer net settings live request (Found path closed)
    → Passes net settings live (before request (last_leave path)) places closed

-- A certificate of a request that a line can ask for can be told in a text.
abbrev pub CertificatesCanBeTold : Type 0
CertificatesCanBeTold =
    (known : Names) (settings : Settings) (live : List Claim) (proof : Proof)
    → first_flaw known.railway.network ≡ None → IsSettingsWithinLimits settings
    → IsRequestWithinLimits proof.request → IsRequestOf known proof.request
    → IsCertificate known.railway.network settings live proof.request proof.closed
    → proof.at ≤ MAX_NUMBER → proof.number ≤ MAX_NUMBER
    → length proof.closed.members ≤ MAX_NUMBER → IsProofOf known proof
