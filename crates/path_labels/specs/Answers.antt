-- What a request is answered.
use Rattle.std.specs.Prelude.{◌≡◌, ℕ, ◌-◌, ℤ, pos, ◌-ℤ◌, ◌≤ℤ◌, List, length, map, All, Option, None}
use Rattle.std.specs.Prelude.{Some}
use Rattle.rail_types.specs.declared.tracks.Network.{Network}
use Rattle.rail_types.specs.declared.trains.Request.{Request}
use Rattle.rail_types.specs.declared.entries.Settings.{Settings}
use Rattle.rail_types.specs.declared.paths.Claim.{Claim}
use Rattle.rail_types.specs.declared.paths.Path.{Path}
use Rattle.blocking_time.specs.Possible.{CanBeGranted, IsPossible}
use Rattle.blocking_time.specs.Runs.{run_at}
use Rattle.occupation_book.specs.Zones.{Zone}
use Rattle.occupation_book.specs.Held.{held}
use Rattle.stair_pieces.specs.Moves.{IsPlace}
use Rattle.tail_states.specs.declared.certificates.Closed.{Closed}
use Rattle.tail_states.specs.declared.certificates.Member.{Member}
use Rattle.tail_states.specs.Closing.{IsClosed}
use Rattle.path_labels.specs.declared.answers.Sought.{Sought}
use Rattle.path_labels.specs.declared.answers.Sought.TheVariants.{Found, NoPath}

-- the tick at which the last run of a path reaches the end of its block
abbrev pub last_leave : Path → ℤ
last_leave path = (run_at path (length path.runs - 1)).leave

-- the claims that a book holds, whoever holds them
abbrev pub claims_held : List Zone → List Claim
claims_held book = map (λ one. one.0) (held book)

-- a path that can be granted, and none that can leaves last earlier
pub record IsEarliest (net : Network) (settings : Settings) (live : List Claim) (request : Request)
    (path : Path) : Type 0 where
  pub granted : CanBeGranted net settings live request path
  pub least : (other : Path) → CanBeGranted net settings live request other
      → last_leave path ≤ℤ last_leave other

-- the request whose window of arrival ends one tick before a tick
abbrev pub before : Request → ℤ → Request
before request tick = record {
  train = request.train;
  origin = request.origin;
  destination = request.destination;
  depart = request.depart;
  arrive = record { from = request.arrive.from; to = tick -ℤ pos 1 };
  stops = request.stops;
}

-- a place of the request, with one tick at least, all of them up to the horizon
pub record IsMemberOf (net : Network) (settings : Settings) (request : Request)
    (member : Member) : Type 0 where
  pub place : IsPlace net request member.place
  pub some : member.window.from ≤ℤ member.window.to
  pub ticks : (pos 0 ≤ℤ member.window.from) × (member.window.to ≤ℤ pos settings.horizon)

-- members that show that no path of the request fits
pub record IsCertificate (net : Network) (settings : Settings) (live : List Claim)
    (request : Request) (proof : Closed) : Type 0 where
  pub members : All (IsMemberOf net settings request) proof.members
  pub closed : IsClosed net settings request live proof.members

-- a path that leaves last as early as any, with a certificate for what would leave last
-- earlier; or that there is none
abbrev pub IsAnswer : Network → Settings → List Claim → Request → Sought → Type 0
IsAnswer net settings live request (Found path proof) =
    IsEarliest net settings live request path
    × IsCertificate net settings live (before request (last_leave path)) proof
IsAnswer net settings live request (NoPath proof) =
    (¬ IsPossible net settings live request) × IsCertificate net settings live request proof

-- the same without a certificate
abbrev pub IsFinding : Network → Settings → List Claim → Request → Option Path → Type 0
IsFinding net settings live request (Some path) = IsEarliest net settings live request path
IsFinding net settings live request None = ¬ IsPossible net settings live request

-- how many members an answer has
abbrev pub count_of : Sought → ℕ
count_of (Found path proof) = length proof.members
count_of (NoPath proof) = length proof.members

-- as many as the members of an answer
abbrev pub IsCount : Network → Settings → List Claim → Request → ℕ → Type 0
IsCount net settings live request count =
    (sought : Sought) × IsAnswer net settings live request sought × (count ≡ count_of sought)
