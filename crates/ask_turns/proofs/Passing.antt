-- The certificates of the search pass the check.
use Rattle.std.proofs.Common.{refl, ◌≤◌, pos, ◌≤ℤ◌, List, [], ◌∷◌, length, arith}
use Rattle.std.specs.Prelude.{false}
use Rattle.std.proofs.lemmas.Int.{ints}
use Rattle.rail_types.specs.declared.tracks.Network.{Network}
use Rattle.rail_types.specs.declared.trains.Request.{Request}
use Rattle.rail_types.specs.declared.entries.Settings.{Settings}
use Rattle.rail_types.specs.declared.limits.TheConstants.{MAX_PLACES}
use Rattle.rail_types.specs.declared.paths.Claim.{Claim}
use Rattle.rail_types.specs.declared.paths.Path.{Path}
use Rattle.rail_types.specs.declared.paths.Run.{Run}
use Rattle.rail_types.specs.Limits.{IsRequestWithinLimits}
use Rattle.blocking_time.specs.Possible.{CanBeGranted}
use Rattle.path_labels.specs.Answers.{IsCertificate, before, last_leave}
use Rattle.path_labels.proofs.Granting.{last_is}
use Rattle.refusal_proof.specs.Proofs.{IsProof}
use Rattle.path_labels.specs.pieces.declared.places.Place.{Place}
use Rattle.path_labels.specs.pieces.Moves.{OfLast, PathsAreMoves, TakeTheirTime}
use Rattle.path_labels.specs.pieces.Places.{place_after, start_place, step_of}
use Rattle.path_labels.specs.tails.declared.certificates.Closed.{Closed}
use Rattle.path_labels.specs.tails.Alike.{WindowsChangeNoPlaces}
use Rattle.path_labels.specs.tails.Listed.{AreTheMoves, AreThePlaces, Listed}
use Rattle.ask_turns.specs.Certified.{Passes}
use Rattle.ask_turns.specs.CertificateLaws.{EarlierRefusalsPass, RefusalsPass}

-- a certificate is what the check looks for
pub certificate_proves : (net : Network) (settings : Settings) (live : List Claim) (request : Request) (closed : Closed) → IsCertificate net settings live request closed → IsProof net settings live request closed
certificate_proves net settings live request closed is = record { places = λ k d within. (is.members k d within).place; closed = is.closed }

certificate_passes : (net : Network) (settings : Settings) (live : List Claim) (request : Request) (places : Listed) (closed : Closed) → IsRequestWithinLimits request → AreThePlaces net request places.members → AreTheMoves net request places
    → length places.members ≤ MAX_PLACES → IsCertificate net settings live request closed → Passes net settings live request places closed
certificate_passes net settings live request places closed within listed moves few is = record {
  within = within;
  listed = listed;
  moves = moves;
  few = few;
  windows = λ k d less. (is.members k d less).some;
  proves = certificate_proves net settings live request closed is;
}

pub refusals_pass : RefusalsPass
refusals_pass net settings live request places closed sound settings_within within listed moves few answer = certificate_passes net settings live request places closed within listed moves few answer.1

-- ---- the last leave of a path

abbrev IsEnd : Settings → Run → Type 0
IsEnd settings run = (pos 0 ≤ℤ run.leave) × (run.leave ≤ℤ pos settings.horizon)

last_ends : (net : Network) (settings : Settings) (request : Request) (runs : List Run) (place : Place) → 1 ≤ length runs → TakeTheirTime net settings request place runs → OfLast (IsEnd settings) runs
last_ends net settings request [] place some times = absurd (omega arith)
last_ends net settings request (run ∷ []) place some time = (omega (arith, ints, time.begins, time.timed), time.ends)
last_ends net settings request (run ∷ (next ∷ runs)) place some (time, goes_on, times) = last_ends net settings request (next ∷ runs) (place_after net request.train place (step_of run)) (omega arith) times

pub leaves_within : PathsAreMoves → (net : Network) (settings : Settings) (live : List Claim) (request : Request) (path : Path) → IsRequestWithinLimits request → CanBeGranted net settings live request path
    → (pos 0 ≤ℤ last_leave path) × (last_leave path ≤ℤ pos settings.horizon)
leaves_within moves net settings live request path within can =
    let made = (moves net settings request path within.train.length_m.0 can.some can.blocks can.keeps).0 in
    last_is (IsEnd settings) (record { block = 0; enter = pos 0; leave = pos 0; stops = false }) path.runs (last_ends net settings request path.runs start_place can.some made.times)

pub earlier_pass : WindowsChangeNoPlaces → PathsAreMoves → EarlierRefusalsPass
earlier_pass alike moves net settings live request places path closed sound settings_within within listed are_moves few answer =
    let ends = leaves_within moves net settings live request path within answer.0.granted in
    let same = alike net request (before request (last_leave path)) (record { train = refl; origin = refl; destination = refl; stops = refl }) in
    let horizon = settings_within.horizon.1 in
    certificate_passes net settings live (before request (last_leave path)) places closed
    (record {
      train = within.train;
      depart = within.depart;
      arrive = record { from = within.arrive.from; to = (omega (arith, ints, ends.0), omega (arith, ints, ends.1, horizon)) };
      count = within.count;
      dwells = within.dwells;
    })
    (same.places places.members listed) (same.moves places are_moves) few answer.1
