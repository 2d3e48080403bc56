-- The claims of the trains of a file: what each train's list reads as, joined, train after train.
use Rattle.std.specs.Prelude.{◌≡◌, ℕ, ◌+◌, ℤ, pos, List, [], ◌∷◌, ◌++◌, codes, length, map}
use Rattle.std.specs.Prelude.{if◌then◌else◌, nat_le, int_lt, Result, Ok, Err}
use Rattle.serde_json.specs.Data.{Data}
use Rattle.rail_types.specs.declared.bases.BaseClaim.{BaseClaim}
use Rattle.rail_types.specs.declared.limits.TheConstants.{MAX_BASE_CLAIMS, MAX_TIMETABLE_FILE_BYTES}
use Rattle.rail_types.specs.declared.paths.Claim.{Claim}
use Rattle.rail_types.specs.declared.paths.Span.{Span}
use Rattle.blocking_time.specs.Joined.{joined_claims}
use Rattle.json_fields.specs.declared.spots.Spot.{Spot}
use Rattle.json_fields.specs.Places.{FilePlace, element, item_of, spot_of}
use Rattle.json_fields.specs.Reading.{◌>>=◌}
use Rattle.base_file.specs.declared.faults.BaseFault.{BaseFault}
use Rattle.base_file.specs.declared.faults.BaseFault.TheVariants.{EmptySpan, Limit, Memory}
use Rattle.base_file.specs.declared.faults.What.TheVariants as what
use Rattle.base_file.specs.declared.trains.Planned.{Planned}
use Rattle.base_file.specs.Fields.{object_at, name_at, tick_at, zone_at, list_at}

-- a span with ticks in it
abbrev pub span_of : Spot → ℤ → ℤ → Result Span BaseFault
span_of spot from to =
    if int_lt from to then Ok (record { from = from; to = to }) else Err (EmptySpan spot)

-- the two ticks of a requirement, in their order
abbrev pub span_in : FilePlace → Data → Result Span BaseFault
span_in place d = do
  from ← tick_at place (codes "from") what.From d
  to ← tick_at place (codes "to") what.To d
  span_of (spot_of place (codes "to")) from to

-- the three fields of a requirement, in their order
abbrev pub claim_in : ℕ → FilePlace → Data → Result Claim BaseFault
claim_in zones place d = do
  object ← object_at place d
  zone ← zone_at place (codes "zone") zones d
  span ← span_in place d
  Ok (record { zone = zone; span = span })

-- requirements are read in order, each with its index
abbrev pub read_claims : ℕ → FilePlace → List Claim → List Data → Result (List Claim) BaseFault
read_claims zones place before [] = Ok before
read_claims zones place before (d ∷ ds) = do
  claim ← claim_in zones (item_of place (codes "requirements") (length before)) d
  read_claims zones place (before ++ claim ∷ []) ds

-- the elements of all lists of requirements so far, this one's among
-- them, are no more than the limit
abbrev pub counted : ℕ → List Data → Result (List Data) BaseFault
counted elements ds =
    if nat_le (elements + length ds) MAX_BASE_CLAIMS then Ok ds
    else Err (Limit what.List (pos (elements + length ds)))

-- the claims of a train as its list has them, where the lists of the trains
-- before it had so many elements
abbrev pub train_at : ℕ → FilePlace → ℕ → Data → Result (List Claim) BaseFault
train_at zones place elements d = do
  object ← object_at place d
  name ← name_at place (codes "name") d
  list ← list_at place (codes "requirements") d
  few ← counted elements list
  read_claims zones place [] few

-- a claim of the train of this index
abbrev pub of_train : ℕ → Claim → BaseClaim
of_train train claim = record { claim = claim; train = train }

-- one train more: its claims joined stand behind those of the trains before it
abbrev pub with_train : Planned → List Claim → Planned
with_train before claims = record {
  trains = before.trains + 1;
  elements = before.elements + length claims;
  claims = before.claims ++ map (of_train before.trains) (joined_claims claims);
}

-- trains are read in order, each with its index
abbrev pub read_trains : ℕ → Planned → List Data → Result Planned BaseFault
read_trains zones before [] = Ok before
read_trains zones before (d ∷ ds) = do
  claims ← train_at zones (element (codes "trains") before.trains) before.elements d
  read_trains zones (with_train before claims) ds

abbrev pub none_planned : Planned
none_planned = record { trains = 0; elements = 0; claims = [] }

-- A list of a file has no more elements than the file may have bytes. No file within its size has
-- such a list, since each element takes a byte at least; it is a limit of the list all the same.
abbrev pub in_a_file : List Data → Result (List Data) BaseFault
in_a_file ds =
    if nat_le (length ds) MAX_TIMETABLE_FILE_BYTES then Ok ds
    else Err (Limit what.List (pos (length ds)))

-- the joined claims of all trains
abbrev pub claims_of_trains : ℕ → List Data → Result (List BaseClaim) BaseFault
claims_of_trains zones ds = do
  list ← in_a_file ds
  planned ← read_trains zones none_planned list
  Ok planned.claims

-- inside: the claim that was read stands behind the others, unless memory was wanted
abbrev pub GivesNextClaim : List Claim → List Claim → Result (Unit {0}) BaseFault
    → Result Claim BaseFault → Type 0
GivesNextClaim old new (Ok _) read =
    (claim : Claim) × (read ≡ Ok claim) × (new ≡ old ++ claim ∷ [])
GivesNextClaim old new (Err e) read = (e ≡ Memory → ⊥) → read ≡ Err e

-- inside: what was read stands behind the rest, unless memory was wanted
abbrev pub GivesNext : Planned → Planned → Result (Unit {0}) BaseFault
    → Result (List Claim) BaseFault → Type 0
GivesNext old new (Ok _) read =
    (claims : List Claim) × (read ≡ Ok claims) × (new ≡ with_train old claims)
GivesNext old new (Err e) read = (e ≡ Memory → ⊥) → read ≡ Err e
