-- Histories in which each entry was judged by those before it.
use Rattle.std.specs.Prelude.{◌≡◌, ◌≢◌, ℕ, ◌<◌, List, length, take, Some, slice_get, All}
use Rattle.rail_types.specs.declared.tracks.Network.{Network}
use Rattle.rail_types.specs.declared.entries.Entry.{Entry}
use Rattle.rail_types.specs.declared.entries.Deed.{Deed}
use Rattle.rail_types.specs.declared.entries.Deed.TheVariants.{Hold, Grant, Free}
use Rattle.rail_types.specs.declared.entries.Wanted.{Wanted}
use Rattle.rail_types.specs.declared.entries.Wanted.TheVariants.{Asked, Pinned}
use Rattle.rail_types.specs.Limits.{IsEntryWithinLimits}
use Rattle.rail_types.specs.Occupation.{Clash, HeldClaim}
use Rattle.rail_types.specs.Timetables.{Timetable}
use Rattle.grant_log.specs.declared.verdicts.Verdict.TheVariants.{Fresh}
use Rattle.grant_log.specs.Verdict.{verdict_on}

-- the operational points that a request names are those of the network
abbrev pub IsWantedOn : Network → Wanted → Type 0
IsWantedOn net Pinned = Unit {0}
IsWantedOn net (Asked request) =
    (request.origin < net.stops) × (request.destination < net.stops)
    × All (λ stop. stop.stop < net.stops) request.stops

-- the zones, blocks and operational points of a deed are those of the network
abbrev pub IsDeedOn : Network → Deed → Type 0
IsDeedOn net (Hold claims reason) = All (λ claim. claim.zone < net.zones) claims
IsDeedOn net (Grant wanted path) =
    All (λ run. run.block < length net.blocks) path.runs × IsWantedOn net wanted
IsDeedOn net (Free at) = Unit {0}

-- the numbers of an entry are within their limits, and its zones, blocks and operational points are
-- those of the network; an asked path has its request's train
pub record IsInRange (timetable : Timetable) (entry : Entry) : Type 0 where
  pub within : IsEntryWithinLimits entry
  pub on_net : IsDeedOn timetable.net entry.deed

-- an entry is in range and fresh by the entries before it
pub record Joins (timetable : Timetable) (entries : List Entry) (entry : Entry) : Type 0 where
  pub in_range : IsInRange timetable entry
  pub fresh : verdict_on timetable entries entry ≡ Fresh

-- each entry joins those before it
abbrev pub IsLegal : Timetable → List Entry → Type 0
IsLegal timetable entries =
    (at : ℕ) (entry : Entry) →
    slice_get entries at ≡ Some entry → Joins timetable (take at entries) entry

-- no two of these claims with different owners clash
abbrev pub NoneClash : List HeldClaim → Type 0
NoneClash live =
    (i j : ℕ) (a b : HeldClaim) → slice_get live i ≡ Some a → slice_get live j ≡ Some b →
    a.1 ≢ b.1 → ¬ Clash a.0 b.0

-- what a history keeps: the timetable by which it judges, its entries, and
-- for how many more there is room
pub record Register : Type 0 where
  pub timetable : Timetable
  pub entries : List Entry
  pub spare : ℕ
