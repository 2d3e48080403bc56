-- What labels say.
use Rattle.std.specs.Prelude.{◌≡◌, ◌⊎◌, ℕ, ◌≤◌, ◌<◌, ℤ, pos, ◌+ℤ◌, ◌≤ℤ◌, List, ◌++◌, Bool, true}
use Rattle.std.specs.Prelude.{false, length, slice_index_or, All, Any, map, filter, not}
use Rattle.rail_types.specs.declared.paths.Span.{Span}
use Rattle.rail_types.specs.declared.paths.Claim.{Claim}
use Rattle.label_search.specs.declared.plans.Member.{Member}
use Rattle.label_search.specs.declared.labels.Label.{Label}
use Rattle.label_search.specs.declared.labels.Front.{Front}
use Rattle.label_search.specs.declared.labels.Source.{Source}
use Rattle.label_search.specs.declared.labels.Origin.TheVariants.{Start}
use Rattle.label_search.specs.declared.seen.SeenPlace.{SeenPlace}
use Rattle.free_windows.specs.Free.{Holds}
use Rattle.label_search.specs.Spans.{IsFreeOf}

-- a label of the place has the tick
abbrev pub IsReached : List Label → ℕ → Bool → ℤ → Type 0
IsReached labels place ready tick = Any (λ label. (label.place ≡ place) × (label.ready ≡ ready)
    × Holds label.ticks tick) labels

-- the claim of tick 0 alone
abbrev pub one_tick : Claim
one_tick = record { zone = 0; span = record { from = pos 0; to = pos 1 } }

abbrev pub IsUnseen : List Span → ℤ → Type 0
IsUnseen spans tick = IsFreeOf spans one_tick tick

-- a label has each tick that is seen
abbrev pub IsCovered : List Label → ℕ → Bool → List Span → Type 0
IsCovered labels place ready spans = (tick : ℤ) → IsUnseen spans tick
    ⊎ IsReached labels place ready tick

-- Inside: labels have the ticks that are seen of a place
pub record IsCoveredAt (labels : List Label) (seen : SeenPlace) : Type 0 where
  pub arrivals : IsCovered labels seen.place false seen.arrived
  pub readies : IsCovered labels seen.place true seen.ready

-- Inside: and those of all places that are seen
abbrev pub AreCovered : List Label → List SeenPlace → Type 0
AreCovered labels places = All (λ seen. IsCoveredAt labels seen) places

-- more labels, each of which is so
abbrev pub IsGrown : (Label → Type 0) → List Label → List Label → Type 0
IsGrown IsSo old new = (fresh : List Label) × (new ≡ old ++ fresh) × All IsSo fresh

-- the same but for fewer ticks
pub record IsPartOf (wanted label : Label) : Type 0 where
  pub place : label.place ≡ wanted.place
  pub ready : label.ready ≡ wanted.ready
  pub origin : label.origin ≡ wanted.origin
  pub some : label.ticks.from ≤ℤ label.ticks.to
  pub ticks : (tick : ℤ) → Holds label.ticks tick → Holds wanted.ticks tick

-- the label of that number
abbrev pub label_at : List Label → ℕ → Label
label_at labels number = slice_index_or labels number (record {
  place = 0;
  ready = false;
  ticks =
      record { from = pos 0; to = pos 0 };
  origin = Start;
})

-- one of the windows has the tick
abbrev pub IsIn : List Front → ℕ → Bool → ℤ → Type 0
IsIn fronts place ready tick = Any (λ front. (front.place ≡ place) × (front.ready ≡ ready)
    × Holds front.ticks tick) fronts

-- the windows have the ticks of the labels from a number on
abbrev pub HasAllFrom : ℕ → List Label → List Front → Type 0
HasAllFrom from labels fronts = (number : ℕ) → from ≤ number → number < length labels
    → (tick : ℤ) → Holds (label_at labels number).ticks tick
    → IsIn fronts (label_at labels number).place (label_at labels number).ready tick

-- a label that has the tick, before a number, with its origin
pub record IsSourceOf (labels : List Label) (until : ℕ) (place : ℕ) (ready : Bool) (tick : ℤ)
    (source : Source) : Type 0 where
  pub before : source.number < until
  pub has : ((label_at labels source.number).place ≡ place)
      × ((label_at labels source.number).ready ≡ ready)
      × Holds (label_at labels source.number).ticks tick
  pub origin : (label_at labels source.number).origin ≡ source.origin

abbrev pub as_front : Label → Front
as_front label = record { place = label.place; ready = label.ready; ticks = label.ticks }

-- a window begins in the one before, or behind its last tick
abbrev pub GoesOn : Front → Front → Type 0
GoesOn current part = (part.place ≡ current.place) × (part.ready ≡ current.ready)
    × (current.ticks.from ≤ℤ part.ticks.from) × (part.ticks.from ≤ℤ (current.ticks.to +ℤ pos 1))

abbrev pub as_member : Front → Member
as_member front = record { place = front.place; window = front.ticks }

-- the arrivals
abbrev pub members_of : List Front → List Member
members_of fronts = map as_member (filter (λ front. not front.ready) fronts)

-- a window has the tick
abbrev pub IsOf : ℕ → Bool → ℤ → Front → Type 0
IsOf place ready tick front = (front.place ≡ place) × (front.ready ≡ ready) × Holds front.ticks tick

-- what was made of the first parts: windows, and one that may go on
pub record AreJoined (parts fronts : List Front) (current : Front) : Type 0 where
  pub some : All (λ front. front.ticks.from ≤ℤ front.ticks.to) fronts
  pub last : current.ticks.from ≤ℤ current.ticks.to
  pub sound : (place : ℕ) (ready : Bool) (tick : ℤ) → IsIn fronts place ready tick
      ⊎ IsOf place ready tick current → IsIn parts place ready tick
  pub complete : (place : ℕ) (ready : Bool) (tick : ℤ) → IsIn parts place ready tick
      → IsIn fronts place ready tick ⊎ IsOf place ready tick current

-- the windows of labels from a number on
pub record AreFronts (labels : List Label) (from next : ℕ) (parts : List Front) : Type 0 where
  pub some : All (λ part. part.ticks.from ≤ℤ part.ticks.to) parts
  pub sound : (place : ℕ) (ready : Bool) (tick : ℤ) → IsIn parts place ready tick
      → IsReached labels place ready tick
  pub complete : (number : ℕ) → from ≤ number → number < next → (tick : ℤ)
      → Holds (label_at labels number).ticks tick → IsIn parts (label_at labels number).place
      (label_at labels number).ready tick
