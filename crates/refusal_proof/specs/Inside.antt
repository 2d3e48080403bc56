-- Inside the check: labels, the ticks at which a train may go on, and what a move leads to.
use Rattle.std.specs.Prelude.{◌≡◌, ◌⊎◌, ◌↔◌, ℕ, ◌+◌, ◌^◌, ◌<◌, ℤ, pos, neg_ℤ, ◌+ℤ◌, ◌<ℤ◌, ◌≤ℤ◌}
use Rattle.std.specs.Prelude.{List, [], ◌++◌, length, map, All, AllPairs, Any, Some, slice_get}
use Rattle.std.specs.List.{slice_index_or}
use Rattle.rail_types.specs.declared.tracks.Network.{Network}
use Rattle.rail_types.specs.declared.trains.Request.{Request}
use Rattle.rail_types.specs.declared.entries.Settings.{Settings}
use Rattle.rail_types.specs.declared.paths.Claim.{Claim}
use Rattle.rail_types.specs.declared.paths.Window.{Window}
use Rattle.rail_types.specs.declared.limits.TheConstants.{FAR_TICK}
use Rattle.rail_types.specs.Occupation.{HeldClaim}
use Rattle.occupation_book.specs.Held.{IsFree}
use Rattle.running_time.specs.Times.{run_ticks}
use Rattle.blocking_time.specs.Runs.{block_at}
use Rattle.stair_pieces.specs.declared.places.Place.{Place}
use Rattle.stair_pieces.specs.declared.places.Step.{Step}
use Rattle.stair_pieces.specs.Places.{start_place, entry_of, place_after, standing_zones}
use Rattle.stair_pieces.specs.Pieces.{pieces_of, kept}
use Rattle.stair_pieces.specs.Moves.{IsInside}
use Rattle.tail_states.specs.declared.certificates.Member.{Member}
use Rattle.tail_states.specs.declared.moves.Move.{Move}
use Rattle.tail_states.specs.declared.moves.Next.{Next}
use Rattle.tail_states.specs.declared.moves.Next.TheVariants.{End, At}
use Rattle.tail_states.specs.Listed.{AreMovesFrom, Listed}
use Rattle.tail_states.specs.Closing.{GoesOn, IsAdmitted, IsFreeMove, IsHeld, leaves_at}
use Rattle.refusal_proof.specs.declared.labels.Label.{Label}
use Rattle.refusal_proof.specs.declared.goings.Going.{Going}

-- a claim, so many ticks later
abbrev pub later : ℤ → Claim → Claim
later ticks claim = record {
  zone = claim.zone;
  span = record { from = claim.span.from +ℤ ticks; to = claim.span.to +ℤ ticks };
}

-- the claims, so many ticks later, clash with none that is held
abbrev pub AreFreeAt : List HeldClaim → List Claim → ℤ → Type 0
AreFreeAt held claims tick = All (λ claim. IsFree held (later tick claim)) claims

-- a tick to which near ticks can be added
abbrev pub IsFar : ℤ → Type 0
IsFar tick = (neg_ℤ (pos (2 ^ 44)) ≤ℤ tick) × (tick ≤ℤ pos (2 ^ 44))

-- a claim on one of so many zones that can be moved by near ticks
pub record IsClaimIn (zones : ℕ) (claim : Claim) : Type 0 where
  pub zone : claim.zone < zones
  pub far : IsFar claim.span.from × IsFar claim.span.to

-- the ticks of a window are near
abbrev pub IsNearWindow : Window → Type 0
IsNearWindow window = (neg_ℤ FAR_TICK ≤ℤ window.from) × (window.to ≤ℤ FAR_TICK)

-- what is left of a window behind first ticks that are not so
pub record IsBehind (IsSo : ℤ → Type 0) (window rest : Window) : Type 0 where
  pub from : window.from <ℤ rest.from
  pub to : rest.to ≡ window.to
  pub before : (tick : ℤ) → window.from ≤ℤ tick → tick <ℤ rest.from → ¬ IsSo tick

-- what is left of a window from its first tick on that is so
pub record IsFromFirst (IsSo : ℤ → Type 0) (window rest : Window) : Type 0 where
  pub from : window.from ≤ℤ rest.from
  pub some : rest.from ≤ℤ rest.to
  pub to : rest.to ≡ window.to
  pub before : (tick : ℤ) → window.from ≤ℤ tick → tick <ℤ rest.from → ¬ IsSo tick
  pub first : IsSo rest.from

-- a label is at the place of this number, and its window holds the tick
abbrev pub IsCovered : List Label → ℕ → ℤ → Type 0
IsCovered labels number tick =
    Any (λ label. (label.number ≡ number) × IsInside label.window tick) labels

-- at a lower number, or at the same number and begins no later
abbrev pub ComesBefore : Label → Label → Type 0
ComesBefore one other =
    (one.number < other.number)
    ⊎ ((one.number ≡ other.number) × (one.window.from ≤ℤ other.window.from))

-- at a lower number, or at the same number and neither begins nor ends later
abbrev pub ReachesLess : Label → Label → Type 0
ReachesLess one other =
    (one.number < other.number)
    ⊎ ((one.number ≡ other.number)
    × ((one.window.from ≤ℤ other.window.from) × (one.window.to ≤ℤ other.window.to)))

-- at a lower number, or at this number and begins by this tick
abbrev pub BeginsBy : ℕ → ℤ → Label → Type 0
BeginsBy number tick label =
    (label.number < number) ⊎ ((label.number ≡ number) × (label.window.from ≤ℤ tick))

-- labels at the numbers of places, with ticks, in order
pub record AreLabels (places : List Place) (labels : List Label) : Type 0 where
  pub numbers : All (λ label. label.number < length places) labels
  pub some : All (λ label. label.window.from ≤ℤ label.window.to) labels
  pub order : AllPairs ReachesLess labels

-- at a number stand the moves from its place
abbrev pub HasMovesAt : Network → Request → Listed → ℕ → Type 0
HasMovesAt net request listed number =
    (place : Place) (moves : List Move) → slice_get listed.members number ≡ Some place
    → slice_get listed.moves number ≡ Some moves
    → AreMovesFrom net request listed.members place moves

-- the moves from the start place, and at the number of each label those from its place
pub record HaveLabelMoves (net : Network) (request : Request) (listed : Listed)
    (labels : List Label) : Type 0 where
  pub starts : AreMovesFrom net request listed.members start_place listed.starts
  pub count : length listed.moves ≡ length listed.members
  pub moves : All (λ label. HasMovesAt net request listed label.number) labels

-- the members that labels stand for
abbrev pub member_of : List Place → Label → Member
member_of places label = record {
  place = slice_index_or places label.number start_place;
  window = label.window;
}

abbrev pub members_of : List Place → List Label → List Member
members_of places labels = map (member_of places) labels

-- both hold the same ticks of each place
abbrev pub HoldAlike : List Member → List Member → Type 0
HoldAlike one other = (place : Place) (tick : ℤ) → IsHeld one place tick ↔ IsHeld other place tick

-- both cover the same ticks of each number
abbrev pub CoverAlike : List Label → List Label → Type 0
CoverAlike one other =
    (number : ℕ) (tick : ℤ) → IsCovered one number tick ↔ IsCovered other number tick

-- in order, for these members
pub record AreLabelsOf (places : List Place) (members : List Member)
    (labels : List Label) : Type 0 where
  pub all : AreLabels places labels
  pub alike : HoldAlike members (members_of places labels)

-- the same label, which may end later
pub record IsGrown (label grown : Label) : Type 0 where
  pub number : grown.number ≡ label.number
  pub from : grown.window.from ≡ label.window.from
  pub to : label.window.to ≤ℤ grown.window.to

-- the same labels, which may end later
pub record AreGrown (old new : List Label) : Type 0 where
  pub count : length new ≡ length old
  pub grown : (k : ℕ) (d : Label) → k < length old
      → IsGrown (slice_index_or old k d) (slice_index_or new k d)

-- a label that ends where one before it at its number does, if that is later
pub record IsReaching (before : List Label) (label new : Label) : Type 0 where
  pub number : new.number ≡ label.number
  pub from : new.window.from ≡ label.window.from
  pub to : label.window.to ≤ℤ new.window.to
  pub ends : (new.window.to ≡ label.window.to)
      ⊎ Any (λ one. (one.number ≡ label.number) × (one.window.to ≡ new.window.to)) before
  pub last : (k : ℕ) (d : Label) → k + 1 ≡ length before
      → (slice_index_or before k d).number ≡ label.number
      → (slice_index_or before k d).window.to ≤ℤ new.window.to

-- the first ticks of a window, which are covered at this number
pub record IsCoveredTo (labels : List Label) (number : ℕ) (at covered : Window) : Type 0 where
  pub from : covered.from ≡ at.from
  pub some : at.from ≤ℤ covered.to
  pub to : covered.to ≤ℤ at.to
  pub covers : (tick : ℤ) → IsInside covered tick → IsCovered labels number tick

-- a train may go on in the first window where the claims are free, and at each tick of the second
abbrev pub Goes : List HeldClaim → Going → ℤ → Type 0
Goes held going enter =
    (IsInside going.first enter × AreFreeAt held going.claims enter) ⊎ IsInside going.second enter

-- a train goes on at a tick that reached the place within a window
abbrev pub CanGoOn : Network → Request → List Claim → Place → Window → ℤ → Type 0
CanGoOn net request live place window enter =
    (tick : ℤ) × IsInside window tick × GoesOn net request live place tick enter

-- up to the horizon these are the ticks at which it goes on
abbrev pub AreGoings : Settings → List HeldClaim → Going → (ℤ → Type 0) → Type 0
AreGoings settings held going IsOn =
    (enter : ℤ) → pos 0 ≤ℤ enter → enter ≤ℤ pos settings.horizon
    → Goes held going enter ↔ IsOn enter

-- zones that are free from a tick until another
abbrev pub stay : ℤ → ℤ → ℕ → Claim
stay from to zone = record { zone = zone; span = record { from = from; to = to } }

-- how long zones stay free from the begin of a window on
abbrev pub StaysUntil : List HeldClaim → List ℕ → Window → ℤ → Type 0
StaysUntil held zones window to =
    (enter : ℤ) → window.from <ℤ enter → enter ≤ℤ window.to
    → All (λ zone. IsFree held (stay window.from enter zone)) zones ↔ (enter ≤ℤ to)

-- the ticks of a step from a place
abbrev pub ticks_of_step : Network → Settings → Request → Place → Step → ℕ
ticks_of_step net settings request place step =
    run_ticks (block_at net step.block) request.train settings (entry_of net request.train place)
    step.exit

-- what is kept behind an end through its release, the step's head entering at tick 0
abbrev pub kept_behind : Network → Settings → Request → Place → Step → Next → List Claim
kept_behind net settings request place step (At number) = []
kept_behind net settings request place step End =
    kept
    (standing_zones net request.train (place_after net request.train place step))
    (pos (ticks_of_step net settings request place step))
    (pos (ticks_of_step net settings request place step) +ℤ pos settings.release)

-- all claims of a move
abbrev pub claims_of : Network → Settings → Request → Place → Move → List Claim
claims_of net settings request place one =
    pieces_of net settings request.train place one.step
    ++ kept_behind net settings request place one.step one.next

-- a move to a place leads to a tick that is covered, an end to one that is no arrival
abbrev pub Leads : List Label → Window → Next → ℤ → Type 0
Leads labels arrive (At number) leave = IsCovered labels number leave
Leads labels arrive End leave = ¬ IsInside arrive leave

-- whenever claims are free in a window, within the horizon, their move leads there
abbrev pub PassesIn : (horizon : ℕ) → (ℤ → Type 0) → (ℤ → Type 0) → ℤ → Window → Type 0
PassesIn horizon IsFreeThen Leads ticks window =
    (enter : ℤ) → IsInside window enter → pos 0 ≤ℤ enter
    → (enter +ℤ ticks) ≤ℤ pos horizon → IsFreeThen enter → Leads (enter +ℤ ticks)

-- whenever a train goes on by a move that is free, it leads there
abbrev pub MovePasses : Network → Settings → Request → List HeldClaim → List Label → Going → Place
    → Move → Type 0
MovePasses net settings request held labels going place one =
    (enter : ℤ) → Goes held going enter → pos 0 ≤ℤ enter
    → leaves_at net settings request place one.step enter ≤ℤ pos settings.horizon
    → AreFreeAt held (claims_of net settings request place one) enter
    → Leads labels request.arrive one.next (leaves_at net settings request place one.step enter)

-- whenever a train goes on by a free move, what it leads to is admitted
abbrev pub StepsPass : Network → Settings → Request → List Claim → List Member → (ℤ → Type 0)
    → Place → Type 0
StepsPass net settings request live members IsOn place =
    (step : Step) (enter : ℤ) → IsOn enter
    → IsFreeMove net settings request live place step enter
    → IsAdmitted net settings request live members place step
    (leaves_at net settings request place step enter)

-- the same of a label
abbrev pub LabelPasses : Network → Settings → Request → List Claim → List Place → List Label → Label
    → Type 0
LabelPasses net settings request live places labels label =
    StepsPass net settings request live (members_of places labels)
    (CanGoOn net request live (slice_index_or places label.number start_place) label.window)
    (slice_index_or places label.number start_place)
