-- What a search finds beside a client's copy.
use Rattle.std.specs.Prelude.{◌≡◌, ◌≤◌, ℕ, List, All, length, Option, None, Some}
use Rattle.blocking_time.specs.Possible.{IsPossible}
use Rattle.byte_fields.specs.Buffered.{Buffered}
use Rattle.path_commit.specs.history.Legal.{IsWantedOn}
use Rattle.path_commit.specs.history.Meanings.{IsNumbered}
use Rattle.path_labels.specs.Answers.{IsEarliest, claims_held}
use Rattle.path_labels.specs.Guides.{IsGuide}
use Rattle.rail_types.specs.declared.entries.Deed.TheVariants.{Grant}
use Rattle.rail_types.specs.declared.entries.Entry.{Entry}
use Rattle.rail_types.specs.declared.entries.Settings.{Settings}
use Rattle.rail_types.specs.declared.entries.Wanted.TheVariants.{Asked}
use Rattle.rail_types.specs.declared.limits.TheConstants.{MAX_NUMBER}
use Rattle.rail_types.specs.declared.paths.Claim.{Claim}
use Rattle.rail_types.specs.declared.paths.Path.{Path}
use Rattle.rail_types.specs.declared.paths.Run.{Run}
use Rattle.rail_types.specs.declared.tracks.Network.{Network}
use Rattle.rail_types.specs.Flaws.{first_flaw}
use Rattle.rail_types.specs.Limits.{IsRequestWithinLimits, IsSettingsWithinLimits}
use Rattle.client_lines.specs.Rooms.{PrintsRuns, room_for}
use Rattle.ask_turns.specs.declared.client_turns.clients.Client.{Client}
use Rattle.ask_turns.specs.declared.asks.Ask.{Ask}
use Rattle.ask_turns.specs.declared.asks.Found.{Found}
use Rattle.ask_turns.specs.declared.asks.Outcome.{Outcome}
use Rattle.ask_turns.specs.declared.asks.Outcome.TheVariants.{Entered, NoPath, Again}

-- the client's entry that takes a path for an ask
abbrev pub entry_for : List ℕ → Ask → Path → Entry
entry_for owner ask path = record {
  owner = owner;
  number = ask.number;
  line = ask.line;
  deed = Grant (Asked ask.request) path;
}

-- the owner's number stands in no entry
abbrev pub IsNewNumber : List ℕ → ℕ → List Entry → Type 0
IsNewNumber owner number entries = All (λ other. ¬ IsNumbered owner number other) entries

-- a request within its limits with what guides its search, on a network without a flaw
pub record MayBeSearched (net : Network) (settings : Settings) (ask : Ask) : Type 0 where
  pub number : ask.number ≤ MAX_NUMBER
  pub request : IsRequestWithinLimits ask.request
  pub points : IsWantedOn net (Asked ask.request)
  pub sound : first_flaw net ≡ None
  pub timetable : IsSettingsWithinLimits settings
  pub guide : IsGuide net settings ask.request ask.guide

-- the text has room for a reply that prints these runs
pub record HasRoomOf (text : Buffered) (runs : List Run) : Type 0 where
  pub spare : room_for (length runs) ≤ text.spare
  pub prints : PrintsRuns (length runs) runs

-- it has room for the reply that an outcome gives
abbrev pub HasRoomFor : Buffered → Outcome → Type 0
HasRoomFor text (Entered entered runs) = HasRoomOf text runs
HasRoomFor text NoPath = Unit {0}
HasRoomFor text (Again at searched) = Unit {0}

-- ---- inside

-- an entry that takes a path which can be granted beside these claims, and leaves last as early
-- as any that can, with its runs
pub record Takes (net : Network) (settings : Settings) (live : List Claim) (owner : List ℕ)
    (ask : Ask) (found : Found) (path : Path) : Type 0 where
  pub entry_is : found.entry ≡ entry_for owner ask path
  pub runs_are : found.runs ≡ path.runs
  pub earliest : IsEarliest net settings live ask.request path

-- such an entry, or that no path can be granted there
abbrev pub IsFoundBeside : Network → Settings → Client → Ask → Option Found → Type 0
IsFoundBeside net settings client ask None =
    ¬ IsPossible net settings (claims_held client.copy) ask.request
IsFoundBeside net settings client ask (Some found) =
    (path : Path) × Takes net settings (claims_held client.copy) client.name ask found path

abbrev pub HasRoom : Buffered → Option Found → Type 0
HasRoom text None = Unit {0}
HasRoom text (Some found) = HasRoomOf text found.runs
