-- What the text of a proof shows beside an ask.
use Rattle.std.specs.Prelude.{◌≡◌, ℕ, List, Option, None, Some, length}
use Rattle.ask_turns.specs.Certified.{Passes, excluded}
use Rattle.client_lines.specs.Names.{Names}
use Rattle.path_labels.specs.Answers.{claims_held}
use Rattle.path_labels.specs.tails.Listed.{Listed}
use Rattle.proof_texts.specs.declared.refusals.Proof.{Proof}
use Rattle.proof_texts.specs.Texts.{proof_text}
use Rattle.proof_texts.specs.Told.{IsProofOf, IsRequestOf}
use Rattle.rail_types.specs.declared.entries.Entry.{Entry}
use Rattle.rail_types.specs.declared.entries.Settings.{Settings}
use Rattle.rail_types.specs.declared.paths.Claim.{Claim}
use Rattle.rail_types.specs.declared.paths.Path.{Path}
use Rattle.rail_types.specs.declared.tracks.Network.{Network}
use Rattle.rail_types.specs.Timetables.{Timetable}
use Rattle.ask_turns.specs.declared.client_turns.clients.Client.{Client}
use Rattle.ask_turns.specs.Turns.{HasEntered, Sight}
use Rattle.ask_turns.specs.declared.asks.Ask.{Ask}
use Rattle.ask_turns.specs.declared.asks.Found.{Found}
use Rattle.ask_turns.specs.declared.asks.Outcome.{Outcome}
use Rattle.ask_turns.specs.declared.asks.Outcome.TheVariants.{Entered, NoPath, Again}
use Rattle.ask_turns.specs.Finds.{Takes, entry_for}
use Rattle.ask_turns.specs.Searched.{FitsAt, live_in}
use Rattle.ask_turns.specs.Tries.{SoFar}

-- The text is that of a proof of what is excluded beside the answer to an ask, which is a path or
-- that there is none. It tells this front, and its members pass the check beside these claims.
-- Where a line can ask for the request, the proof can be read from its text.
pub record IsShown (known : Names) (net : Network) (settings : Settings) (live : List Claim)
    (front : ℕ) (ask : Ask) (path : Option Path) (text : List ℕ) : Type 0 where
  pub proof : Proof
  pub at : proof.at ≡ front
  pub number : proof.number ≡ ask.number
  pub request : proof.request ≡ excluded ask.request path
  pub places : Listed
  pub passes : Passes net settings live proof.request places proof.closed
  pub text_is : text ≡ proof_text known.railway.stops proof
  pub told : IsRequestOf known ask.request → IsProofOf known proof

-- the same beside the claims that are live in these entries
abbrev pub IsShownAt : Names → Timetable → Ask → Option Path → List ℕ → List Entry → Type 0
IsShownAt known timetable ask path text searched =
    IsShown known timetable.net timetable.settings (live_in timetable searched) (length searched)
    ask path text

-- What the text shows beside what came of an ask. Beside a path: that no path of the request that
-- leaves last earlier could be granted where the path was found, and the path itself could be.
-- Beside the answer that there is none: that none could be where the last search stood. Of the text
-- beside three searches that were missed nothing is said.
abbrev pub Shows : Names → Timetable → List ℕ → Ask → Outcome → List ℕ → Sight → Sight → Type 0
Shows known timetable owner ask (Entered told runs) text v w =
    (u : Sight) × (path : Path) × SoFar timetable owner ask v u × (path.runs ≡ runs)
    × HasEntered timetable (entry_for owner ask path) told u w
    × FitsAt timetable ask.request u.seen path
    × IsShownAt known timetable ask (Some path) text u.seen
Shows known timetable owner ask NoPath text v w = IsShownAt known timetable ask None text w.seen
Shows known timetable owner ask (Again at searched) text v w = Unit {0}

-- ---- inside

-- What the text shows beside what a search found beside a client's copy.
abbrev pub ShowsBeside : Names → Settings → Client → Ask → List ℕ → Option Found → Type 0
ShowsBeside known settings client ask text None =
    IsShown known known.railway.network settings (claims_held client.copy)
    client.front ask None text
ShowsBeside known settings client ask text (Some found) =
    (path : Path)
    × Takes known.railway.network settings (claims_held client.copy) client.name ask found path
    × IsShown known known.railway.network settings (claims_held client.copy) client.front ask
    (Some path) text
