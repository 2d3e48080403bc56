-- What the text of a proof shows beside a reply.
use Rattle.std.specs.Prelude.{◌≡◌, ℕ, ◌≤◌, Bool, true, false, List, [], ◌∷◌, ◌++◌, length, Option}
use Rattle.std.specs.Prelude.{Some, None}
use Rattle.book_gate.specs.declared.views.Turn.{Turn}
use Rattle.book_gate.specs.Views.{StartsWith}
use Rattle.ask_turns.specs.Certified.{Passes, excluded}
use Rattle.client_lines.specs.Cuts.{fields_of}
use Rattle.client_lines.specs.Forms.{Spells}
use Rattle.client_lines.specs.Lines.{a_line}
use Rattle.client_lines.specs.Names.{Names}
use Rattle.client_lines.specs.declared.asks.Ask.TheVariants as asks
use Rattle.client_lines.specs.declared.asks.Line.{Line}
use Rattle.proof_texts.specs.declared.refusals.Proof.{Proof}
use Rattle.proof_texts.specs.Texts.{proof_text}
use Rattle.proof_texts.specs.Told.{IsProofOf}
use Rattle.rail_types.specs.declared.entries.Entry.{Entry}
use Rattle.rail_types.specs.declared.paths.Path.{Path}
use Rattle.rail_types.specs.declared.trains.Request.{Request}
use Rattle.rail_types.specs.Timetables.{Timetable}
use Rattle.client_lines.specs.declared.reply_texts.replies.Reply.{Reply}
use Rattle.client_lines.specs.declared.reply_texts.replies.Reply.TheVariants as reply
use Rattle.ask_turns.specs.tails.Listed.{Listed}
use Rattle.ask_turns.specs.Turns.{IsReached as IsReachedBy, Looks, Sight, timetable_at}
use Rattle.ask_turns.specs.Searched.{FitsAt, live_in}
use Rattle.line_answers.specs.Answers.{IsReached}
use Rattle.line_answers.specs.Asked.{asking}
use Rattle.line_answers.specs.Rules.{IsReadAs}
use Rattle.ask_turns.specs.declared.shared.Shared.{Shared}

-- The proof can be read from its text. It tells how many entries these are, and its members pass
-- the check beside the claims that are live in them.
pub record IsProofAt (known : Names) (timetable : Timetable) (searched : List Entry)
    (proof : Proof) : Type 0 where
  pub of : IsProofOf known proof
  pub at : proof.at ≡ length searched
  pub places : Listed
  pub passes : Passes timetable.net timetable.settings (live_in timetable searched) proof.request
      places proof.closed

-- where a path is told, it keeps the request and fits at these entries
abbrev pub FitsIf : Timetable → Request → List Entry → Option Path → Type 0
FitsIf timetable request entries None = Unit {0}
FitsIf timetable request entries (Some path) = FitsAt timetable request entries path

-- The bytes of a line seek a path by this number behind a front that is not beyond these
-- entries, if it names one, and the text is that of a proof beside these entries: of the request
-- where no path is told, and beside a path of the request whose window of arrival ends one tick
-- before the path's last leave. That path itself could be granted beside these entries, and so
-- leaves last as early as any there.
pub record IsProofFor (known : Names) (timetable : Timetable) (bytes : List ℕ) (number : ℕ)
    (path : Option Path) (text : List ℕ) (searched : List Entry) : Type 0 where
  pub line : Line
  pub request : Request
  pub spelled : Spells (a_line known) (fields_of bytes) line
  pub sought : line.ask ≡ asks.Path number request
  pub reached : IsReached line searched
  pub fits : FitsIf timetable request searched path
  pub proof : Proof
  pub numbered : proof.number ≡ number
  pub excludes : proof.request ≡ excluded request path
  pub shows : IsProofAt known timetable searched proof
  pub text_is : text ≡ proof_text known.railway.stops proof

-- What the text shows beside the reply to the bytes of a line, by a history that has all that the
-- reply tells of: beside the answer that there is no path a proof at the front that is told, beside
-- a path a proof at a front that is not beyond the path's entry, each at a front of so many entries
-- at least; and beside other replies nothing.
abbrev pub IsProved : Names → Timetable → List ℕ → Reply → List ℕ → ℕ → List Entry → Type 0
IsProved known timetable bytes (reply.NoPath number front) text least history =
    (searched : List Entry) × StartsWith history searched × (least ≤ length searched)
    × (length searched ≡ front)
    × IsProofFor known timetable bytes number None text searched
IsProved known timetable bytes (reply.Granted number at front runs) text least history =
    (path : Path) × (searched : List Entry) × (path.runs ≡ runs) × StartsWith history searched
    × (least ≤ length searched) × (length searched ≤ at)
    × IsProofFor known timetable bytes number (Some path) text searched
IsProved known timetable bytes other text least history = text ≡ []

-- ---- in a call

-- the entries are no fewer than what the pass had seen at v, and a
-- beginning of what it has seen at w
pub record IsBetween (searched : List Entry) (v w : Sight) : Type 0 where
  pub since : StartsWith searched v.seen
  pub within : StartsWith w.seen searched

-- the turn before the last of those from v to w found so many entries
pub record FoundBeforeLast (entries : ℕ) (v w : Sight) : Type 0 where
  pub before : List Turn
  pub one : Turn
  pub last : Turn
  pub turns_are : w.turns ≡ v.turns ++ (before ++ one ∷ last ∷ [])
  pub found : one.found.entries ≡ entries

-- the same of a call that took the pass from v to w, where this holds of
-- the text beside other replies
abbrev pub ProvedOr : Type 0 → Names → Timetable → List ℕ → Reply → List ℕ → Sight → Sight → Type 0
ProvedOr bare known timetable bytes (reply.NoPath number front) text v w =
    (searched : List Entry) × IsBetween searched v w × (length searched ≡ front)
    × IsProofFor known timetable bytes number None text searched
ProvedOr bare known timetable bytes (reply.Granted number at front runs) text v w =
    (path : Path) × (searched : List Entry) × (path.runs ≡ runs) × IsBetween searched v w
    × (length searched ≤ at) × FoundBeforeLast (length searched) v w
    × IsProofFor known timetable bytes number (Some path) text searched
ProvedOr bare known timetable bytes other text v w = bare

-- What the text shows beside the reply of a call that took the pass from v to w: nothing
-- where no proofs are wanted. Where they are, what it shows is no older than what the client
-- had seen, and beside a path it is of what the turn found that stands before that in which
-- the path's entry was judged.
abbrev pub IsProvedBetween : Names → Timetable → Bool → List ℕ → Reply → List ℕ → Sight → Sight
    → Type 0
IsProvedBetween known timetable false bytes told text v w = text ≡ []
IsProvedBetween known timetable true bytes told text v w =
    ProvedOr (text ≡ []) known timetable bytes told text v w

-- ---- inside

-- what is kept of a text beside a reply
abbrev pub kept_text : Bool → Reply → List ℕ → List ℕ
kept_text false told text = []
kept_text true (reply.NoPath number front) text = text
kept_text true (reply.Granted number at front runs) text = text
kept_text true other text = []

-- what the text shows where proofs are wanted; of the text beside other replies nothing is said
abbrev pub ShowsBytes : {D : Type 0} → Shared D → Bool → List ℕ → Reply → List ℕ → Sight → Sight
    → Type 0
ShowsBytes shared proves bytes told text v w =
    proves ≡ true
    → ProvedOr (Unit {0}) shared.known (timetable_at shared.gate) bytes told text v w

-- the same beside the reply to a line, whatever bytes are read as it
abbrev pub ShowsLine : {D : Type 0} → Shared D → Bool → Line → Reply → List ℕ → Sight → Sight
    → Type 0
ShowsLine shared proves line told text v w =
    (bytes : List ℕ) → IsReadAs shared.known bytes line
    → ShowsBytes shared proves bytes told text v w

-- the same of a call whose turns so far took the pass from v to u: one turn, which added nothing to
-- what it found, and that is not before the front that the line names
abbrev pub ShowsBehind : {D : Type 0} → Shared D → Bool → ℕ → Request → Reply → List ℕ → Sight
    → Sight
    → Type 0
ShowsBehind shared proves number request told text u w =
    (v : Sight) (after : Option ℕ) → Looks v u → IsReachedBy after u.found.list
    → ShowsLine shared proves (asking after number request) told text v w
