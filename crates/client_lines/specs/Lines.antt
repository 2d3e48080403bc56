-- The forms of clients' lines: which fields each has, and what it asks for.
use Rattle.std.specs.Prelude.{ℕ, zero, suc, ◌+◌, ℤ, Bool, List, [], ◌∷◌, length, Option, Some, None}
use Rattle.std.specs.Prelude.{nat_eq, nat_le, option_map, codes, bytes_eq, if◌then◌else◌}
use Rattle.rail_types.specs.IdLists.{number_of}
use Rattle.rail_types.specs.declared.limits.TheConstants.{MAX_NUMBER, MAX_STOPS, MAX_DWELL}
use Rattle.rail_types.specs.declared.limits.TheConstants.{MAX_PINNED_RUNS, MAX_HOLD_CLAIMS}
use Rattle.rail_types.specs.declared.limits.TheConstants.{MAX_REASON_BYTES}
use Rattle.rail_types.specs.declared.paths.Claim.{Claim}
use Rattle.rail_types.specs.declared.paths.Run.{Run}
use Rattle.rail_types.specs.declared.paths.Window.{Window}
use Rattle.rail_types.specs.declared.trains.Request.{Request}
use Rattle.rail_types.specs.declared.trains.Stop.{Stop}
use Rattle.rail_types.specs.declared.trains.Train.{Train}
use Rattle.train_file.specs.Trains.{train_named}
use Rattle.client_lines.specs.declared.asks.Line.{Line}
use Rattle.client_lines.specs.declared.asks.Ask.{Ask}
use Rattle.client_lines.specs.declared.asks.Ask.TheVariants as asks
use Rattle.client_lines.specs.declared.asks.Word.{Word}
use Rattle.client_lines.specs.declared.asks.Word.TheVariants as word
use Rattle.client_lines.specs.Forms.{Form, ◌>>=◌, a_number, a_tick, a_word, a_name, done, one}
use Rattle.client_lines.specs.Names.{Names}

-- ---- the kinds of fields that lines have

abbrev pub a_position : Form ℕ
a_position = one (a_number 0 (MAX_NUMBER + 1))

abbrev pub some_tick : Form ℤ
some_tick = one (a_tick None)

-- `0` or `1`
abbrev pub a_flag : Form Bool
a_flag = one (a_number 0 2) >>= λ flag. done (nat_eq flag 1)

-- a train of the file by its name
abbrev pub a_train : Names → Form Train
a_train known = one (a_name (λ name. train_named name known.trains))

-- an operational point by its name: the first of this name
abbrev pub a_point : Names → Form ℕ
a_point known = one (a_name (λ name. number_of name known.railway.stops))

-- a reason of a hold, which is not too long
abbrev pub short_reason : List ℕ → Option (List ℕ)
short_reason reason = if nat_le (length reason) MAX_REASON_BYTES then Some reason else None

abbrev pub a_reason : Form (List ℕ)
a_reason = one (a_name short_reason)

-- ---- groups of fields

-- so many groups, each of which may look at the one before it
unfoldable pub groups : {A : Type 0} → (Option A → Form A) → Option A → ℕ → Form (List A)
groups group before zero = done []
groups group before (suc count) = do
  first ← group before
  others ← groups group (Some first) count
  done (first ∷ others)

-- ZONE FROM TO: zones ascend, and a claim on the zone of the one before begins behind its end
abbrev pub least_zone : Option Claim → ℕ
least_zone None = 0
least_zone (Some before) = before.zone

abbrev pub end_before : Option Claim → ℕ → Option ℤ
end_before None zone = None
end_before (Some before) zone = if nat_eq before.zone zone then Some before.span.to else None

unfoldable pub a_claim : Names → Option Claim → Form Claim
a_claim known before = do
  zone ← one (a_number (least_zone before) known.railway.network.zones)
  from ← one (a_tick (end_before before zone))
  to ← one (a_tick (Some from))
  done (record { zone = zone; span = record { from = from; to = to } })

-- BLOCK ENTER LEAVE STOPS
unfoldable pub a_run : Names → Option Run → Form Run
a_run known before = do
  block ← one (a_number 0 (length known.railway.network.blocks))
  enter ← some_tick
  leave ← some_tick
  stops ← a_flag
  done (record { block = block; enter = enter; leave = leave; stops = stops })

-- STOP DWELL
unfoldable pub a_stop : Names → Option Stop → Form Stop
a_stop known before = do
  stop ← a_point known
  dwell ← one (a_number 0 (MAX_DWELL + 1))
  done (record { stop = stop; dwell = dwell })

unfoldable pub a_window : Form Window
a_window = do
  from ← some_tick
  to ← some_tick
  done (record { from = from; to = to })

-- ---- lines

-- NUMBER ZONE FROM TO
unfoldable pub a_hold : Names → Form Ask
a_hold known = do
  number ← a_position
  claim ← a_claim known None
  done (asks.Hold number (claim ∷ []) [])

-- NUMBER REASON COUNT, then COUNT times ZONE FROM TO
unfoldable pub a_holds : Names → Form Ask
a_holds known = do
  number ← a_position
  reason ← a_reason
  count ← one (a_number 1 (MAX_HOLD_CLAIMS + 1))
  claims ← groups (a_claim known) None count
  done (asks.Hold number claims reason)

-- NUMBER TRAIN COUNT, then COUNT times BLOCK ENTER LEAVE STOPS
unfoldable pub a_pin : Names → Form Ask
a_pin known = do
  number ← a_position
  train ← a_train known
  count ← one (a_number 1 (MAX_PINNED_RUNS + 1))
  runs ← groups (a_run known) None count
  done (asks.Pin number (record { train = train; runs = runs }))

-- TRAIN ORIGIN DESTINATION DEPART_FROM DEPART_TO ARRIVE_FROM ARRIVE_TO
-- COUNT, then COUNT times STOP DWELL
unfoldable pub a_request : Names → Form Request
a_request known = do
  train ← a_train known
  origin ← a_point known
  destination ← a_point known
  depart ← a_window
  arrive ← a_window
  count ← one (a_number 0 (MAX_STOPS + 1))
  stops ← groups (a_stop known) None count
  done (record {
    train = train;
    origin = origin;
    destination = destination;
    depart = depart;
    arrive = arrive;
    stops = stops;
  })

-- NUMBER, and what is requested
unfoldable pub an_ask : Names → Form Ask
an_ask known = do
  number ← a_position
  request ← a_request known
  done (asks.Path number request)

-- NUMBER ENTRY
unfoldable pub a_free : Form Ask
a_free = do
  number ← a_position
  entry ← a_position
  done (asks.Free number entry)

-- ENTRY
unfoldable pub a_show : Form Ask
a_show = do
  entry ← a_position
  done (asks.Show entry)

-- ---- the words

abbrev pub word_of : List ℕ → Option Word
word_of field =
    if bytes_eq field (codes "hold") then Some word.Hold
    else if bytes_eq field (codes "holds") then Some word.Holds
    else if bytes_eq field (codes "pin") then Some word.Pin
    else if bytes_eq field (codes "ask") then Some word.Ask
    else if bytes_eq field (codes "free") then Some word.Free
    else if bytes_eq field (codes "show") then Some word.Show
    else if bytes_eq field (codes "front") then Some word.Front
    else None

-- what stands behind a word
unfoldable pub behind : Names → Word → Form Ask
behind known word.Hold = a_hold known
behind known word.Holds = a_holds known
behind known word.Pin = a_pin known
behind known word.Ask = an_ask known
behind known word.Free = a_free
behind known word.Show = a_show
behind known word.Front = done asks.Front

-- `after`, or a word
abbrev pub first_word : List ℕ → Option (Option Word)
first_word field =
    if bytes_eq field (codes "after") then Some None else option_map Some (word_of field)

-- a line with the front that it names, or without one
abbrev pub line_by : Names → Option ℕ → Word → Form Line
line_by known after word =
    behind known word >>= λ ask. done (record { after = after; ask = ask })

-- what stands behind the first field
unfoldable pub behind_first : Names → Option Word → Form Line
behind_first known (Some word) = line_by known None word
behind_first known None = do
  after ← a_position
  word ← one (a_word word_of)
  line_by known (Some after) word

unfoldable pub a_line : Names → Form Line
a_line known = one (a_word first_word) >>= λ first. behind_first known first
