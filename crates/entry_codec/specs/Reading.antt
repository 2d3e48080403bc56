-- A body read from left to right, with the place of the first field that is wrong.
use Rattle.std.specs.Prelude.{◌≡◌, ℕ, zero, suc, ◌+◌, ◌^◌, ◌-◌, Bool, true, false, ◌&&◌, ◌||◌, List}
use Rattle.std.specs.Prelude.{[], ◌∷◌, length, take, drop, slice_index, Option, Some, None, Result}
use Rattle.std.specs.Prelude.{Ok, Err, ℤ, pos, neg_ℤ, ◌-ℤ◌, int_lt, nat_lt, nat_le, ◌==◌}
use Rattle.std.specs.Prelude.{if◌then◌else◌}
use Rattle.std.specs.List.{list_all}
use Rattle.std.specs.Int.{Width, w32, w64, byte_len, from_be_bytes, cast_signed}
use Rattle.std.specs.Str.{is_utf8}
use Rattle.byte_fields.specs.Unread.{Unread, end_of}
use Rattle.rail_types.specs.declared.limits.TheConstants.{MAX_TICK, MAX_NUMBER, MAX_OWNER_BYTES}
use Rattle.rail_types.specs.declared.limits.TheConstants.{MAX_TRAIN_LENGTH_M, MAX_SPEED_MM_S}
use Rattle.rail_types.specs.declared.limits.TheConstants.{MAX_ACCEL_MM_S2, MAX_ALLOWANCE_PERCENT}
use Rattle.rail_types.specs.declared.limits.TheConstants.{MAX_TRAIN_NAME_BYTES, MAX_STOPS}
use Rattle.rail_types.specs.declared.limits.TheConstants.{MAX_DWELL, MAX_PINNED_RUNS}
use Rattle.rail_types.specs.declared.limits.TheConstants.{MAX_HOLD_CLAIMS, MAX_REASON_BYTES}
use Rattle.rail_types.specs.Limits.{is_between, is_tick, is_name_byte}
use Rattle.rail_types.specs.declared.paths.Claim.{Claim}
use Rattle.rail_types.specs.declared.paths.Window.{Window}
use Rattle.rail_types.specs.declared.paths.Run.{Run}
use Rattle.rail_types.specs.declared.trains.Train.{Train}
use Rattle.rail_types.specs.declared.trains.Stop.{Stop}
use Rattle.rail_types.specs.declared.entries.Wanted.TheVariants.{Asked, Pinned}
use Rattle.rail_types.specs.declared.entries.Deed.{Deed}
use Rattle.rail_types.specs.declared.entries.Deed.TheVariants.{Hold, Grant, Free}
use Rattle.rail_types.specs.declared.entries.Entry.{Entry}
use Rattle.entry_codec.specs.Body.{body_of}
use Rattle.entry_codec.specs.Within.{HasBody}
use Rattle.entry_codec.specs.declared.kinds.Kind.{Kind}
use Rattle.entry_codec.specs.declared.kinds.Kind.TheVariants as kind
use Rattle.entry_codec.specs.declared.faults.EntryFault.{EntryFault}
use Rattle.entry_codec.specs.declared.faults.Wrong.{Wrong}
use Rattle.entry_codec.specs.declared.finding.FoundTrain.{FoundTrain}
use Rattle.entry_codec.specs.declared.faults.EntryFault.TheVariants.{NotEntry, Memory}

-- What reading gives: a value and what is left behind it, or where the first wrong field begins.
-- Where bytes are missing that is the end of all.
abbrev pub Reading : Type 0 → Type 0
Reading A = Unread → Result (A × Unread) ℕ

-- one field after the other
abbrev pub go_on : {A B : Type 0} → Result (A × Unread) ℕ → (A → Reading B) → Result (B × Unread) ℕ
go_on (Ok found) next = next found.0 found.1
go_on (Err at) next = Err at

infixl 10 ◌>>=◌
abbrev pub ◌>>=◌ : {A B : Type 0} → Reading A → (A → Reading B) → Reading B
field >>= next = λ unread. go_on (field unread) next

abbrev pub done : {A : Type 0} → A → Reading A
done value = λ unread. Ok (value, unread)

-- what the bytes of a field mean; a field that means nothing is wrong
abbrev pub meaning_at : {B : Type 0} → ℕ → Option B → Reading B
meaning_at at None = λ unread. Err at
meaning_at at (Some value) = λ unread. Ok (value, unread)

abbrev pub meant : {A B : Type 0} → (A → Option B) → Reading A → Reading B
meant meaning field = λ unread. go_on (field unread) (λ value. meaning_at unread.at (meaning value))

-- a value that passes a test
abbrev pub if_so : {A : Type 0} → (A → Bool) → A → Option A
if_so test value = if test value then Some value else None

-- ---- numbers, bytes and names

-- the next bytes, so many
unfoldable pub bytes_field : ℕ → Reading (List ℕ)
bytes_field count =
    λ unread.
    if nat_lt (length unread.left) count
    then Err (end_of unread)
    else Ok
    (take count unread.left, record { at = unread.at + count; left = drop count unread.left })

unfoldable pub byte_field : Reading ℕ
byte_field = do
  bytes ← bytes_field 1
  done (slice_index bytes 0)

unfoldable pub number_field : Width → Reading ℕ
number_field width = do
  bytes ← bytes_field (byte_len width)
  done (from_be_bytes width bytes)

unfoldable pub signed_field : Reading ℤ
signed_field = do
  number ← number_field w64
  done (cast_signed w64 number)

unfoldable pub limited_field : ℕ → ℕ → Reading ℕ
limited_field least most = meant (if_so (is_between least most)) (number_field w32)

-- an entry's position, or a client's number
unfoldable pub position_field : Reading ℕ
position_field = meant (if_so (is_between 0 MAX_NUMBER)) (number_field w64)

unfoldable pub tick_field : Reading ℤ
tick_field = meant (if_so is_tick) signed_field

-- a tick behind another one
unfoldable pub later_field : ℤ → Reading ℤ
later_field from = meant (if_so (λ tick. is_tick tick && int_lt from tick)) signed_field

abbrev pub flag_of : ℕ → Option Bool
flag_of byte = if byte == 0 then Some false else (if byte == 1 then Some true else None)

unfoldable pub flag_field : Reading Bool
flag_field = meant flag_of byte_field

-- a name of 1 to so many bytes that passes a test, behind their count
unfoldable pub name_field : ℕ → (List ℕ → Bool) → Reading (List ℕ)
name_field most test = do
  count ← meant (if_so (is_between 1 most)) byte_field
  meant (if_so test) (bytes_field count)

abbrev pub owner_field : Reading (List ℕ)
owner_field = name_field MAX_OWNER_BYTES (list_all is_name_byte)

abbrev pub train_name_field : Reading (List ℕ)
train_name_field = name_field MAX_TRAIN_NAME_BYTES is_utf8

-- a reason may have any bytes
abbrev pub any_bytes : List ℕ → Bool
any_bytes bytes = true

abbrev pub reason_field : Reading (List ℕ)
reason_field = name_field MAX_REASON_BYTES any_bytes

-- ---- lists

unfoldable pub items_field : {A : Type 0} → Reading A → ℕ → Reading (List A)
items_field item zero = done []
items_field item (suc count) = do
  first ← item
  others ← items_field item count
  done (first ∷ others)

unfoldable pub list_field : {A : Type 0} → ℕ → ℕ → Reading A → Reading (List A)
list_field least most item = do
  count ← limited_field least most
  items_field item count

-- ---- the parts of an entry

unfoldable pub claim_field : Reading Claim
claim_field = do
  zone ← number_field w32
  from ← tick_field
  to ← later_field from
  done (record { zone = zone; span = record { from = from; to = to } })

-- ends before each claim that may be named
abbrev pub before_all : Claim
before_all =
    let tick = neg_ℤ MAX_TICK -ℤ pos 1 in
    record { zone = 0; span = record { from = tick; to = tick } }

-- the zone of a claim behind another one: not below that one's
unfoldable pub next_zone_field : Claim → Reading ℕ
next_zone_field before = meant (if_so (nat_le before.zone)) (number_field w32)

-- a tick that is behind a claim where it stands on the same zone
abbrev pub is_behind : Claim → ℕ → ℤ → Bool
is_behind before zone from = is_tick from && (nat_lt before.zone zone || int_lt before.span.to from)

-- the begin on a zone of a claim behind another one
unfoldable pub begin_field : Claim → ℕ → Reading ℤ
begin_field before zone = meant (if_so (is_behind before zone)) signed_field

unfoldable pub next_claim_field : Claim → Reading Claim
next_claim_field before = do
  zone ← next_zone_field before
  from ← begin_field before zone
  to ← later_field from
  done (record { zone = zone; span = record { from = from; to = to } })

-- so many claims, each behind the one before
unfoldable pub claims_field : ℕ → Claim → Reading (List Claim)
claims_field zero before = done []
claims_field (suc count) before = do
  first ← next_claim_field before
  others ← claims_field count first
  done (first ∷ others)

unfoldable pub reasoned_field : Reading Deed
reasoned_field = do
  reason ← reason_field
  count ← limited_field 1 MAX_HOLD_CLAIMS
  claims ← claims_field count before_all
  done (Hold claims reason)

unfoldable pub train_field : Reading Train
train_field = do
  name ← train_name_field
  length_m ← limited_field 1 MAX_TRAIN_LENGTH_M
  speed ← limited_field 1 MAX_SPEED_MM_S
  accel ← limited_field 1 MAX_ACCEL_MM_S2
  brake ← limited_field 1 MAX_ACCEL_MM_S2
  allowance ← limited_field 0 MAX_ALLOWANCE_PERCENT
  done (record {
    name = name;
    length_m = length_m;
    speed = speed;
    accel = accel;
    brake = brake;
    allowance = allowance;
  })

unfoldable pub window_field : Reading Window
window_field = do
  from ← tick_field
  to ← tick_field
  done (record { from = from; to = to })

unfoldable pub stop_field : Reading Stop
stop_field = do
  stop ← number_field w32
  dwell ← limited_field 0 MAX_DWELL
  done (record { stop = stop; dwell = dwell })

unfoldable pub run_field : Reading Run
run_field = do
  block ← number_field w32
  enter ← tick_field
  leave ← tick_field
  stops ← flag_field
  done (record { block = block; enter = enter; leave = leave; stops = stops })

unfoldable pub asked_field : Reading Deed
asked_field = do
  train ← train_field
  origin ← number_field w32
  destination ← number_field w32
  depart ← window_field
  arrive ← window_field
  stops ← list_field 0 MAX_STOPS stop_field
  runs ← list_field 1 (2 ^ 32 - 1) run_field
  done (Grant (Asked (record {
    train = train;
    origin = origin;
    destination = destination;
    depart = depart;
    arrive = arrive;
    stops = stops;
  })) (record { train = train; runs = runs }))

unfoldable pub pinned_field : Reading Deed
pinned_field = do
  train ← train_field
  runs ← list_field 1 MAX_PINNED_RUNS run_field
  done (Grant Pinned (record { train = train; runs = runs }))

abbrev pub kind_of : ℕ → Option Kind
kind_of byte =
    if byte == 1 then Some kind.Hold else (
    if byte == 2 then Some kind.Asked else (
    if byte == 3 then Some kind.Pinned else (
    if byte == 4 then Some kind.Free else (
    if byte == 5 then Some kind.Reasoned else None))))

unfoldable pub kind_field : Reading Kind
kind_field = meant kind_of byte_field

unfoldable pub deed_field : Kind → Reading Deed
deed_field kind.Hold = do
  claim ← claim_field
  done (Hold (claim ∷ []) [])
deed_field kind.Asked = asked_field
deed_field kind.Pinned = pinned_field
deed_field kind.Free = do
  entry ← position_field
  done (Free entry)
deed_field kind.Reasoned = reasoned_field

unfoldable pub entry_field : Reading Entry
entry_field = do
  what ← kind_field
  number ← position_field
  line ← number_field w32
  owner ← owner_field
  deed ← deed_field what
  done (record { owner = owner; number = number; line = line; deed = deed })

-- ---- all of a body

-- a value behind which nothing is left
abbrev pub whole : {A : Type 0} → Result (A × Unread) ℕ → Result A ℕ
whole (Ok found) = if length found.1.left == 0 then Ok found.0 else Err found.1.at
whole (Err at) = Err at

-- the entry that the body spells, or where the first wrong field begins; a
-- surplus is wrong where it begins
unfoldable pub entry_at : List ℕ → Result Entry ℕ
entry_at body = whole (entry_field (record { at = 0; left = body }))

-- What a call answered is what reading all gives, unless memory ran out.
abbrev pub Fails : {A : Type 0} → EntryFault → Result A ℕ → Type 0
Fails Memory read = Unit {0}
Fails (NotEntry at) read = read ≡ Err at

abbrev pub GivesAll : {A : Type 0} → Result A EntryFault → Result A ℕ → Type 0
GivesAll (Ok value) read = read ≡ Ok value
GivesAll (Err fault) read = Fails fault read

-- no entry has the body; memory is wanted for a body of an entry alone
abbrev pub Refuses : EntryFault → List ℕ → Type 0
Refuses Memory body = (entry : Entry) × HasBody entry × (body ≡ body_of entry)
Refuses (NotEntry at) body = (entry : Entry) → HasBody entry → body ≡ body_of entry → ⊥

-- ---- inside: what private calls answer and leave

-- What a call that takes no memory found and left is what reading gives.
abbrev pub FindsBy : {A B : Type 0} → (A → B) → Unread → Result A Wrong → Result (B × Unread) ℕ
    → Type 0
FindsBy view left (Ok value) read = read ≡ Ok (view value, left)
FindsBy view left (Err wrong) read = read ≡ Err wrong.at

abbrev pub Finds : {A : Type 0} → Unread → Result A Wrong → Result (A × Unread) ℕ → Type 0
Finds left result read = FindsBy (λ value. value) left result read

-- what reading leaves, or where it stops
abbrev pub after : {A : Type 0} → Result (A × Unread) ℕ → Result Unread ℕ
after (Ok found) = Ok found.1
after (Err at) = Err at

-- what a call that keeps no value left is what reading leaves
abbrev pub Passes : {A B : Type 0} → Unread → Result A Wrong → Result (B × Unread) ℕ → Type 0
Passes left (Ok done) read = after read ≡ Ok left
Passes left (Err wrong) read = after read ≡ Err wrong.at

-- what a call answered and left is what reading gives, unless memory ran out
abbrev pub Gives : {A : Type 0} → Unread → Result A EntryFault → Result (A × Unread) ℕ → Type 0
Gives left (Ok value) read = read ≡ Ok (value, left)
Gives left (Err fault) read = Fails fault read

-- whether reading all gives an entry, or where it stops
abbrev pub PassesAll : {A B : Type 0} → Result A Wrong → Result B ℕ → Type 0
PassesAll {B = B} (Ok done) read = (value : B) × (read ≡ Ok value)
PassesAll (Err wrong) read = read ≡ Err wrong.at

-- the train of its numbers and the bytes of its name
abbrev pub train_found : FoundTrain → Train
train_found found = record {
  name = found.name.now;
  length_m = found.length_m;
  speed = found.speed;
  accel = found.accel;
  brake = found.brake;
  allowance = found.allowance;
}
