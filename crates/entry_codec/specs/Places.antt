-- The fields of a body, and where a body that is no entry's is wrong.
use Rattle.std.specs.Prelude.{◌≡◌, ◌≢◌, ◌⊎◌, ℕ, ◌+◌, ◌-◌, ◌^◌, ◌<◌, ◌≤◌, Bool, true, ◌&&◌, List, []}
use Rattle.std.specs.Prelude.{◌∷◌, ◌++◌, length, take, All, ℤ, int_lt, nat_le}
use Rattle.std.specs.List.{flat_map, list_all}
use Rattle.std.specs.Int.{w32, w64, to_be_bytes}
use Rattle.std.specs.Str.{is_utf8}
use Rattle.byte_fields.specs.Unread.{signed_bytes}
use Rattle.rail_types.specs.declared.limits.TheConstants.{MAX_NUMBER, MAX_OWNER_BYTES}
use Rattle.rail_types.specs.declared.limits.TheConstants.{MAX_TRAIN_LENGTH_M, MAX_SPEED_MM_S}
use Rattle.rail_types.specs.declared.limits.TheConstants.{MAX_ACCEL_MM_S2, MAX_ALLOWANCE_PERCENT}
use Rattle.rail_types.specs.declared.limits.TheConstants.{MAX_TRAIN_NAME_BYTES, MAX_STOPS}
use Rattle.rail_types.specs.declared.limits.TheConstants.{MAX_DWELL, MAX_PINNED_RUNS}
use Rattle.rail_types.specs.declared.limits.TheConstants.{MAX_HOLD_CLAIMS, MAX_REASON_BYTES}
use Rattle.rail_types.specs.Limits.{is_between, is_tick, is_name_byte}
use Rattle.rail_types.specs.declared.paths.Claim.{Claim}
use Rattle.rail_types.specs.declared.paths.Window.{Window}
use Rattle.rail_types.specs.declared.paths.Run.{Run}
use Rattle.rail_types.specs.declared.trains.Train.{Train}
use Rattle.rail_types.specs.declared.trains.Stop.{Stop}
use Rattle.rail_types.specs.declared.trains.Request.{Request}
use Rattle.rail_types.specs.declared.entries.Wanted.TheVariants.{Asked, Pinned}
use Rattle.rail_types.specs.declared.entries.Deed.{Deed}
use Rattle.rail_types.specs.declared.entries.Deed.TheVariants.{Hold, Grant, Free}
use Rattle.rail_types.specs.declared.entries.Entry.{Entry}
use Rattle.entry_codec.specs.Body.{kind_byte, flag_byte}
use Rattle.entry_codec.specs.Within.{IsFormed}
use Rattle.entry_codec.specs.Reading.{before_all, is_behind, any_bytes}

-- a field: its bytes, and whether it has a value that it may have
pub record Field : Type 0 where
  pub bytes : List ℕ
  pub right : Bool

-- the bytes of fields, one behind the other
abbrev pub bytes_of : List Field → List ℕ
bytes_of fields = flat_map (λ field. field.bytes) fields

abbrev pub number_of : ℕ → Bool → Field
number_of number right = record { bytes = to_be_bytes w32 number; right = right }

abbrev pub tick_of : ℤ → Bool → Field
tick_of tick right = record { bytes = signed_bytes tick; right = right }

-- a count of bytes, and the bytes
abbrev pub name_fields : ℕ → (List ℕ → Bool) → List ℕ → List Field
name_fields most test name =
    record { bytes = length name ∷ []; right = is_between 1 most (length name) }
    ∷ record { bytes = name; right = test name } ∷ []

abbrev pub window_fields : Window → List Field
window_fields window =
    tick_of window.from (is_tick window.from) ∷ tick_of window.to (is_tick window.to) ∷ []

abbrev pub stop_fields : Stop → List Field
stop_fields stop =
    number_of stop.stop true ∷ number_of stop.dwell (is_between 0 MAX_DWELL stop.dwell) ∷ []

abbrev pub run_fields : Run → List Field
run_fields run =
    number_of run.block true
    ∷ tick_of run.enter (is_tick run.enter) ∷ tick_of run.leave (is_tick run.leave)
    ∷ record { bytes = flag_byte run.stops ∷ []; right = true } ∷ []

abbrev pub train_fields : Train → List Field
train_fields train =
    name_fields MAX_TRAIN_NAME_BYTES is_utf8 train.name
    ++ number_of train.length_m (is_between 1 MAX_TRAIN_LENGTH_M train.length_m)
    ∷ number_of train.speed (is_between 1 MAX_SPEED_MM_S train.speed)
    ∷ number_of train.accel (is_between 1 MAX_ACCEL_MM_S2 train.accel)
    ∷ number_of train.brake (is_between 1 MAX_ACCEL_MM_S2 train.brake)
    ∷ number_of train.allowance (is_between 0 MAX_ALLOWANCE_PERCENT train.allowance) ∷ []

-- an end is right behind its begin
abbrev pub claim_fields : Claim → List Field
claim_fields claim =
    number_of claim.zone true ∷ tick_of claim.span.from (is_tick claim.span.from)
    ∷ tick_of claim.span.to (is_tick claim.span.to && int_lt claim.span.from claim.span.to) ∷ []

-- a zone is right where it is not below the one before, a begin where on one
-- zone it is behind the end before
abbrev pub next_claim_fields : Claim → Claim → List Field
next_claim_fields before claim =
    number_of claim.zone (nat_le before.zone claim.zone)
    ∷ tick_of claim.span.from (is_behind before claim.zone claim.span.from)
    ∷ tick_of claim.span.to (is_tick claim.span.to && int_lt claim.span.from claim.span.to) ∷ []

abbrev pub claims_fields : Claim → List Claim → List Field
claims_fields before [] = []
claims_fields before (claim ∷ claims) = next_claim_fields before claim ++ claims_fields claim claims

-- a count of elements, and the fields of each
abbrev pub list_fields : {A : Type 0} → ℕ → ℕ → (A → List Field) → List A → List Field
list_fields least most fields items =
    number_of (length items) (is_between least most (length items)) ∷ flat_map fields items

abbrev pub hold_fields : List Claim → List ℕ → List Field
hold_fields claims [] = flat_map claim_fields claims
hold_fields claims (byte ∷ others) =
    name_fields MAX_REASON_BYTES any_bytes (byte ∷ others)
    ++ number_of (length claims) (is_between 1 MAX_HOLD_CLAIMS (length claims))
    ∷ claims_fields before_all claims

abbrev pub wish_fields : Request → List Field
wish_fields request =
    number_of request.origin true ∷ number_of request.destination true
    ∷ window_fields request.depart ++ window_fields request.arrive
    ++ list_fields 0 MAX_STOPS stop_fields request.stops

abbrev pub deed_fields : Deed → List Field
deed_fields (Hold claims reason) = hold_fields claims reason
deed_fields (Grant (Asked request) path) =
    train_fields path.train ++ wish_fields request
    ++ list_fields 1 (2 ^ 32 - 1) run_fields path.runs
deed_fields (Grant Pinned path) =
    train_fields path.train ++ list_fields 1 MAX_PINNED_RUNS run_fields path.runs
deed_fields (Free entry) =
    record { bytes = to_be_bytes w64 entry; right = is_between 0 MAX_NUMBER entry } ∷ []

-- the fields of an entry in the order of its body
abbrev pub fields_of : Entry → List Field
fields_of entry =
    record { bytes = kind_byte entry.deed ∷ []; right = true }
    ∷ record { bytes = to_be_bytes w64 entry.number; right = is_between 0 MAX_NUMBER entry.number }
    ∷ number_of entry.line true
    ∷ name_fields MAX_OWNER_BYTES (list_all is_name_byte) entry.owner ++ deed_fields entry.deed

-- no entry of the form has, behind these fields, a field of these bytes that is right
abbrev pub NoneIsRight : List Field → List ℕ → Type 0
NoneIsRight before bytes =
    (entry : Entry) (field : Field) (behind : List Field) → IsFormed entry
    → fields_of entry ≡ before ++ field ∷ behind → field.bytes ≡ bytes → field.right ≡ true → ⊥

-- behind right fields, what is left begins with no field that is right: its bytes are missing, they
-- are there and no right field has them, or no field is left and bytes are
abbrev pub StopsAt : List Field → List Field → List ℕ → ℕ → Type 0
StopsAt before [] rest at = (rest ≢ []) × (at ≡ length (bytes_of before))
StopsAt before (field ∷ behind) rest at =
    ((length rest < length field.bytes) × (at ≡ length (bytes_of before) + length rest))
    ⊎ ((length field.bytes ≤ length rest) × (at ≡ length (bytes_of before))
    × NoneIsRight before (take (length field.bytes) rest))

-- the body begins as an entry of the form does whose fields are right up to the one that is wrong
pub record IsWrongAt (body : List ℕ) (at : ℕ) : Type 0 where
  pub entry : Entry
  pub formed : IsFormed entry
  pub before : List Field
  pub behind : List Field
  pub fields : fields_of entry ≡ before ++ behind
  pub right : All (λ field. field.right ≡ true) before
  pub rest : List ℕ
  pub parts : body ≡ bytes_of before ++ rest
  pub stops : StopsAt before behind rest at
