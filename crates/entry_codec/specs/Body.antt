-- The one body of each entry. Numbers stand most significant byte first.
use Rattle.std.specs.Prelude.{ℕ, Bool, true, false, List, [], ◌∷◌, ◌++◌, length}
use Rattle.std.specs.List.{flat_map}
use Rattle.std.specs.Int.{w32, w64, to_be_bytes}
use Rattle.byte_fields.specs.Unread.{signed_bytes}
use Rattle.rail_types.specs.declared.paths.Claim.{Claim}
use Rattle.rail_types.specs.declared.paths.Window.{Window}
use Rattle.rail_types.specs.declared.paths.Run.{Run}
use Rattle.rail_types.specs.declared.trains.Train.{Train}
use Rattle.rail_types.specs.declared.trains.Stop.{Stop}
use Rattle.rail_types.specs.declared.trains.Request.{Request}
use Rattle.rail_types.specs.declared.entries.Wanted.TheVariants.{Asked, Pinned}
use Rattle.rail_types.specs.declared.entries.Deed.{Deed}
use Rattle.rail_types.specs.declared.entries.Deed.TheVariants.{Hold, Grant, Free}
use Rattle.rail_types.specs.declared.entries.Entry.{Entry}

-- one byte of length, and the name
abbrev pub name_text : List ℕ → List ℕ
name_text name = length name ∷ name

-- four bytes of count, and the elements
abbrev pub list_text : {A : Type 0} → (A → List ℕ) → List A → List ℕ
list_text text items = to_be_bytes w32 (length items) ++ flat_map text items

abbrev pub claim_text : Claim → List ℕ
claim_text claim =
    to_be_bytes w32 claim.zone ++ signed_bytes claim.span.from ++ signed_bytes claim.span.to

-- the one claim of a hold without a reason; else the reason, and the claims behind their count
abbrev pub hold_text : List Claim → List ℕ → List ℕ
hold_text claims [] = flat_map claim_text claims
hold_text claims (byte ∷ others) = name_text (byte ∷ others) ++ list_text claim_text claims

abbrev pub train_text : Train → List ℕ
train_text train =
    name_text train.name ++ to_be_bytes w32 train.length_m ++ to_be_bytes w32 train.speed
    ++ to_be_bytes w32 train.accel ++ to_be_bytes w32 train.brake ++ to_be_bytes w32 train.allowance

abbrev pub window_text : Window → List ℕ
window_text window = signed_bytes window.from ++ signed_bytes window.to

abbrev pub stop_text : Stop → List ℕ
stop_text stop = to_be_bytes w32 stop.stop ++ to_be_bytes w32 stop.dwell

-- a request but for its train
abbrev pub wish_text : Request → List ℕ
wish_text request =
    to_be_bytes w32 request.origin ++ to_be_bytes w32 request.destination
    ++ window_text request.depart ++ window_text request.arrive ++ list_text stop_text request.stops

-- 1 where the train stops, else 0
abbrev pub flag_byte : Bool → ℕ
flag_byte false = 0
flag_byte true = 1

abbrev pub run_text : Run → List ℕ
run_text run =
    to_be_bytes w32 run.block ++ signed_bytes run.enter ++ signed_bytes run.leave
    ++ flag_byte run.stops ∷ []

-- the train of an asked grant stands once, for its request and its path
abbrev pub deed_text : Deed → List ℕ
deed_text (Hold claims reason) = hold_text claims reason
deed_text (Grant (Asked request) path) =
    train_text path.train ++ wish_text request ++ list_text run_text path.runs
deed_text (Grant Pinned path) = train_text path.train ++ list_text run_text path.runs
deed_text (Free entry) = to_be_bytes w64 entry

-- the first byte: a hold without a reason, an asked grant, a pinned grant, a
-- free, or a hold with a reason
abbrev pub kind_byte : Deed → ℕ
kind_byte (Hold claims []) = 1
kind_byte (Hold claims (byte ∷ others)) = 5
kind_byte (Grant (Asked request) path) = 2
kind_byte (Grant Pinned path) = 3
kind_byte (Free entry) = 4

-- kind, number, line, owner, and what the entry does
abbrev pub body_of : Entry → List ℕ
body_of entry =
    kind_byte entry.deed ∷ to_be_bytes w64 entry.number ++ to_be_bytes w32 entry.line
    ++ name_text entry.owner ++ deed_text entry.deed
