-- Inside: a line read field by field from the left, with the number of
-- the first field that is wrong.
use Rattle.std.specs.Prelude.{◌≡◌, ℕ, zero, suc, ◌+◌, ◌^◌, ℤ, pos, negsuc, Bool, true, false, ◌&&◌}
use Rattle.std.specs.Prelude.{◌||◌, not, List, [], ◌∷◌, length, drop, slice_get, Option, Some, None}
use Rattle.std.specs.Prelude.{Result, Ok, Err, nat_eq, nat_le, nat_lt, int_lt, option_map}
use Rattle.std.specs.Prelude.{option_and_then, if◌then◌else◌}
use Rattle.std.specs.Char.{is_ascii_digit}
use Rattle.std.specs.Int.{int_gap}
use Rattle.std.specs.List.{list_all}
use Rattle.std.specs.Str.Parse.{digits_value}
use Rattle.json_fields.specs.NameReading.{name_in}
use Rattle.rail_types.specs.declared.limits.TheConstants.{MAX_TICK}
use Rattle.client_lines.specs.declared.faults.LineFault.{LineFault}
use Rattle.client_lines.specs.declared.faults.LineFault.TheVariants.{Bad, Memory}
use Rattle.client_lines.specs.Forms.{IsFirstWrong, Kind, a_number, a_tick, a_word, a_name, Form}
use Rattle.client_lines.specs.Forms.{done, one, chain}

-- ---- what a field says, worked out from its bytes

-- whether bytes are digits, at least one, and the first of several is not 0
abbrev pub is_decimal : List ℕ → Bool
is_decimal [] = false
is_decimal (digit ∷ digits) =
    list_all is_ascii_digit (digit ∷ digits)
    && (not (nat_eq digit 48) || nat_eq (length digits) 0)

-- a value that passes a test
abbrev pub if_so : {A : Type 0} → Bool → A → Option A
if_so test value = if test then Some value else None

-- the number of 64 bits that a field spells
abbrev pub number_of : List ℕ → Option ℕ
number_of field =
    if is_decimal field
    then if_so (nat_lt (digits_value 10 field) (2 ^ 64)) (digits_value 10 field)
    else None

-- and it is from the first of two on and below the second
abbrev pub number_in : ℕ → ℕ → List ℕ → Option ℕ
number_in least end field =
    option_and_then (λ n. if_so (nat_le least n && nat_lt n end) n) (number_of field)

-- the number below 0 whose amount is this; 0 has none
abbrev pub below_zero : ℕ → Option ℤ
below_zero zero = None
below_zero (suc amount) = Some (negsuc amount)

-- where the amounts of ticks end
abbrev pub end_of_ticks : ℕ
end_of_ticks = int_gap (pos 0) MAX_TICK + 1

-- the tick that a field spells, with a minus or without
abbrev pub signed_in : List ℕ → Option ℤ
signed_in [] = None
signed_in (first ∷ rest) =
    if nat_eq first 45 then option_and_then below_zero (number_in 0 end_of_ticks rest)
    else option_map pos (number_in 0 end_of_ticks (first ∷ rest))

abbrev pub is_after : Option ℤ → ℤ → Bool
is_after None tick = true
is_after (Some before) tick = int_lt before tick

abbrev pub tick_in : Option ℤ → List ℕ → Option ℤ
tick_in before field =
    option_and_then (λ tick. if_so (is_after before tick) tick) (signed_in field)

-- the name that a field spells, which has a byte
abbrev pub field_name : List ℕ → Option (List ℕ)
field_name [] = None
field_name (byte ∷ bytes) = name_in (byte ∷ bytes)

abbrev pub meaning : {A : Type 0} → Kind A → List ℕ → Option A
meaning (a_number least end) field = number_in least end field
meaning (a_tick before) field = tick_in before field
meaning (a_word find) field = find field
meaning (a_name find) field = option_and_then find (field_name field)

-- ---- the fields one after another

-- the fields that are left, and the number of the first of them, counted from 1
pub record Left : Type 0 where
  pub at : ℕ
  pub fields : List (List ℕ)

abbrev pub Reading : Type 0 → Type 0
Reading A = Left → Result (A × Left) ℕ

-- what the field at this place is read as, or that it is wrong
abbrev pub or_bad : {A : Type 0} → ℕ → List (List ℕ) → Option A → Result (A × Left) ℕ
or_bad at others None = Err at
or_bad at others (Some said) = Ok (said, record { at = at + 1; fields = others })

-- one field
abbrev pub next_field : {A : Type 0} → (List ℕ → Option A) → Left → Result (A × Left) ℕ
next_field meant left =
    or_bad left.at (drop 1 left.fields) (option_and_then meant (slice_get left.fields 0))

abbrev pub go_on : {A B : Type 0} → Result (A × Left) ℕ → (A → Reading B)
    → Result (B × Left) ℕ
go_on (Ok found) next = next found.0 found.1
go_on (Err at) next = Err at

abbrev pub read : {A : Type 0} → Form A → Reading A
read (done value) left = Ok (value, left)
read (one kind) left = next_field (meaning kind) left
read (chain form next) left = go_on (read form left) (λ first. read (next first))

-- what a call answered and left is what reading gives, unless memory ran out
abbrev pub Fails : {A : Type 0} → LineFault → Result A ℕ → Type 0
Fails Memory reading = Unit {0}
Fails (Bad at) reading = reading ≡ Err at

abbrev pub Gives : {A : Type 0} → Left → Result A LineFault → Result (A × Left) ℕ → Type 0
Gives left (Ok value) reading = reading ≡ Ok (value, left)
Gives left (Err fault) reading = Fails fault reading

-- where nothing may stand behind
abbrev pub whole : {A : Type 0} → Result (A × Left) ℕ → Result A ℕ
whole (Ok found) =
    if nat_eq (length found.1.fields) 0 then Ok found.0 else Err found.1.at
whole (Err at) = Err at

abbrev pub GivesAll : {A : Type 0} → Result A LineFault → Result A ℕ → Type 0
GivesAll (Ok value) reading = reading ≡ Ok value
GivesAll (Err fault) reading = Fails fault reading

-- a line read to its end
abbrev pub line_reading : {A : Type 0} → Form A → List (List ℕ) → Result A ℕ
line_reading form fields = whole (read form (record { at = 1; fields = fields }))

-- the field that is told is the first wrong one
abbrev pub RefusesFirst : {A : Type 0} → Form A → List (List ℕ) → LineFault → Type 0
RefusesFirst form fields Memory = Unit {0}
RefusesFirst form fields (Bad field) = IsFirstWrong form fields field
