-- Inside: the name that a text spells, byte by byte.
use Rattle.std.specs.Prelude.{ℕ, ◌+◌, ◌*◌, ◌-◌, ◌<◌, Bool, ◌&&◌, not, List, [], ◌∷◌, ◌++◌, Option}
use Rattle.std.specs.Prelude.{Some, None, nat_eq, nat_le, option_map, option_and_then}
use Rattle.std.specs.Prelude.{if◌then◌else◌}
use Rattle.json_fields.specs.declared.name_text.spellings.Escape.{Escape}
use Rattle.json_fields.specs.declared.name_text.spellings.Escape.TheVariants.{Outside, Begun}
use Rattle.json_fields.specs.declared.name_text.spellings.Escape.TheVariants.{Halfway}
use Rattle.json_fields.specs.declared.name_text.spellings.Step.{Step}
use Rattle.json_fields.specs.Escapes.{is_plain}

-- a value that passes a test
abbrev pub if_so : {A : Type 0} → Bool → A → Option A
if_so test value = if test then Some value else None

-- the value of an upper-case hexadecimal digit
abbrev pub hex_value : ℕ → Option ℕ
hex_value byte =
    if nat_le 48 byte && nat_le byte 57 then Some (byte - 48)
    else if_so (nat_le 65 byte && nat_le byte 70) (byte - 55)

-- a byte of a spelled name: the byte of the name that it ends, if it ends one, and
-- how far the next escape is read
abbrev pub step_of : Escape → ℕ → Option Step
step_of Outside byte =
    if nat_eq byte 37 then Some (record { found = None; escape = Begun })
    else if_so (is_plain byte) (record { found = Some byte; escape = Outside })
step_of Begun byte =
    option_map (λ high. record { found = None; escape = Halfway high }) (hex_value byte)
step_of (Halfway high) byte =
    option_and_then (λ low. if_so (not (is_plain (high * 16 + low)))
    (record { found = Some (high * 16 + low); escape = Outside })) (hex_value byte)

-- the first digit of an escape is one digit
abbrev pub IsHalf : Escape → Type 0
IsHalf Outside = Unit {0}
IsHalf Begun = Unit {0}
IsHalf (Halfway high) = high < 16

abbrev pub found_bytes : Option ℕ → List ℕ
found_bytes None = []
found_bytes (Some byte) = byte ∷ []

-- a front before a name, if there is the name
abbrev pub with_front : List ℕ → Option (List ℕ) → Option (List ℕ)
with_front front name = option_map (λ bytes. front ++ bytes) name

-- the name that bytes spell, of whose first escape so much is read
unfoldable pub read_on : Escape → List ℕ → Option (List ℕ)
read_on Outside [] = Some []
read_on Begun [] = None
read_on (Halfway high) [] = None
read_on escape (byte ∷ bytes) =
    option_and_then (λ step. with_front (found_bytes step.found) (read_on step.escape bytes))
    (step_of escape byte)

-- the name that a text spells
abbrev pub name_in : List ℕ → Option (List ℕ)
name_in text = read_on Outside text
