-- Numbers of a file. After quoting, a number stands as it is or is spelled by a text.
use Rattle.std.specs.Prelude.{ℕ, ◌/◌, ◌^◌, ℤ, pos, ◌*ℤ◌, unsigned_abs, List, Bool, false}
use Rattle.std.specs.Prelude.{if◌then◌else◌, nat_lt, Option, Some, None, option_and_then, Result}
use Rattle.std.specs.Prelude.{Ok, Err}
use Rattle.serde_json.specs.Data.{Data}
use Rattle.serde_json.specs.Find.{as_number, as_str, as_i64}
use Rattle.decimal_quote.specs.Values.{whole_of, scaled_of, count_told, units}
use Rattle.decimal_quote.specs.declared.values.NotWhole.{NotWhole}
use Rattle.decimal_quote.specs.declared.values.NotWhole.TheVariants.{Shape, Range}

-- a number as it stands, in units or thousandths, of at most 18 digits
abbrev pub in_units : ℤ → Bool → Result ℤ NotWhole
in_units number milli =
    if nat_lt (unsigned_abs number) (10 ^ 18 / units milli) then Ok (number *ℤ pos (units milli))
    else Err Range

-- a number as it stands, else what a text spells
abbrev pub number_or_text : {A : Type 0} → (ℤ → A) → (List ℕ → A) → A → Option ℤ → Option (List ℕ)
    → A
number_or_text stands spelled other (Some number) text = stands number
number_or_text stands spelled other None (Some text) = spelled text
number_or_text stands spelled other None None = other

abbrev pub of_value : {A : Type 0} → (ℤ → A) → (List ℕ → A) → A → Data → A
of_value stands spelled other d =
    number_or_text stands spelled other (option_and_then as_i64 (as_number d)) (as_str d)

-- the whole number that a value is or spells
abbrev pub whole_value : Data → Result ℤ NotWhole
whole_value d = of_value (λ number. in_units number false) whole_of (Err Shape) d

-- the number that a value is or spells, rounded up or down to units or thousandths
abbrev pub scaled_value : Data → Bool → Bool → Result ℤ NotWhole
scaled_value d up milli =
    of_value (λ number. in_units number milli) (λ text. scaled_of text up milli) (Err Shape) d

-- the value of a number where it is a whole number of 64 bits, else 0
abbrev pub count_value : Data → ℤ
count_value d = of_value (λ number. number) count_told (pos 0) d
