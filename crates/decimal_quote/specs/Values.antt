-- The exact value that a number of JSON spells (RFC 8259, section 6), and
-- what it is as a whole number.
use Rattle.std.specs.Prelude.{ℕ, ◌+◌, ◌*◌, ◌/◌, ◌%◌, ◌^◌, ℤ, pos, neg_ℤ, List, [], ◌++◌, length}
use Rattle.std.specs.Prelude.{take, drop, Bool, if◌then◌else◌, ◌&&◌, ◌||◌, ◌==◌, not, nat_lt}
use Rattle.std.specs.Prelude.{Option, Some, None, Result, Ok, Err}
use Rattle.std.specs.List.{prefix_len}
use Rattle.std.specs.Char.{is_ascii_digit}
use Rattle.std.specs.Int.{div_ceil}
use Rattle.std.specs.Str.Parse.{digits_value}
use Rattle.decimal_quote.specs.Numbers.{begins, after_minus, after_sign, is_number}
use Rattle.decimal_quote.specs.declared.values.NotWhole.{NotWhole}
use Rattle.decimal_quote.specs.declared.values.NotWhole.TheVariants.{Shape, Fraction, Range}

-- the digits at the front
abbrev pub front_digits : List ℕ → List ℕ
front_digits t = take (prefix_len is_ascii_digit t) t

-- what follows them
abbrev pub behind_digits : List ℕ → List ℕ
behind_digits t = drop (prefix_len is_ascii_digit t) t

abbrev pub is_negative : List ℕ → Bool
is_negative t = begins 45 t

-- the digits before the point
abbrev pub whole_digits : List ℕ → List ℕ
whole_digits t = front_digits (after_minus t)

abbrev pub behind_whole : List ℕ → List ℕ
behind_whole t = behind_digits (after_minus t)

-- the digits behind the point
abbrev pub fraction_digits : List ℕ → List ℕ
fraction_digits t =
    if begins 46 (behind_whole t) then front_digits (drop 1 (behind_whole t)) else []

abbrev pub behind_fraction : List ℕ → List ℕ
behind_fraction t =
    if begins 46 (behind_whole t) then behind_digits (drop 1 (behind_whole t)) else behind_whole t

-- the exponent with its sign, without its letter
abbrev pub exponent_part : List ℕ → List ℕ
exponent_part t = drop 1 (behind_fraction t)

-- whether the exponent has a minus
abbrev pub is_divided : List ℕ → Bool
is_divided t = begins 45 (exponent_part t)

-- the exponent without its sign
abbrev pub exponent_amount : List ℕ → ℕ
exponent_amount t = digits_value 10 (front_digits (after_sign (exponent_part t)))

-- The value without its sign is numerator / denominator: all digits as one whole number, times ten
-- as often as the exponent says, divided by ten once for each digit behind the point and as often
-- as a negative exponent says.
unfoldable pub numerator : List ℕ → ℕ
numerator t =
    digits_value 10 (whole_digits t ++ fraction_digits t)
    * 10 ^ (if is_divided t then 0 else exponent_amount t)

unfoldable pub denominator : List ℕ → ℕ
denominator t =
    10 ^ (length (fraction_digits t) + (if is_divided t then exponent_amount t else 0))

abbrev pub signed : Bool → ℕ → ℤ
signed negative amount = if negative then neg_ℤ (pos amount) else pos amount

-- a text of more than 64 bytes, or an exponent beyond 99 either way
abbrev pub is_unwieldy : List ℕ → Bool
is_unwieldy t = nat_lt 64 (length t) || nat_lt 99 (exponent_amount t)

-- what is read of a number, which the text must be and not an unwieldy one
abbrev pub of_number : {A : Type 0} → List ℕ → Result A NotWhole → Result A NotWhole
of_number t read =
    if is_number t then (if is_unwieldy t then Err Range else read) else Err Shape

-- a number of at most 18 digits
abbrev pub at_most_18_digits : Bool → ℕ → Result ℤ NotWhole
at_most_18_digits negative amount =
    if nat_lt amount (10 ^ 18) then Ok (signed negative amount) else Err Range

-- the value, where it is whole and has at most 18 digits
abbrev pub whole_value : List ℕ → Result ℤ NotWhole
whole_value t =
    if numerator t % denominator t == 0
    then at_most_18_digits (is_negative t) (numerator t / denominator t)
    else Err Fraction

-- what a text is as a whole number
abbrev pub whole_of : List ℕ → Result ℤ NotWhole
whole_of t = of_number t (whole_value t)

abbrev pub units : Bool → ℕ
units milli = if milli then 1000 else 1

-- Upwards is away from zero for a number above it, and towards zero for one below it.
abbrev pub is_away : Bool → Bool → Bool
is_away negative up = if negative then not up else up

-- the quotient as the least whole number that is not less, or the greatest that is not more
abbrev pub rounded : Bool → ℕ → ℕ → ℕ
rounded away n d = if away then div_ceil n d else n / d

-- the value in units or thousandths, rounded up or down to a whole number of at most 18 digits
abbrev pub scaled_value : List ℕ → Bool → Bool → Result ℤ NotWhole
scaled_value t up milli =
    at_most_18_digits
    (is_negative t)
    (rounded (is_away (is_negative t) up) (numerator t * units milli) (denominator t))

-- what a text is as a number of units or thousandths
abbrev pub scaled_of : List ℕ → Bool → Bool → Result ℤ NotWhole
scaled_of t up milli = of_number t (scaled_value t up milli)

-- whether a whole number of this sign and amount has a place among those of 64 bits
abbrev pub fits_64_bits : Bool → ℕ → Bool
fits_64_bits negative amount = nat_lt amount (if negative then 2 ^ 63 + 1 else 2 ^ 63)

-- the quotient with this sign, where that is a whole number of 64 bits; else 0
abbrev pub count_by : Bool → ℕ → ℕ → ℤ
count_by negative n d =
    if n % d == 0 && fits_64_bits negative (n / d) then signed negative (n / d) else pos 0

-- the value, where the text is a number and its value a whole number of 64 bits; else 0
abbrev pub count_told : List ℕ → ℤ
count_told t =
    if is_number t then count_by (is_negative t) (numerator t) (denominator t) else pos 0

-- inside

-- a number below an end
abbrev pub below : ℕ → ℕ → Option ℕ
below end n = if nat_lt n end then Some n else None

-- whether a byte is the digit 0
abbrev pub is_zero : ℕ → Bool
is_zero b = b == 48

-- all digits of two runs as one whole number, times ten to the one power
abbrev pub raised : List ℕ → List ℕ → ℕ → ℕ
raised whole fraction up = digits_value 10 (whole ++ fraction) * 10 ^ up
