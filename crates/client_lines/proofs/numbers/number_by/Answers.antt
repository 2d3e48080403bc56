use Rattle.std.proofs.Common.{◌≡◌, ℕ, ◌+◌, ◌*◌, ◌^◌, ◌<◌, ◌≤◌, ◌&&◌, Bool, true, false, if◌then◌else◌, nat_lt, List, length, get_or, take, Option, Some, None, refl, sym, ap, ◌∙◌, arith}
use Rattle.std.specs.List.{list_all}
use Rattle.std.specs.Char.{is_ascii_digit, digit_value}
use Rattle.std.specs.Str.Parse.{digits_value}
use Rattle.std.proofs.lemmas.List.{take_all}
use Rattle.std.proofs.lemmas.List.Folds.{list_all_at, list_all_more}
use Rattle.std.proofs.lemmas.Bool.{and_from, cond-false, cond-true, le-ltb, lt-ltb}
use Rattle.std.proofs.lemmas.Bool.Decides.{nat_tests}
use Rattle.std.proofs.lemmas.Int.Digits.{digits_value_more}
use Rattle.std.proofs.lemmas.Str.Parse.{digits_value-take-le}
use Rattle.client_lines.specs.Reading.{if_so}
use Rattle.client_lines.proofs.Decimals.{spelled}
use Rattle.client_lines.proofs.numbers.number_by.Goals as goal

none_by : (all fits : Bool) (value : ℕ) → fits ≡ false → None ≡ (if all then if_so fits value else None)
none_by true fits value none = rw none refl
none_by false fits value none = refl

-- bytes of which one is no digit spell nothing
no_digit : (ds : List ℕ) (i : ℕ) → i < length ds → is_ascii_digit (get_or ds i 0) ≡ false → None ≡ spelled ds
no_digit ds i inside fails = sym (cond-false _ _ _ (list_all_at is_ascii_digit ds i 0 inside fails))

-- where the first digits do not fit, the whole does not
too_large : (ds : List ℕ) (i : ℕ) → i < length ds → 2 ^ 64 ≤ digits_value 10 (take i ds) * 10 + digit_value (get_or ds i 0) → None ≡ spelled ds
too_large ds i inside large =
    none_by _ _ _ (le-ltb (digits_value 10 ds) (2 ^ 64) (omega (arith, digits_value_more 10 ds i inside, digits_value-take-le 10 ds (i + 1) (omega arith))))

-- and all of them spell their number
whole : (ds : List ℕ) (number : ℕ) → list_all is_ascii_digit ds ≡ true → number ≡ digits_value 10 ds → number < 2 ^ 64 → Some number ≡ spelled ds
whole ds number digits value small =
    let fits : nat_lt (digits_value 10 ds) (2 ^ 64) ≡ true = lt-ltb (digits_value 10 ds) (2 ^ 64) (omega (arith, value)) in
    ap Some value ∙ sym (cond-true _ _ _ digits ∙ cond-true _ _ _ fits)

pub returns-then-not-is_ascii_digit : goal.returns-then-not-is_ascii_digit
returns-then-not-is_ascii_digit c =
    no_digit c.args.digits.now c.loop-byte.byte-index c.loop-byte-test.true (sym c.if-not-is_ascii_digit.ensures.value)

pub returns-in_err-checked_mul : goal.returns-in_err-checked_mul
returns-in_err-checked_mul c =
    c.from_residual.ensures ∙ too_large _ _ c.loop-byte-test.true (omega (arith, c.in_err-checked_mul.ensures, c.loop-byte.invariant.value))

pub returns-in_err-number : goal.returns-in_err-number
returns-in_err-number c =
    let digit : digit_value (get_or c.args.digits.now c.loop-byte.byte-index 0) ≡ c.from.result = grind (arith, nat_tests) in
    c.from_residual-in_err-number.ensures ∙ too_large _ _ c.loop-byte-test.true (omega (arith, c.in_err-number.ensures, c.in_ok-checked_mul.ensures.1, c.loop-byte.invariant.value))

pub loop-byte-preserved : goal.loop-byte-preserved
loop-byte-preserved c =
    let digit : digit_value (get_or c.args.digits.now c.loop-byte.byte-index 0) ≡ c.from.result = grind (arith, nat_tests) in record {
      value = omega (arith, digits_value_more 10 c.args.digits.now _ c.loop-byte-test.true, c.in_ok-number.ensures.1, c.in_ok-checked_mul.ensures.1, c.loop-byte.invariant.value);
      digits = list_all_more is_ascii_digit _ _ 0 c.loop-byte-test.true ∙ and_from _ _ c.loop-byte.invariant.digits (sym c.if-not-is_ascii_digit.ensures.value);
      small = omega (arith, c.in_ok-number.ensures.0, c.in_ok-number.ensures.1);
    }

pub returns : goal.returns
returns c =
    let ds = c.args.digits.now in
    let all = take_all c.loop-byte.byte-index ds c.loop-byte-test.false in
    let value : c.loop-byte.number ≡ digits_value 10 ds = c.loop-byte.invariant.value ∙ ap (digits_value 10) all in
    let digits : list_all is_ascii_digit ds ≡ true = sym (ap (list_all is_ascii_digit) all) ∙ c.loop-byte.invariant.digits in
    whole ds c.loop-byte.number digits value c.loop-byte.invariant.small
