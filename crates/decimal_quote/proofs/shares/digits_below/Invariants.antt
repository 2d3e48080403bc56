use Rattle.std.proofs.Common.{◌≡◌, ◌<◌, drop}
use Rattle.std.specs.Str.Parse.{AllDigits, digits_value_after}
use Rattle.decimal_quote.proofs.shares.digits_below.Given as goal

abbrev pub invariant-digits : goal.invariant-digits
invariant-digits l = record {
  value : digits_value_after 10 l.total (drop l.digit-index l.digits) ≡ digits_value_after 10 l.amount l.digits;
  left : AllDigits 10 (drop l.digit-index l.digits);
  room : l.total < l.end;
}
