use Rattle.std.proofs.Common.{◌≡◌, ◌≤◌, drop, length, ◌+◌, ◌-◌}
use Rattle.std.specs.List.{prefix_len}
use Rattle.std.specs.Char.{is_ascii_digit}
use Rattle.decimal_quote.proofs.numbers.digits_at_front.Given as goal

abbrev pub invariant-vectors : goal.invariant-vectors
invariant-vectors l =
    (prefix_len is_ascii_digit l.text ≡ l.at + prefix_len is_ascii_digit (drop l.at l.text))
    × (l.at ≤ length l.text)

abbrev pub decreases-vectors : goal.decreases-vectors
decreases-vectors l = length l.text - l.at
