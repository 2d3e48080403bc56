-- How many turns a call took.
use Rattle.std.proofs.Common.{◌≡◌, ℕ, ◌+◌, ◌≤◌, arith}

pub one_taken : (before left : ℕ) → left + 1 ≡ before → before ≤ left + 1
one_taken before left is = omega arith

pub within_four : (before left : ℕ) → before ≤ left + 1 → before ≤ left + 4
within_four before left one = omega arith
