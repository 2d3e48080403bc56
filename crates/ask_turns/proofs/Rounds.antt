-- What three rounds leave of the turns that there were before.
use Rattle.std.proofs.Common.{◌≡◌, ℕ, ◌+◌, ◌<◌, ◌≤◌, arith}

pub one_left : (before now round : ℕ) → 3 ≤ before → now + round ≡ before → round < 3 → 1 ≤ now
one_left before now round three left few = omega arith

pub three_more : (before now round : ℕ) → now + round ≡ before → round < 3 → before ≤ now + 3
three_more before now round left few = omega arith

pub three_less_one : (before now next round : ℕ) → now + round ≡ before → round < 3
    → next + 1 ≡ now → before ≤ next + 3
three_less_one before now next round left few taken = omega arith

pub three_at_end : (before now round : ℕ) → now + round ≡ before → round ≤ 3 → before ≤ now + 3
three_at_end before now round left few = omega arith

pub further : (before now next : ℕ) → before ≤ now → now ≤ next → before ≤ next
further before now next was more = omega arith
