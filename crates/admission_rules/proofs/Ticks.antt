-- A tick that a window and a curfew share.
use Rattle.std.proofs.Common.{◌≡◌, ℤ, ◌<ℤ◌, ◌≤ℤ◌, Bool, int_le, int_lt, Decides, arith}
use Rattle.std.proofs.lemmas.Int.{ints, by_lt_z}
use Rattle.std.proofs.lemmas.Bool.Decides.{Decides-and}
use Rattle.rail_types.specs.declared.paths.Window.{Window}
use Rattle.admission_rules.specs.Senses.{HoldsTick, holds_tick}

less_tells : (a b : ℤ) → Decides (int_lt a b) (a <ℤ b)
less_tells a b = (λ e. grind (arith, ints, e), λ h. grind (arith, ints, h))

most_tells : (a b : ℤ) → Decides (int_le a b) (a ≤ℤ b)
most_tells a b = (λ e. grind (arith, ints, e), λ h. grind (arith, ints, h))

abbrev Meet : Window → ℤ → ℤ → Type 0
Meet window from to =
    (((window.from ≤ℤ window.to) × (from <ℤ to)) × (window.from <ℤ to)) × (from ≤ℤ window.to)

meet_tells : (window : Window) (from to : ℤ) → Decides (holds_tick window from to) (Meet window from to)
meet_tells window from to =
    Decides-and _ _
    (Decides-and _ _
    (Decides-and _ _ (most_tells window.from window.to) (less_tells from to))
    (less_tells window.from to))
    (most_tells from window.to)

shared : (window : Window) (from to : ℤ) → Meet window from to → HoldsTick window from to
shared window from to meet =
    let some = meet.0.0.0 in let short = meet.0.0.1 in let early = meet.0.1 in let late = meet.1 in
    by_lt_z window.from from
    (λ later. (from, omega (arith, ints), late, omega (arith, ints), short))
    (λ first. (window.from, omega (arith, ints), some, first, early))

sharing : (window : Window) (from to : ℤ) → HoldsTick window from to → Meet window from to
sharing window from to holds =
    let a = holds.1 in let b = holds.2 in let c = holds.3 in let d = holds.4 in
    (((omega (arith, ints), omega (arith, ints)), omega (arith, ints)), omega (arith, ints))

pub holds_tells : (window : Window) (from to : ℤ) → Decides (holds_tick window from to) (HoldsTick window from to)
holds_tells window from to =
    let tells = meet_tells window from to in
    (λ is. shared window from to (tells.0 is), λ holds. tells.1 (sharing window from to holds))
