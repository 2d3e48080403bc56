-- Readings: what was read, or the first fault.
use Rattle.std.specs.Prelude.{◌≡◌, Option, Some, None, Result, Ok, Err}

-- one reading after the other, up to the first fault
infixl 10 ◌>>=◌
abbrev pub ◌>>=◌ : {A B F : Type 0} → Result A F → (A → Result B F) → Result B F
(Ok x) >>= f = f x
(Err e) >>= f = Err e

-- what is there, or this fault
abbrev pub or_fault : {A F : Type 0} → F → Option A → Result A F
or_fault fault None = Err fault
or_fault fault (Some x) = Ok x

-- What a call returned, as its view shows it, is what the reading gives,
-- unless it returned want of memory.
abbrev pub Gives : {X Y F : Type 0} → F → (X → Y) → Result X F → Result Y F → Type 0
Gives memory see (Ok x) reading = reading ≡ Ok (see x)
Gives memory see (Err e) reading = (e ≡ memory → ⊥) → reading ≡ Err e
