-- What a turn hands on of what its calls answered.
use Rattle.std.proofs.Common.{◌≡◌, ℕ, Option, Result, Ok, Err, sym, subst}
use Rattle.std.specs.Result.{IfErr, IsErrAnd}
use mathlib.Core.Logic.{inl}
use Rattle.book_gate.specs.Views.{StartsWith}
use Rattle.rail_types.specs.declared.entries.Entry.{Entry}
use Rattle.rail_types.specs.Timetables.{Timetable}
use Rattle.ask_turns.specs.declared.client_turns.clients.Client.{Client}
use Rattle.ask_turns.specs.declared.client_turns.halts.Halt.{Halt}
use Rattle.ask_turns.specs.declared.client_turns.halts.Halt.TheVariants.{DiskFault, NoMemory, Ahead}
use Rattle.ask_turns.specs.Clients.{Knows}
use Rattle.ask_turns.specs.Turns.{IsHalted, IsStopped, Sight}

-- what holds of a halt holds of the one that a `?` makes of it
pub handed : {T : Type 0} (result : Result T Halt) (Q : Halt → Type 0) (halt : Halt)
    → IsErrAnd result (λ (made : Halt). made ≡ halt) → Q halt → IfErr result Q
handed (Ok x) Q halt is holds = tt
handed (Err made) Q halt is holds = subst Q (sym is) holds

-- a turn that ended before anything was done left what it found
pub known_halted : (timetable : Timetable) (client : Client) (halt : Halt) (after : Option ℕ)
    (v w : Sight) → IsHalted halt after v w → Knows timetable client w.found.list
    → Knows timetable client w.seen
known_halted timetable client DiskFault after v w halted knows =
    subst (Knows timetable client) (sym halted.same) knows
known_halted timetable client NoMemory after v w halted knows =
    subst (Knows timetable client) (sym halted.same) knows
known_halted timetable client (Ahead named front) after v w halted knows =
    subst (Knows timetable client) (sym halted.0.same) knows

-- what the pass had seen is the beginning of what it has seen behind such a turn
pub halted_grows : (halt : Halt) (after : Option ℕ) (v w : Sight) → IsHalted halt after v w
    → StartsWith w.found.list v.seen → StartsWith w.seen v.seen
halted_grows DiskFault after v w halted more = subst (λ l. StartsWith l v.seen) (sym halted.same) more
halted_grows NoMemory after v w halted more = subst (λ l. StartsWith l v.seen) (sym halted.same) more
halted_grows (Ahead named front) after v w halted more =
    subst (λ l. StartsWith l v.seen) (sym halted.0.same) more

-- such a turn added nothing
pub halted_stops : (timetable : Timetable) (entry : Entry) (halt : Halt) (after : Option ℕ)
    (v w : Sight) → IsHalted halt after v w → IsStopped timetable entry halt after v w
halted_stops timetable entry DiskFault after v w halted = inl halted
halted_stops timetable entry NoMemory after v w halted = halted
halted_stops timetable entry (Ahead named front) after v w halted = halted
