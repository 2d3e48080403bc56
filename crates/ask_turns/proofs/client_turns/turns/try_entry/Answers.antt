use Rattle.std.proofs.Common.{ℕ, ◌+◌, None, ap, refl, ◌∙◌}
use Rattle.book_gate.specs.Passes.{view}
use Rattle.ask_turns.specs.declared.client_turns.halts.Halt.{Halt}
use Rattle.ask_turns.specs.Turns.{IsStopped, timetable_at}
use Rattle.ask_turns.proofs.Handed.{halted_stops, handed, known_halted}
use Rattle.ask_turns.proofs.Turned as turned
use Rattle.ask_turns.proofs.client_turns.turns.try_entry.Goals as goal

pub open_known-requires-clause-ready : goal.open_known-requires-clause-ready
open_known-requires-clause-ready g c = c.requires.ready

pub open_known-requires-clause-budget : goal.open_known-requires-clause-budget
open_known-requires-clause-budget g c = c.requires.budget

pub open_known-requires-clause-knows : goal.open_known-requires-clause-knows
open_known-requires-clause-knows g c = c.requires.knows

pub returns-in_err-held-clause-ready : goal.returns-in_err-held-clause-ready
returns-in_err-held-clause-ready g c = c.in_err-held.ensures.ready

pub returns-in_err-held-clause-name : goal.returns-in_err-held-clause-name
returns-in_err-held-clause-name g c = c.open_known.ensures.name

pub returns-in_err-held-clause-knows : goal.returns-in_err-held-clause-knows
returns-in_err-held-clause-knows g c =
    known_halted (timetable_at c.args.gate.now) c.open_known.new.client c.in_err-held.field-0.0 None
    (view c.args.pass.now) (view c.open_known.new.pass) c.in_err-held.ensures.halted c.open_known.ensures.knows

pub returns-in_err-held-clause-budget : goal.returns-in_err-held-clause-budget
returns-in_err-held-clause-budget g c = c.open_known.ensures.budget

pub returns-in_err-held-clause-stopped : goal.returns-in_err-held-clause-stopped
returns-in_err-held-clause-stopped g c =
    handed c.from_residual.result
    (λ (halt : Halt). IsStopped (timetable_at c.args.gate.now) c.args.entry halt None (view c.args.pass.now) (view c.open_known.new.pass))
    c.in_err-held.field-0.0 c.from_residual.ensures.1
    (halted_stops (timetable_at c.args.gate.now) c.args.entry c.in_err-held.field-0.0 None
    (view c.args.pass.now) (view c.open_known.new.pass) c.in_err-held.ensures.halted)

pub try_in-tried-requires-clause-idle : goal.try_in-tried-requires-clause-idle
try_in-tried-requires-clause-idle g c =
    turned.settled_all g.D.Disk.faults c.args.gate.now c.args.pass.now c.open_known.new.pass
    None c.in_ok-held.held c.book.result.now c.book.result.now
    c.in_ok-held.ensures.open c.book.ensures.found

pub try_in-tried-requires-clause-range : goal.try_in-tried-requires-clause-range
try_in-tried-requires-clause-range g c =
    turned.in_range g.D.Disk.faults c.args.gate.now c.args.pass.now c.open_known.new.pass
    None c.in_ok-held.held c.book.result.now c.book.result.now
    c.in_ok-held.ensures.open c.book.ensures.found c.args.entry c.requires.range

pub try_in-tried-requires-clause-searched : goal.try_in-tried-requires-clause-searched
try_in-tried-requires-clause-searched g c =
    turned.front_within g.D.Disk.faults c.args.gate.now c.args.pass.now c.open_known.new.pass
    None c.in_ok-held.held c.book.result.now c.book.result.now
    c.in_ok-held.ensures.open c.book.ensures.found c.args.client.now c.requires.knows

pub leave-requires-clause-own : goal.leave-requires-clause-own
leave-requires-clause-own g c = c.in_ok-held.ensures.open.own

pub leave-requires-clause-turn : goal.leave-requires-clause-turn
leave-requires-clause-turn g c = c.in_ok-held.ensures.open.turn

pub leave-requires-clause-footing : goal.leave-requires-clause-footing
leave-requires-clause-footing g c =
    c.try_in-tried.ensures.footing
    ∙ turned.footing_still g.D.Disk.faults c.args.gate.now c.args.pass.now c.open_known.new.pass
    None c.in_ok-held.held c.book.result.now c.book.result.now
    c.in_ok-held.ensures.open c.book.ensures.found refl

pub leave-requires-clause-list : goal.leave-requires-clause-list
leave-requires-clause-list g c =
    turned.starts g.D.Disk.faults c.args.gate.now c.args.pass.now c.open_known.new.pass
    None c.in_ok-held.held c.book.result.now c.try_in-tried.new.book
    c.in_ok-held.ensures.open c.book.ensures.found c.try_in-tried.ensures.grows

pub leave-requires-clause-count : goal.leave-requires-clause-count
leave-requires-clause-count g c =
    turned.counts_on g.D.Disk.faults c.args.gate.now c.args.pass.now c.open_known.new.pass
    None c.in_ok-held.held c.book.result.now c.try_in-tried.new.book
    c.in_ok-held.ensures.open c.book.ensures.found c.try_in-tried.ensures.later

pub returns-in_err-tried-clause-ready : goal.returns-in_err-tried-clause-ready
returns-in_err-tried-clause-ready g c = (c.leave.ensures.own, c.leave.ensures.idle)

pub returns-in_err-tried-clause-name : goal.returns-in_err-tried-clause-name
returns-in_err-tried-clause-name g c = c.open_known.ensures.name

pub returns-in_err-tried-clause-knows : goal.returns-in_err-tried-clause-knows
returns-in_err-tried-clause-knows g c =
    turned.knows_all g.D.Disk.faults c.args.gate.now c.args.pass.now c.open_known.new.pass
    None c.in_ok-held.held c.book.result.now c.try_in-tried.new.book
    c.in_ok-held.ensures.open c.book.ensures.found
    (view c.leave.new.pass) c.leave.ensures.served
    c.open_known.new.client
    (turned.starts g.D.Disk.faults c.args.gate.now c.args.pass.now c.open_known.new.pass
    None c.in_ok-held.held c.book.result.now c.try_in-tried.new.book
    c.in_ok-held.ensures.open c.book.ensures.found c.try_in-tried.ensures.grows)
    c.open_known.ensures.knows

pub returns-in_err-tried-clause-budget : goal.returns-in_err-tried-clause-budget
returns-in_err-tried-clause-budget g c = ap (λ (left : ℕ). left + 1) c.leave.ensures.budget ∙ c.open_known.ensures.budget

pub returns-in_err-tried-clause-stopped : goal.returns-in_err-tried-clause-stopped
returns-in_err-tried-clause-stopped g c =
    handed c.from_residual-in_err-tried.result
    (λ (halt : Halt). IsStopped (timetable_at c.args.gate.now) c.args.entry halt None (view c.args.pass.now) (view c.leave.new.pass))
    c.in_err-tried.field-0.0 c.from_residual-in_err-tried.ensures.1
    (turned.turn_stops g.D.Disk.faults c.args.gate.now c.args.pass.now c.open_known.new.pass
    None c.in_ok-held.held c.book.result.now c.try_in-tried.new.book
    c.in_ok-held.ensures.open c.book.ensures.found
    (view c.leave.new.pass) c.leave.ensures.served c.args.entry c.in_err-tried.field-0.0 c.try_in-tried.ensures.later c.in_err-tried.ensures.stopped)

pub returns-clause-ready : goal.returns-clause-ready
returns-clause-ready g c = (c.leave.ensures.own, c.leave.ensures.idle)

pub returns-clause-name : goal.returns-clause-name
returns-clause-name g c = c.open_known.ensures.name

pub returns-clause-knows : goal.returns-clause-knows
returns-clause-knows g c =
    turned.knows_all g.D.Disk.faults c.args.gate.now c.args.pass.now c.open_known.new.pass
    None c.in_ok-held.held c.book.result.now c.try_in-tried.new.book
    c.in_ok-held.ensures.open c.book.ensures.found
    (view c.leave.new.pass) c.leave.ensures.served
    c.open_known.new.client
    (turned.starts g.D.Disk.faults c.args.gate.now c.args.pass.now c.open_known.new.pass
    None c.in_ok-held.held c.book.result.now c.try_in-tried.new.book
    c.in_ok-held.ensures.open c.book.ensures.found c.try_in-tried.ensures.grows)
    c.open_known.ensures.knows

pub returns-clause-budget : goal.returns-clause-budget
returns-clause-budget g c = ap (λ (left : ℕ). left + 1) c.leave.ensures.budget ∙ c.open_known.ensures.budget

pub returns-clause-tried : goal.returns-clause-tried
returns-clause-tried g c =
    turned.turn_tries g.D.Disk.faults c.args.gate.now c.args.pass.now c.open_known.new.pass
    None c.in_ok-held.held c.book.result.now c.try_in-tried.new.book
    c.in_ok-held.ensures.open c.book.ensures.found
    (view c.leave.new.pass) c.leave.ensures.served c.args.entry c.args.client.now.front c.in_ok-tried.tried c.try_in-tried.ensures.later c.in_ok-tried.ensures.tried

pub returns-clause-copy : goal.returns-clause-copy
returns-clause-copy g c =
    turned.copied g.D.Disk.faults c.args.gate.now c.args.pass.now c.open_known.new.pass
    None c.in_ok-held.held c.book.result.now c.try_in-tried.new.book
    c.in_ok-held.ensures.open c.book.ensures.found
    (view c.leave.new.pass) c.leave.ensures.served
    c.open_known.new.client c.in_ok-held.ensures.copy
