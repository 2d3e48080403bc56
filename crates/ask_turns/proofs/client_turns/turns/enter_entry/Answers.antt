use Rattle.std.proofs.Common.{ℕ, ◌+◌, length, ap, refl, ◌∙◌}
use Rattle.book_gate.specs.Passes.{view}
use Rattle.ask_turns.specs.declared.client_turns.halts.Halt.{Halt}
use Rattle.ask_turns.specs.Turns.{IsStopped, timetable_at}
use Rattle.ask_turns.proofs.Handed.{halted_grows, halted_stops, handed}
use Rattle.ask_turns.proofs.Turned as turned
use Rattle.ask_turns.proofs.client_turns.turns.enter_entry.Goals as goal

pub open_turn-requires-clause-ready : goal.open_turn-requires-clause-ready
open_turn-requires-clause-ready g c = c.requires.ready

pub open_turn-requires-clause-budget : goal.open_turn-requires-clause-budget
open_turn-requires-clause-budget g c = c.requires.budget

pub returns-in_err-held-clause-ready : goal.returns-in_err-held-clause-ready
returns-in_err-held-clause-ready g c = c.in_err-held.ensures.ready

pub returns-in_err-held-clause-budget : goal.returns-in_err-held-clause-budget
returns-in_err-held-clause-budget g c = c.open_turn.ensures.budget

pub returns-in_err-held-clause-stopped : goal.returns-in_err-held-clause-stopped
returns-in_err-held-clause-stopped g c =
    handed c.from_residual.result
    (λ (halt : Halt). IsStopped (timetable_at c.args.gate.now) c.args.entry halt c.args.after (view c.args.pass.now) (view c.open_turn.new.pass))
    c.in_err-held.field-0.0 c.from_residual.ensures.1
    (halted_stops (timetable_at c.args.gate.now) c.args.entry c.in_err-held.field-0.0 c.args.after
    (view c.args.pass.now) (view c.open_turn.new.pass) c.in_err-held.ensures.halted)

pub enter_in-entered-requires-clause-idle : goal.enter_in-entered-requires-clause-idle
enter_in-entered-requires-clause-idle g c =
    turned.settled_all g.D.Disk.faults c.args.gate.now c.args.pass.now c.open_turn.new.pass
    c.args.after c.in_ok-held.held c.book-2.result.now c.book-2.result.now
    c.in_ok-held.ensures.open (c.book-2.ensures.found ∙ c.book.ensures.found)

pub enter_in-entered-requires-clause-range : goal.enter_in-entered-requires-clause-range
enter_in-entered-requires-clause-range g c =
    turned.in_range g.D.Disk.faults c.args.gate.now c.args.pass.now c.open_turn.new.pass
    c.args.after c.in_ok-held.held c.book-2.result.now c.book-2.result.now
    c.in_ok-held.ensures.open (c.book-2.ensures.found ∙ c.book.ensures.found) c.args.entry c.requires.range

pub leave-requires-clause-own : goal.leave-requires-clause-own
leave-requires-clause-own g c = c.in_ok-held.ensures.open.own

pub leave-requires-clause-turn : goal.leave-requires-clause-turn
leave-requires-clause-turn g c = c.in_ok-held.ensures.open.turn

pub leave-requires-clause-footing : goal.leave-requires-clause-footing
leave-requires-clause-footing g c =
    c.enter_in-entered.ensures.footing
    ∙ turned.footing_still g.D.Disk.faults c.args.gate.now c.args.pass.now c.open_turn.new.pass
    c.args.after c.in_ok-held.held c.book-2.result.now c.book-2.result.now
    c.in_ok-held.ensures.open (c.book-2.ensures.found ∙ c.book.ensures.found) refl

pub leave-requires-clause-list : goal.leave-requires-clause-list
leave-requires-clause-list g c =
    turned.starts g.D.Disk.faults c.args.gate.now c.args.pass.now c.open_turn.new.pass
    c.args.after c.in_ok-held.held c.book-2.result.now c.enter_in-entered.new.book
    c.in_ok-held.ensures.open (c.book-2.ensures.found ∙ c.book.ensures.found) c.enter_in-entered.ensures.grows

pub leave-requires-clause-count : goal.leave-requires-clause-count
leave-requires-clause-count g c =
    turned.counts_on g.D.Disk.faults c.args.gate.now c.args.pass.now c.open_turn.new.pass
    c.args.after c.in_ok-held.held c.book-2.result.now c.enter_in-entered.new.book
    c.in_ok-held.ensures.open (c.book-2.ensures.found ∙ c.book.ensures.found) c.enter_in-entered.ensures.later

pub returns-in_err-entered-clause-ready : goal.returns-in_err-entered-clause-ready
returns-in_err-entered-clause-ready g c = (c.leave.ensures.own, c.leave.ensures.idle)

pub returns-in_err-entered-clause-budget : goal.returns-in_err-entered-clause-budget
returns-in_err-entered-clause-budget g c = ap (λ (left : ℕ). left + 1) c.leave.ensures.budget ∙ c.open_turn.ensures.budget

pub returns-in_err-entered-clause-stopped : goal.returns-in_err-entered-clause-stopped
returns-in_err-entered-clause-stopped g c =
    handed c.from_residual-in_err-entered.result
    (λ (halt : Halt). IsStopped (timetable_at c.args.gate.now) c.args.entry halt c.args.after (view c.args.pass.now) (view c.leave.new.pass))
    c.in_err-entered.field-0.0 c.from_residual-in_err-entered.ensures.1
    (turned.turn_stops g.D.Disk.faults c.args.gate.now c.args.pass.now c.open_turn.new.pass
    c.args.after c.in_ok-held.held c.book-2.result.now c.enter_in-entered.new.book
    c.in_ok-held.ensures.open (c.book-2.ensures.found ∙ c.book.ensures.found)
    (view c.leave.new.pass) c.leave.ensures.served c.args.entry c.in_err-entered.field-0.0 c.enter_in-entered.ensures.later c.in_err-entered.ensures.stopped)

pub returns-clause-ready : goal.returns-clause-ready
returns-clause-ready g c = (c.leave.ensures.own, c.leave.ensures.idle)

pub returns-clause-budget : goal.returns-clause-budget
returns-clause-budget g c = ap (λ (left : ℕ). left + 1) c.leave.ensures.budget ∙ c.open_turn.ensures.budget

pub returns-clause-entered : goal.returns-clause-entered
returns-clause-entered g c =
    turned.turn_enters g.D.Disk.faults c.args.gate.now c.args.pass.now c.open_turn.new.pass
    c.args.after c.in_ok-held.held c.book-2.result.now c.enter_in-entered.new.book
    c.in_ok-held.ensures.open (c.book-2.ensures.found ∙ c.book.ensures.found)
    (view c.leave.new.pass) c.leave.ensures.served c.args.entry c.in_ok-entered.entered c.enter_in-entered.ensures.later c.in_ok-entered.ensures.entered

pub returns-clause-reached : goal.returns-clause-reached
returns-clause-reached g c =
    turned.reaches g.D.Disk.faults c.args.gate.now c.args.pass.now c.open_turn.new.pass
    c.args.after c.in_ok-held.held c.book-2.result.now c.enter_in-entered.new.book
    c.in_ok-held.ensures.open (c.book-2.ensures.found ∙ c.book.ensures.found)
    (view c.leave.new.pass) c.leave.ensures.served

pub returns-in_err-held-clause-grows : goal.returns-in_err-held-clause-grows
returns-in_err-held-clause-grows g c =
    halted_grows c.in_err-held.field-0.0 c.args.after (view c.args.pass.now) (view c.open_turn.new.pass)
    c.in_err-held.ensures.halted c.open_turn.ensures.goes_on

pub returns-in_err-entered-clause-grows : goal.returns-in_err-entered-clause-grows
returns-in_err-entered-clause-grows g c =
    turned.grows g.D.Disk.faults c.args.gate.now c.args.pass.now c.open_turn.new.pass
    c.args.after c.in_ok-held.held c.book-2.result.now c.enter_in-entered.new.book
    c.in_ok-held.ensures.open (c.book-2.ensures.found ∙ c.book.ensures.found)
    (view c.leave.new.pass) c.leave.ensures.served c.enter_in-entered.ensures.grows

pub returns-clause-grows : goal.returns-clause-grows
returns-clause-grows g c =
    turned.grows g.D.Disk.faults c.args.gate.now c.args.pass.now c.open_turn.new.pass
    c.args.after c.in_ok-held.held c.book-2.result.now c.enter_in-entered.new.book
    c.in_ok-held.ensures.open (c.book-2.ensures.found ∙ c.book.ensures.found)
    (view c.leave.new.pass) c.leave.ensures.served c.enter_in-entered.ensures.grows

pub returns-clause-found : goal.returns-clause-found
returns-clause-found g c =
    c.front-found.ensures ∙ ap length
    (turned.list_found g.D.Disk.faults c.args.gate.now c.args.pass.now c.open_turn.new.pass
    c.args.after c.in_ok-held.held c.book.result.now c.enter_in-entered.new.book
    c.in_ok-held.ensures.open c.book.ensures.found
    (view c.leave.new.pass) c.leave.ensures.served)
