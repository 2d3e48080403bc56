use Rattle.std.proofs.Common.{ℕ, ◌+◌, ap, refl, ◌∙◌}
use Rattle.book_gate.specs.Passes.{view}
use Rattle.ask_turns.specs.declared.client_turns.halts.Halt.{Halt}
use Rattle.ask_turns.specs.Turns.{IsHalted, timetable_at}
use Rattle.ask_turns.proofs.Handed.{handed, known_halted}
use Rattle.ask_turns.proofs.Turned as turned
use Rattle.ask_turns.proofs.client_turns.turns.look.Goals as goal

pub open_known-requires-clause-ready : goal.open_known-requires-clause-ready
open_known-requires-clause-ready g c = c.requires.ready

pub open_known-requires-clause-budget : goal.open_known-requires-clause-budget
open_known-requires-clause-budget g c = c.requires.budget

pub open_known-requires-clause-knows : goal.open_known-requires-clause-knows
open_known-requires-clause-knows g c = c.requires.knows

pub returns-in_err-held-clause-ready : goal.returns-in_err-held-clause-ready
returns-in_err-held-clause-ready g c = c.in_err-held.ensures.ready

pub returns-in_err-held-clause-name : goal.returns-in_err-held-clause-name
returns-in_err-held-clause-name g c = c.open_known.ensures.name

pub returns-in_err-held-clause-knows : goal.returns-in_err-held-clause-knows
returns-in_err-held-clause-knows g c =
    known_halted (timetable_at c.args.gate.now) c.open_known.new.client c.in_err-held.field-0.0 c.args.after
    (view c.args.pass.now) (view c.open_known.new.pass) c.in_err-held.ensures.halted c.open_known.ensures.knows

pub returns-in_err-held-clause-budget : goal.returns-in_err-held-clause-budget
returns-in_err-held-clause-budget g c = c.open_known.ensures.budget

pub returns-in_err-held-clause-halted : goal.returns-in_err-held-clause-halted
returns-in_err-held-clause-halted g c =
    handed c.from_residual.result
    (λ (halt : Halt). IsHalted halt c.args.after (view c.args.pass.now) (view c.open_known.new.pass))
    c.in_err-held.field-0.0 c.from_residual.ensures.1 c.in_err-held.ensures.halted

pub leave-requires-clause-own : goal.leave-requires-clause-own
leave-requires-clause-own g c = c.in_ok-held.ensures.open.own

pub leave-requires-clause-turn : goal.leave-requires-clause-turn
leave-requires-clause-turn g c = c.in_ok-held.ensures.open.turn

pub leave-requires-clause-footing : goal.leave-requires-clause-footing
leave-requires-clause-footing g c =
    turned.footing_still g.D.Disk.faults c.args.gate.now c.args.pass.now c.open_known.new.pass
    c.args.after c.in_ok-held.held c.in_ok-held.held c.in_ok-held.held
    c.in_ok-held.ensures.open refl refl

pub leave-requires-clause-list : goal.leave-requires-clause-list
leave-requires-clause-list g c =
    turned.same_starts g.D.Disk.faults c.args.gate.now c.args.pass.now c.open_known.new.pass
    c.args.after c.in_ok-held.held c.in_ok-held.held c.in_ok-held.held
    c.in_ok-held.ensures.open refl refl

pub leave-requires-clause-count : goal.leave-requires-clause-count
leave-requires-clause-count g c =
    turned.count_still g.D.Disk.faults c.args.gate.now c.args.pass.now c.open_known.new.pass
    c.args.after c.in_ok-held.held c.in_ok-held.held c.in_ok-held.held
    c.in_ok-held.ensures.open refl refl

pub returns-clause-ready : goal.returns-clause-ready
returns-clause-ready g c = (c.leave.ensures.own, c.leave.ensures.idle)

pub returns-clause-name : goal.returns-clause-name
returns-clause-name g c = c.open_known.ensures.name

pub returns-clause-knows : goal.returns-clause-knows
returns-clause-knows g c =
    turned.knows_all g.D.Disk.faults c.args.gate.now c.args.pass.now c.open_known.new.pass
    c.args.after c.in_ok-held.held c.in_ok-held.held c.in_ok-held.held
    c.in_ok-held.ensures.open refl
    (view c.leave.new.pass) c.leave.ensures.served
    c.open_known.new.client
    (turned.same_starts g.D.Disk.faults c.args.gate.now c.args.pass.now c.open_known.new.pass
    c.args.after c.in_ok-held.held c.in_ok-held.held c.in_ok-held.held
    c.in_ok-held.ensures.open refl refl)
    c.open_known.ensures.knows

pub returns-clause-budget : goal.returns-clause-budget
returns-clause-budget g c = ap (λ (left : ℕ). left + 1) c.leave.ensures.budget ∙ c.open_known.ensures.budget

pub returns-clause-looks : goal.returns-clause-looks
returns-clause-looks g c =
    turned.turn_looks g.D.Disk.faults c.args.gate.now c.args.pass.now c.open_known.new.pass
    c.args.after c.in_ok-held.held c.in_ok-held.held c.in_ok-held.held
    c.in_ok-held.ensures.open refl
    (view c.leave.new.pass) c.leave.ensures.served refl

pub returns-clause-copy : goal.returns-clause-copy
returns-clause-copy g c =
    turned.copied g.D.Disk.faults c.args.gate.now c.args.pass.now c.open_known.new.pass
    c.args.after c.in_ok-held.held c.in_ok-held.held c.in_ok-held.held
    c.in_ok-held.ensures.open refl
    (view c.leave.new.pass) c.leave.ensures.served
    c.open_known.new.client c.in_ok-held.ensures.copy

pub returns-clause-reached : goal.returns-clause-reached
returns-clause-reached g c =
    turned.reaches g.D.Disk.faults c.args.gate.now c.args.pass.now c.open_known.new.pass
    c.args.after c.in_ok-held.held c.in_ok-held.held c.in_ok-held.held
    c.in_ok-held.ensures.open refl
    (view c.leave.new.pass) c.leave.ensures.served
