use Rattle.std.proofs.Common.{◌≡◌, ℕ, ◌+◌, List, ap, sym, ◌∙◌, subst, refl}
use Rattle.book_gate.specs.Passes.{opened, view}
use Rattle.path_commit.specs.Footings.{footing_of}
use Rattle.path_commit.specs.Ledgers.{Ledger}
use Rattle.rail_types.specs.declared.entries.Entry.{Entry}
use Rattle.rail_types.specs.Timetables.{Timetable}
use Rattle.ask_turns.specs.declared.client_turns.halts.Halt.{Halt}
use Rattle.ask_turns.specs.Clients.{IsCopyOf, Knows}
use Rattle.ask_turns.specs.Turns.{IsHalted, IsOpen, IsReady, timetable_at}
use Rattle.ask_turns.proofs.Ended.{same_timetable}
use Rattle.ask_turns.proofs.Handed.{handed}
use Rattle.ask_turns.proofs.Known.{known_longer, not_err}
use Rattle.ask_turns.proofs.Turned as turned
use Rattle.ask_turns.proofs.client_turns.turns.open_known.Goals as goal

pub open_turn-requires-clause-ready : goal.open_turn-requires-clause-ready
open_turn-requires-clause-ready g c = c.requires.ready

pub open_turn-requires-clause-budget : goal.open_turn-requires-clause-budget
open_turn-requires-clause-budget g c = c.requires.budget

pub returns-in_err-held-clause-name : goal.returns-in_err-held-clause-name
returns-in_err-held-clause-name g c = refl

pub returns-in_err-held-clause-knows : goal.returns-in_err-held-clause-knows
returns-in_err-held-clause-knows g c =
    known_longer (timetable_at c.args.gate.now) c.args.client.now (view c.open_turn.new.pass).found.list
    (view c.args.pass.now).seen c.open_turn.ensures.goes_on c.requires.knows

pub returns-in_err-held-clause-budget : goal.returns-in_err-held-clause-budget
returns-in_err-held-clause-budget g c = c.open_turn.ensures.budget

pub returns-in_err-held-clause-ready : goal.returns-in_err-held-clause-ready
returns-in_err-held-clause-ready g c =
    handed c.from_residual.result (λ (halt : Halt). IsReady c.args.gate.now c.open_turn.new.pass)
    c.in_err-held.field-0.0 c.from_residual.ensures.1 c.in_err-held.ensures.ready

pub returns-in_err-held-clause-halted : goal.returns-in_err-held-clause-halted
returns-in_err-held-clause-halted g c =
    handed c.from_residual.result
    (λ (halt : Halt). IsHalted halt c.args.after (view c.args.pass.now) (view c.open_turn.new.pass))
    c.in_err-held.field-0.0 c.from_residual.ensures.1 c.in_err-held.ensures.halted

pub catch_up-requires : goal.catch_up-requires
catch_up-requires g c =
    let book : Ledger g.row.D.Denot = c.book.result.now in
    let found : List Entry = (view c.open_turn.new.pass).found.list in
    let timetable = same_timetable book (opened c.args.gate.now) (ap footing_of c.book.ensures.found ∙ c.in_ok-held.ensures.open.footing) in
    let entries : book.entries ≡ found =
    ap (λ (b : Ledger g.row.D.Denot). b.entries) c.book.ensures.found ∙ c.in_ok-held.ensures.open.list in
    record {
      knows =
          subst (λ (l : List Entry). Knows book.timetable c.args.client.now l) (sym entries)
          (subst (λ (t : Timetable). Knows t c.args.client.now found) (sym timetable)
          (known_longer (timetable_at c.args.gate.now) c.args.client.now found
          (view c.args.pass.now).seen c.open_turn.ensures.goes_on c.requires.knows));
    }

pub leave-requires-clause-own : goal.leave-requires-clause-own
leave-requires-clause-own g c = c.in_ok-held.ensures.open.own

pub leave-requires-clause-turn : goal.leave-requires-clause-turn
leave-requires-clause-turn g c = c.in_ok-held.ensures.open.turn

pub leave-requires-clause-footing : goal.leave-requires-clause-footing
leave-requires-clause-footing g c =
    turned.footing_still g.D.Disk.faults c.args.gate.now c.args.pass.now c.open_turn.new.pass
    c.args.after c.in_ok-held.held c.book.result.now c.book.result.now
    c.in_ok-held.ensures.open c.book.ensures.found refl

pub leave-requires-clause-list : goal.leave-requires-clause-list
leave-requires-clause-list g c =
    turned.same_starts g.D.Disk.faults c.args.gate.now c.args.pass.now c.open_turn.new.pass
    c.args.after c.in_ok-held.held c.book.result.now c.book.result.now
    c.in_ok-held.ensures.open c.book.ensures.found refl

pub leave-requires-clause-count : goal.leave-requires-clause-count
leave-requires-clause-count g c =
    turned.count_still g.D.Disk.faults c.args.gate.now c.args.pass.now c.open_turn.new.pass
    c.args.after c.in_ok-held.held c.book.result.now c.book.result.now
    c.in_ok-held.ensures.open c.book.ensures.found refl

pub returns-then-is_err-clause-name : goal.returns-then-is_err-clause-name
returns-then-is_err-clause-name g c = c.catch_up.ensures.name

pub returns-then-is_err-clause-knows : goal.returns-then-is_err-clause-knows
returns-then-is_err-clause-knows g c =
    let book : Ledger g.row.D.Denot = c.book.result.now in
    let timetable = same_timetable book (opened c.args.gate.now) (ap footing_of c.book.ensures.found ∙ c.in_ok-held.ensures.open.footing) in
    let entries : book.entries ≡ (view c.leave.new.pass).found.list =
    turned.list_found g.D.Disk.faults c.args.gate.now c.args.pass.now c.open_turn.new.pass
    c.args.after c.in_ok-held.held c.book.result.now c.book.result.now
    c.in_ok-held.ensures.open c.book.ensures.found (view c.leave.new.pass) c.leave.ensures.served in
    subst (λ (l : List Entry). Knows (timetable_at c.args.gate.now) c.catch_up.new.self l) entries
    (subst (λ (t : Timetable). Knows t c.catch_up.new.self book.entries) timetable c.catch_up.ensures.knows)

pub returns-then-is_err-clause-budget : goal.returns-then-is_err-clause-budget
returns-then-is_err-clause-budget g c = ap (λ (left : ℕ). left + 1) c.leave.ensures.budget ∙ c.open_turn.ensures.budget

pub returns-then-is_err-clause-ready : goal.returns-then-is_err-clause-ready
returns-then-is_err-clause-ready g c = (c.leave.ensures.own, c.leave.ensures.idle)

pub returns-then-is_err-clause-halted : goal.returns-then-is_err-clause-halted
returns-then-is_err-clause-halted g c =
    turned.turn_looks g.D.Disk.faults c.args.gate.now c.args.pass.now c.open_turn.new.pass
    c.args.after c.in_ok-held.held c.book.result.now c.book.result.now
    c.in_ok-held.ensures.open c.book.ensures.found (view c.leave.new.pass) c.leave.ensures.served refl

pub returns-clause-name : goal.returns-clause-name
returns-clause-name g c = c.catch_up.ensures.name

pub returns-clause-knows : goal.returns-clause-knows
returns-clause-knows g c =
    let book : Ledger g.row.D.Denot = c.book.result.now in
    let timetable = same_timetable book (opened c.args.gate.now) (ap footing_of c.book.ensures.found ∙ c.in_ok-held.ensures.open.footing) in
    let entries : book.entries ≡ (view c.open_turn.new.pass).found.list =
    ap (λ (b : Ledger g.row.D.Denot). b.entries) c.book.ensures.found ∙ c.in_ok-held.ensures.open.list in
    subst (λ (l : List Entry). Knows (timetable_at c.args.gate.now) c.catch_up.new.self l) entries
    (subst (λ (t : Timetable). Knows t c.catch_up.new.self book.entries) timetable c.catch_up.ensures.knows)

pub returns-clause-budget : goal.returns-clause-budget
returns-clause-budget g c = c.open_turn.ensures.budget

pub returns-clause-open : goal.returns-clause-open
returns-clause-open g c =
    subst (λ (held : Ledger g.row.D.Denot). IsOpen g.D.Disk.faults c.args.gate.now c.args.pass.now c.open_turn.new.pass c.args.after held)
    (sym c.book.ensures.found) c.in_ok-held.ensures.open

pub returns-clause-copy : goal.returns-clause-copy
returns-clause-copy g c =
    let book : Ledger g.row.D.Denot = c.book.result.now in
    let timetable = same_timetable book (opened c.args.gate.now) (ap footing_of c.book.ensures.found ∙ c.in_ok-held.ensures.open.footing) in
    let entries : book.entries ≡ (view c.open_turn.new.pass).found.list =
    ap (λ (b : Ledger g.row.D.Denot). b.entries) c.book.ensures.found ∙ c.in_ok-held.ensures.open.list in
    let copy = not_err _ c.catch_up.result (sym c.is_err.ensures.value ∙ c.if-is_err.false) c.catch_up.ensures.copy in
    subst (λ (l : List Entry). IsCopyOf (timetable_at c.args.gate.now) c.catch_up.new.self l) entries
    (subst (λ (t : Timetable). IsCopyOf t c.catch_up.new.self book.entries) timetable copy)
