use Rattle.std.proofs.Common.{◌⊎◌, refl, sym, subst}
use Rattle.ask_turns.proofs.Known.{known_longer}
use Rattle.book_gate.specs.Passes.{turns_left, view}
use Rattle.client_lines.specs.declared.asks.Line.{Line}
use Rattle.client_lines.specs.declared.asks.Ask.TheVariants as asks
use Rattle.rail_types.specs.declared.entries.Deed.{Deed}
use Rattle.rail_types.specs.declared.entries.Deed.TheVariants.{Free}
use Rattle.rail_types.specs.declared.entries.Entry.{Entry}
use Rattle.client_lines.specs.declared.reply_texts.replies.Reply.{Reply}
use Rattle.client_lines.specs.declared.reply_texts.replies.Reply.TheVariants as reply
use Rattle.ask_turns.specs.declared.client_turns.told.Entered.{Entered}
use Rattle.ask_turns.specs.declared.client_turns.told.Entered.TheVariants as entered
use Rattle.ask_turns.specs.Turns.{HasEntered, IsFullIn, IsRefusedIn, IsStopped, Sight, timetable_at}
use Rattle.line_answers.specs.Answers.{Caller, IsAllowed, IsNarrowLine, entry_of}
use Rattle.line_answers.specs.Callers.{AnswersLine, caller_of}
use Rattle.line_answers.proofs.Rows.{free_refused, full_line, halt_short, settled_line, stopped_line, unsettled_line, want_line}
use mathlib.Core.Logic.{inr}
use Rattle.client_lines.specs.Rooms.{IsBehindEntry}
use Rattle.line_answers.specs.Tells.{AddsNothing}
use Rattle.line_answers.proofs.Taken.{one_taken}
use Rattle.line_answers.proofs.words.free.Goals as goal

pub returns-in_default-clause-answers : goal.returns-in_default-clause-answers
returns-in_default-clause-answers g c rules allowed =
    want_line (caller_of c.args.shared.now rules c.args.client.now.name c.args.sent.line)
    (record { after = c.args.sent.after; ask = asks.Free c.args.sent.number c.args.freed }) (view c.args.pass.now)

pub returns-in-Settled-clause-answers : goal.returns-in-Settled-clause-answers
returns-in-Settled-clause-answers g c rules allowed =
    let caller : Caller = caller_of c.args.shared.now rules c.args.client.now.name c.args.sent.line in
    let line : Line = record { after = c.args.sent.after; ask = asks.Free c.args.sent.number c.args.freed } in
    let deed : Deed = Free c.args.freed in
    let v : Sight = view c.args.pass.now in let w : Sight = view c.enter_entry.new.pass in
    let timetable = timetable_at c.args.shared.now.gate in
    let at = c.in-Settled.at in let front = c.in-Settled.front in
    let told = subst (λ (x : Entered). HasEntered timetable c.in-Ok.entry x v w) c.in-Settled.is c.in-Ok-enter_entry.ensures.entered in
    let done = subst (λ (e : Entry). HasEntered timetable e (entered.Settled at front) v w) c.in-Ok.ensures told in
    settled_line caller line c.args.sent.number deed refl refl v w (reply.Freed c.args.sent.number at c.args.freed front) at front done
    (λ bytes read adds. (line, read.spells, (refl, c.in-Ok-enter_entry.ensures.reached, (entry_of caller c.args.sent.number deed, adds))))
    refl tt (λ ts all. all) (λ ts some. some)

pub returns-in-Unsettled-clause-answers : goal.returns-in-Unsettled-clause-answers
returns-in-Unsettled-clause-answers g c rules allowed =
    let caller : Caller = caller_of c.args.shared.now rules c.args.client.now.name c.args.sent.line in
    let line : Line = record { after = c.args.sent.after; ask = asks.Free c.args.sent.number c.args.freed } in
    let deed : Deed = Free c.args.freed in
    let v : Sight = view c.args.pass.now in let w : Sight = view c.enter_entry.new.pass in
    let timetable = timetable_at c.args.shared.now.gate in
    let may : IsAllowed caller line w.found.list = λ asked. allowed in
    let narrow : IsNarrowLine caller line = λ request sought. absurd sought in
    let at = c.in-Unsettled.at in let front = c.in-Unsettled.front in
    let told = subst (λ (x : Entered). HasEntered timetable c.in-Ok.entry x v w) c.in-Unsettled.is c.in-Ok-enter_entry.ensures.entered in
    let done = subst (λ (e : Entry). HasEntered timetable e (entered.Unsettled at front) v w) c.in-Ok.ensures told in
    unsettled_line caller line c.args.sent.number deed refl refl v w c.in-Ok-enter_entry.ensures.reached may narrow at front done

pub returns-in-Refused-clause-answers : goal.returns-in-Refused-clause-answers
returns-in-Refused-clause-answers g c rules allowed =
    let caller : Caller = caller_of c.args.shared.now rules c.args.client.now.name c.args.sent.line in
    let line : Line = record { after = c.args.sent.after; ask = asks.Free c.args.sent.number c.args.freed } in
    let deed : Deed = Free c.args.freed in
    let v : Sight = view c.args.pass.now in let w : Sight = view c.enter_entry.new.pass in
    let timetable = timetable_at c.args.shared.now.gate in
    let may : IsAllowed caller line w.found.list = λ asked. allowed in
    let narrow : IsNarrowLine caller line = λ request sought. absurd sought in
    let told = c.in-Refused.told in
    let so = subst (λ (x : Entered). HasEntered timetable c.in-Ok.entry x v w) c.in-Refused.is c.in-Ok-enter_entry.ensures.entered in
    let refused = subst (λ (e : Entry). IsRefusedIn timetable e told v w) c.in-Ok.ensures so in
    free_refused caller line c.args.sent.number deed refl refl v w c.in-Ok-enter_entry.ensures.reached may narrow c.in-Ok-enter_entry.judged.found
    c.in-Ok-enter_entry.ensures.found c.args.freed refl told c.free_refused.result refused c.free_refused.ensures.tells

pub returns-in-Full-clause-answers : goal.returns-in-Full-clause-answers
returns-in-Full-clause-answers g c rules allowed =
    let caller : Caller = caller_of c.args.shared.now rules c.args.client.now.name c.args.sent.line in
    let line : Line = record { after = c.args.sent.after; ask = asks.Free c.args.sent.number c.args.freed } in
    let deed : Deed = Free c.args.freed in
    let v : Sight = view c.args.pass.now in let w : Sight = view c.enter_entry.new.pass in
    let timetable = timetable_at c.args.shared.now.gate in
    let may : IsAllowed caller line w.found.list = λ asked. allowed in
    let narrow : IsNarrowLine caller line = λ request sought. absurd sought in
    let so = subst (λ (x : Entered). HasEntered timetable c.in-Ok.entry x v w) c.in-Full.is c.in-Ok-enter_entry.ensures.entered in
    let full = subst (λ (e : Entry). IsFullIn timetable e v w) c.in-Ok.ensures so in
    full_line caller line c.args.sent.number deed refl refl v w c.in-Ok-enter_entry.ensures.reached may narrow c.in-Ok-enter_entry.judged.found
    c.in-Ok-enter_entry.ensures.found full

pub returns-in-Err-clause-answers : goal.returns-in-Err-clause-answers
returns-in-Err-clause-answers g c rules allowed =
    let caller : Caller = caller_of c.args.shared.now rules c.args.client.now.name c.args.sent.line in
    let line : Line = record { after = c.args.sent.after; ask = asks.Free c.args.sent.number c.args.freed } in
    let deed : Deed = Free c.args.freed in
    let v : Sight = view c.args.pass.now in let w : Sight = view c.enter_entry.new.pass in
    let timetable = timetable_at c.args.shared.now.gate in
    let halt = c.in-Err.halt in
    let stopped = subst (λ (e : Entry). IsStopped timetable e halt c.args.sent.after v w) c.in-Ok.ensures c.in-Err.ensures.stopped in
    subst (λ (r : Reply). AnswersLine caller line r v w) (sym c.halted.ensures)
    (stopped_line caller line c.args.sent.number deed refl refl v w halt stopped)

pub returns-in_default-clause-ready : goal.returns-in_default-clause-ready
returns-in_default-clause-ready g c = c.requires.ready

pub returns-in_default-clause-knows : goal.returns-in_default-clause-knows
returns-in_default-clause-knows g c = c.requires.knows

pub returns-in_default-clause-short : goal.returns-in_default-clause-short
returns-in_default-clause-short g c = inr tt

pub returns-in-Settled-clause-ready : goal.returns-in-Settled-clause-ready
returns-in-Settled-clause-ready g c = c.in-Ok-enter_entry.ensures.ready

pub returns-in-Settled-clause-knows : goal.returns-in-Settled-clause-knows
returns-in-Settled-clause-knows g c =
    known_longer (timetable_at c.args.shared.now.gate) c.args.client.now (view c.enter_entry.new.pass).seen
    (view c.args.pass.now).seen c.in-Ok-enter_entry.ensures.grows c.requires.knows

pub returns-in-Unsettled-clause-ready : goal.returns-in-Unsettled-clause-ready
returns-in-Unsettled-clause-ready g c = c.in-Ok-enter_entry.ensures.ready

pub returns-in-Unsettled-clause-knows : goal.returns-in-Unsettled-clause-knows
returns-in-Unsettled-clause-knows g c =
    known_longer (timetable_at c.args.shared.now.gate) c.args.client.now (view c.enter_entry.new.pass).seen
    (view c.args.pass.now).seen c.in-Ok-enter_entry.ensures.grows c.requires.knows

pub returns-in-Refused-clause-ready : goal.returns-in-Refused-clause-ready
returns-in-Refused-clause-ready g c = c.in-Ok-enter_entry.ensures.ready

pub returns-in-Refused-clause-knows : goal.returns-in-Refused-clause-knows
returns-in-Refused-clause-knows g c =
    known_longer (timetable_at c.args.shared.now.gate) c.args.client.now (view c.enter_entry.new.pass).seen
    (view c.args.pass.now).seen c.in-Ok-enter_entry.ensures.grows c.requires.knows

pub returns-in-Full-clause-ready : goal.returns-in-Full-clause-ready
returns-in-Full-clause-ready g c = c.in-Ok-enter_entry.ensures.ready

pub returns-in-Full-clause-knows : goal.returns-in-Full-clause-knows
returns-in-Full-clause-knows g c =
    known_longer (timetable_at c.args.shared.now.gate) c.args.client.now (view c.enter_entry.new.pass).seen
    (view c.args.pass.now).seen c.in-Ok-enter_entry.ensures.grows c.requires.knows

pub returns-in-Err-clause-ready : goal.returns-in-Err-clause-ready
returns-in-Err-clause-ready g c = c.in-Err.ensures.ready

pub returns-in-Err-clause-knows : goal.returns-in-Err-clause-knows
returns-in-Err-clause-knows g c =
    known_longer (timetable_at c.args.shared.now.gate) c.args.client.now (view c.enter_entry.new.pass).seen
    (view c.args.pass.now).seen c.in-Err.ensures.grows c.requires.knows

pub returns-in-Full-clause-short : goal.returns-in-Full-clause-short
returns-in-Full-clause-short g c = inr tt

pub returns-in-Refused-clause-short : goal.returns-in-Refused-clause-short
returns-in-Refused-clause-short g c = inr c.free_refused.ensures.adds

pub returns-in-Err-clause-short : goal.returns-in-Err-clause-short
returns-in-Err-clause-short g c =
    subst (λ (r : Reply). IsBehindEntry 0 r ⊎ AddsNothing r) (sym c.halted.ensures) (halt_short c.in-Err.halt)

pub enter_entry-requires-clause-ready : goal.enter_entry-requires-clause-ready
enter_entry-requires-clause-ready g c = c.requires.ready

pub enter_entry-requires-clause-budget : goal.enter_entry-requires-clause-budget
enter_entry-requires-clause-budget g c = c.requires.budget

pub returns-in-Settled-clause-budget : goal.returns-in-Settled-clause-budget
returns-in-Settled-clause-budget g c = one_taken (turns_left c.args.pass.now) (turns_left c.enter_entry.new.pass) c.in-Ok-enter_entry.ensures.budget

pub returns-in-Unsettled-clause-budget : goal.returns-in-Unsettled-clause-budget
returns-in-Unsettled-clause-budget g c = one_taken (turns_left c.args.pass.now) (turns_left c.enter_entry.new.pass) c.in-Ok-enter_entry.ensures.budget

pub returns-in-Refused-clause-budget : goal.returns-in-Refused-clause-budget
returns-in-Refused-clause-budget g c = one_taken (turns_left c.args.pass.now) (turns_left c.enter_entry.new.pass) c.in-Ok-enter_entry.ensures.budget

pub returns-in-Full-clause-budget : goal.returns-in-Full-clause-budget
returns-in-Full-clause-budget g c = one_taken (turns_left c.args.pass.now) (turns_left c.enter_entry.new.pass) c.in-Ok-enter_entry.ensures.budget

pub returns-in-Err-clause-budget : goal.returns-in-Err-clause-budget
returns-in-Err-clause-budget g c = one_taken (turns_left c.args.pass.now) (turns_left c.enter_entry.new.pass) c.in-Err.ensures.budget
