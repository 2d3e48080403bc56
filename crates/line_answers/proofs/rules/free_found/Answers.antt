use Rattle.std.proofs.Common.{◌⊎◌, ◌≡◌, ℕ, List, Some, slice_get, ap, sym, ◌∙◌, subst, refl}
use Rattle.book_gate.specs.Passes.{view}
use Rattle.client_lines.specs.declared.asks.Line.{Line}
use Rattle.client_lines.specs.declared.asks.Ask.TheVariants as asks
use Rattle.admission_rules.specs.Ruled.{Ruled, stand}
use Rattle.rail_types.specs.declared.entries.Entry.{Entry}
use Rattle.client_lines.specs.declared.reply_texts.replies.Reply.{Reply}
use Rattle.ask_turns.specs.Told.{IsStanding}
use Rattle.ask_turns.specs.Turns.{Sight}
use Rattle.line_answers.specs.Answers.{Caller}
use Rattle.line_answers.specs.Callers.{AnswersAllowed, AnswersLine, caller_of}
use Rattle.line_answers.specs.Points.{added}
use Rattle.line_answers.specs.Rules.{told_by, told_free}
use Rattle.line_answers.specs.Tells.{AddsNothing, halt_reply}
use Rattle.line_answers.proofs.Behind.{look_first, some_stand}
use Rattle.line_answers.proofs.Rows.{halt_short, halted_line}
use Rattle.line_answers.proofs.Told.{freed_told, halt_adds, untold_by}
use Rattle.rail_types.specs.Limits.{IsClientName}
use Rattle.client_lines.specs.Rooms.{IsBehindEntry}
use Rattle.line_answers.proofs.rules.free_found.Goals as goal

pub returns-in-Ok-Some-clause-answers : goal.returns-in-Ok-Some-clause-answers
returns-in-Ok-Some-clause-answers g c =
    let rules : List Ruled = stand g.L.Rule c.args.rules.now in
    let caller : Caller = caller_of c.args.shared.now rules c.args.client.now.name c.args.sent.line in
    let line : Line = record { after = c.args.sent.after; ask = asks.Free c.args.sent.number c.args.freed } in
    let v : Sight = view c.args.pass.now in let m : Sight = view c.show.new.pass in
    let w : Sight = view c.free-reply.new.pass in
    let allowed = subst (λ (name : List ℕ). AnswersAllowed c.args.shared.now name c.args.sent.line line c.free-reply.result m w) c.in-Ok-Some.ensures.name c.free-reply.ensures.answers in
    look_first caller c.args.sent.after c.args.sent.number c.args.freed (some_stand g.L.Rule c.args.rules.now c.requires.some) v m w c.in-Ok-Some.ensures.looks c.in-Ok-Some.ensures.reached
    c.free-reply.result (allowed rules refl)

pub returns-in-Ok-Some-clause-told : goal.returns-in-Ok-Some-clause-told
returns-in-Ok-Some-clause-told g c bytes read =
    let rules : List Ruled = stand g.L.Rule c.args.rules.now in
    let caller : Caller = caller_of c.args.shared.now rules c.show.new.client.name c.args.sent.line in
    let m : Sight = view c.show.new.pass in let w : Sight = view c.free-reply.new.pass in
    let entry : Entry = c.in-Ok-Some.standing.entry in
    let shows : IsStanding m.found.list c.args.freed (Some c.in-Ok-Some.standing) =
    subst (IsStanding m.found.list c.args.freed) c.in-Ok-Some.field-0-is c.in-Ok-Some.ensures.shows in
    let stands = ap (λ (l : List Entry). slice_get l c.args.freed) c.in-Ok-Some.ensures.looks.same ∙ shows.0 in
    let new : List Ruled = stand g.L.Rule c.tell_of_free.new.rules in
    let told = subst (λ wish. new ≡ told_free (added c.free-reply.result) wish rules) c.wish_of-wish.ensures c.tell_of_free.ensures in
    freed_told caller c.args.sent.after c.args.sent.number c.args.freed bytes read c.free-reply.result m w
    (c.free-reply.ensures.answers rules refl bytes read) entry stands rules new told

pub returns-in-Err-clause-answers : goal.returns-in-Err-clause-answers
returns-in-Err-clause-answers g c =
    let rules : List Ruled = stand g.L.Rule c.args.rules.now in
    let caller : Caller = caller_of c.args.shared.now rules c.args.client.now.name c.args.sent.line in
    let line : Line = record { after = c.args.sent.after; ask = asks.Free c.args.sent.number c.args.freed } in
    let v : Sight = view c.args.pass.now in let w : Sight = view c.show.new.pass in
    subst (λ (r : Reply). AnswersLine caller line r v w) (sym c.halted.ensures)
    (halted_line caller line v w c.in-Err.halt c.in-Err.ensures.halted)

pub returns-in-Err-clause-told : goal.returns-in-Err-clause-told
returns-in-Err-clause-told g c bytes read =
    let rules : List Ruled = stand g.L.Rule c.args.rules.now in let w : Sight = view c.show.new.pass in
    subst (λ (r : Reply). rules ≡ told_by w.seen r rules) (sym c.halted.ensures)
    (sym (untold_by w.seen (halt_reply c.in-Err.halt) (halt_adds c.in-Err.halt) rules))

pub returns-in-Ok-Some-clause-ready : goal.returns-in-Ok-Some-clause-ready
returns-in-Ok-Some-clause-ready g c = c.free-reply.ensures.ready

pub returns-in-Ok-Some-clause-knows : goal.returns-in-Ok-Some-clause-knows
returns-in-Ok-Some-clause-knows g c = c.free-reply.ensures.knows

pub returns-in-Ok-Some-clause-short : goal.returns-in-Ok-Some-clause-short
returns-in-Ok-Some-clause-short g c = c.free-reply.ensures.short

pub returns-in-Ok-Some-clause-name : goal.returns-in-Ok-Some-clause-name
returns-in-Ok-Some-clause-name g c = c.in-Ok-Some.ensures.name

pub returns-in-Err-clause-ready : goal.returns-in-Err-clause-ready
returns-in-Err-clause-ready g c = c.in-Err.ensures.ready

pub returns-in-Err-clause-knows : goal.returns-in-Err-clause-knows
returns-in-Err-clause-knows g c = c.in-Err.ensures.knows

pub returns-in-Err-clause-name : goal.returns-in-Err-clause-name
returns-in-Err-clause-name g c = c.in-Err.ensures.name

pub returns-in-Err-clause-short : goal.returns-in-Err-clause-short
returns-in-Err-clause-short g c =
    subst (λ (r : Reply). IsBehindEntry 0 r ⊎ AddsNothing r) (sym c.halted.ensures) (halt_short c.in-Err.halt)

pub show-requires-clause-ready : goal.show-requires-clause-ready
show-requires-clause-ready g c = c.requires.ready

pub show-requires-clause-knows : goal.show-requires-clause-knows
show-requires-clause-knows g c = c.requires.knows

pub free-reply-requires-clause-ready : goal.free-reply-requires-clause-ready
free-reply-requires-clause-ready g c = c.in-Ok-Some.ensures.ready

pub free-reply-requires-clause-knows : goal.free-reply-requires-clause-knows
free-reply-requires-clause-knows g c = c.in-Ok-Some.ensures.knows

pub free-reply-requires-clause-name : goal.free-reply-requires-clause-name
free-reply-requires-clause-name g c = subst IsClientName (sym c.in-Ok-Some.ensures.name) c.requires.name

pub free-reply-requires-clause-within : goal.free-reply-requires-clause-within
free-reply-requires-clause-within g c = c.requires.within
