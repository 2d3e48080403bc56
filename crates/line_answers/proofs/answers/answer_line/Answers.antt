use Rattle.std.proofs.Common.{List, Option, [], refl, subst, sym, ℕ}
use Rattle.book_gate.specs.Passes.{turns_left, view}
use Rattle.client_lines.specs.declared.asks.Ask.{Ask}
use Rattle.client_lines.specs.declared.asks.Ask.TheVariants as asks
use Rattle.ask_turns.specs.Turns.{Sight, timetable_at}
use Rattle.line_answers.specs.Proved.{ShowsLine}
use Rattle.line_answers.specs.Rules.{wished}
use Rattle.line_answers.proofs.Told.{none_denies}
use Rattle.line_answers.proofs.Rooms.{short_room}
use Rattle.line_answers.proofs.Proved.{unsought_shows}
use Rattle.client_lines.specs.Within.{IsAskWithin}
use Rattle.line_answers.specs.Callers.{AnswersAllowed}
use Rattle.line_answers.proofs.Taken.{within_four}
use Rattle.line_answers.proofs.answers.answer_line.Goals as goal

pub returns-in-Hold-clause-room : goal.returns-in-Hold-clause-room
returns-in-Hold-clause-room g c = short_room c.args.text.now c.hold.result c.requires.spare c.hold.ensures.short

pub returns-in-Pin-clause-room : goal.returns-in-Pin-clause-room
returns-in-Pin-clause-room g c = short_room c.args.text.now c.pin.result c.requires.spare c.pin.ensures.short

pub returns-in-Free-clause-room : goal.returns-in-Free-clause-room
returns-in-Free-clause-room g c = short_room c.args.text.now c.free.result c.requires.spare c.free.ensures.short

pub returns-in-Show-clause-room : goal.returns-in-Show-clause-room
returns-in-Show-clause-room g c = short_room c.args.text.now c.show_entry.result c.requires.spare c.show_entry.ensures.short

pub returns-in-Front-clause-room : goal.returns-in-Front-clause-room
returns-in-Front-clause-room g c = short_room c.args.text.now c.front.result c.requires.spare c.front.ensures.short

pub returns-in-Hold-clause-shown : goal.returns-in-Hold-clause-shown
returns-in-Hold-clause-shown g c =
    let v : Sight = view c.args.guest.now.pass in let w : Sight = view c.hold.new.pass in
    let text : List ℕ = c.args.proof.now.held in let after : Option ℕ = c.args.numbered.line.after in
    let asked : Ask = asks.Hold c.in-Hold.number c.in-Hold.claims c.in-Hold.reason in
    subst (λ (ask : Ask). ShowsLine c.args.shared.now c.args.guest.now.proves (record { after = after; ask = ask }) c.hold.result text v w)
    (sym c.in-Hold.is)
    (unsought_shows c.args.shared.now [] c.args.guest.now.client.name c.args.numbered.number (record { after = after; ask = asked })
    c.args.guest.now.proves c.hold.result text v w (c.hold.ensures.answers [] (none_denies (wished asked))) (λ request is. is))

pub returns-in-Pin-clause-shown : goal.returns-in-Pin-clause-shown
returns-in-Pin-clause-shown g c =
    let v : Sight = view c.args.guest.now.pass in let w : Sight = view c.pin.new.pass in
    let text : List ℕ = c.args.proof.now.held in let after : Option ℕ = c.args.numbered.line.after in
    let asked : Ask = asks.Pin c.in-Pin.number c.in-Pin.path in
    subst (λ (ask : Ask). ShowsLine c.args.shared.now c.args.guest.now.proves (record { after = after; ask = ask }) c.pin.result text v w)
    (sym c.in-Pin.is)
    (unsought_shows c.args.shared.now [] c.args.guest.now.client.name c.args.numbered.number (record { after = after; ask = asked })
    c.args.guest.now.proves c.pin.result text v w (c.pin.ensures.answers [] (none_denies (wished asked))) (λ request is. is))

pub returns-in-Free-clause-shown : goal.returns-in-Free-clause-shown
returns-in-Free-clause-shown g c =
    let v : Sight = view c.args.guest.now.pass in let w : Sight = view c.free.new.pass in
    let text : List ℕ = c.args.proof.now.held in let after : Option ℕ = c.args.numbered.line.after in
    let asked : Ask = asks.Free c.in-Free.number c.in-Free.freed in
    subst (λ (ask : Ask). ShowsLine c.args.shared.now c.args.guest.now.proves (record { after = after; ask = ask }) c.free.result text v w)
    (sym c.in-Free.is)
    (unsought_shows c.args.shared.now [] c.args.guest.now.client.name c.args.numbered.number (record { after = after; ask = asked })
    c.args.guest.now.proves c.free.result text v w (c.free.ensures.answers [] (none_denies (wished asked))) (λ request is. is))

pub returns-in-Show-clause-shown : goal.returns-in-Show-clause-shown
returns-in-Show-clause-shown g c =
    let v : Sight = view c.args.guest.now.pass in let w : Sight = view c.show_entry.new.pass in
    let text : List ℕ = c.args.proof.now.held in let after : Option ℕ = c.args.numbered.line.after in
    let asked : Ask = asks.Show c.in-Show.at in
    subst (λ (ask : Ask). ShowsLine c.args.shared.now c.args.guest.now.proves (record { after = after; ask = ask }) c.show_entry.result text v w)
    (sym c.in-Show.is)
    (unsought_shows c.args.shared.now [] c.args.guest.now.client.name c.args.numbered.number (record { after = after; ask = asked })
    c.args.guest.now.proves c.show_entry.result text v w (c.show_entry.ensures.answers [] (none_denies (wished asked))) (λ request is. is))

pub returns-in-Front-clause-shown : goal.returns-in-Front-clause-shown
returns-in-Front-clause-shown g c =
    let v : Sight = view c.args.guest.now.pass in let w : Sight = view c.front.new.pass in
    let text : List ℕ = c.args.proof.now.held in let after : Option ℕ = c.args.numbered.line.after in
    let asked : Ask = asks.Front in
    subst (λ (ask : Ask). ShowsLine c.args.shared.now c.args.guest.now.proves (record { after = after; ask = ask }) c.front.result text v w)
    (sym c.in-Front.is)
    (unsought_shows c.args.shared.now [] c.args.guest.now.client.name c.args.numbered.number (record { after = after; ask = asked })
    c.args.guest.now.proves c.front.result text v w (c.front.ensures.answers [] (none_denies (wished asked))) (λ request is. is))

pub returns-in-Hold-clause-ready : goal.returns-in-Hold-clause-ready
returns-in-Hold-clause-ready g c = c.hold.ensures.ready

pub returns-in-Hold-clause-name : goal.returns-in-Hold-clause-name
returns-in-Hold-clause-name g c = refl

pub returns-in-Hold-clause-knows : goal.returns-in-Hold-clause-knows
returns-in-Hold-clause-knows g c = c.hold.ensures.knows

pub returns-in-Hold-clause-proves : goal.returns-in-Hold-clause-proves
returns-in-Hold-clause-proves g c = refl

pub returns-in-Hold-clause-held : goal.returns-in-Hold-clause-held
returns-in-Hold-clause-held g c = refl

pub returns-in-Hold-clause-answers : goal.returns-in-Hold-clause-answers
returns-in-Hold-clause-answers g c =
    subst (λ (ask : Ask). AnswersAllowed c.args.shared.now c.args.guest.now.client.name c.args.numbered.number
    (record { after = c.args.numbered.line.after; ask = ask }) c.hold.result (view c.args.guest.now.pass) (view c.hold.new.pass))
    (sym c.in-Hold.is) c.hold.ensures.answers

pub hold-requires-clause-ready : goal.hold-requires-clause-ready
hold-requires-clause-ready g c = c.requires.ready

pub hold-requires-clause-knows : goal.hold-requires-clause-knows
hold-requires-clause-knows g c = c.requires.knows

pub hold-requires-clause-name : goal.hold-requires-clause-name
hold-requires-clause-name g c = c.requires.name

pub hold-requires-clause-within : goal.hold-requires-clause-within
hold-requires-clause-within g c = subst (IsAskWithin (timetable_at c.args.shared.now.gate).net) c.in-Hold.is c.requires.within

pub returns-in-Pin-clause-ready : goal.returns-in-Pin-clause-ready
returns-in-Pin-clause-ready g c = c.pin.ensures.ready

pub returns-in-Pin-clause-name : goal.returns-in-Pin-clause-name
returns-in-Pin-clause-name g c = refl

pub returns-in-Pin-clause-knows : goal.returns-in-Pin-clause-knows
returns-in-Pin-clause-knows g c = c.pin.ensures.knows

pub returns-in-Pin-clause-proves : goal.returns-in-Pin-clause-proves
returns-in-Pin-clause-proves g c = refl

pub returns-in-Pin-clause-held : goal.returns-in-Pin-clause-held
returns-in-Pin-clause-held g c = refl

pub returns-in-Pin-clause-answers : goal.returns-in-Pin-clause-answers
returns-in-Pin-clause-answers g c =
    subst (λ (ask : Ask). AnswersAllowed c.args.shared.now c.args.guest.now.client.name c.args.numbered.number
    (record { after = c.args.numbered.line.after; ask = ask }) c.pin.result (view c.args.guest.now.pass) (view c.pin.new.pass))
    (sym c.in-Pin.is) c.pin.ensures.answers

pub pin-requires-clause-ready : goal.pin-requires-clause-ready
pin-requires-clause-ready g c = c.requires.ready

pub pin-requires-clause-knows : goal.pin-requires-clause-knows
pin-requires-clause-knows g c = c.requires.knows

pub pin-requires-clause-name : goal.pin-requires-clause-name
pin-requires-clause-name g c = c.requires.name

pub pin-requires-clause-within : goal.pin-requires-clause-within
pin-requires-clause-within g c = subst (IsAskWithin (timetable_at c.args.shared.now.gate).net) c.in-Pin.is c.requires.within

pub returns-in-Free-clause-ready : goal.returns-in-Free-clause-ready
returns-in-Free-clause-ready g c = c.free.ensures.ready

pub returns-in-Free-clause-name : goal.returns-in-Free-clause-name
returns-in-Free-clause-name g c = refl

pub returns-in-Free-clause-knows : goal.returns-in-Free-clause-knows
returns-in-Free-clause-knows g c = c.free.ensures.knows

pub returns-in-Free-clause-proves : goal.returns-in-Free-clause-proves
returns-in-Free-clause-proves g c = refl

pub returns-in-Free-clause-held : goal.returns-in-Free-clause-held
returns-in-Free-clause-held g c = refl

pub returns-in-Free-clause-answers : goal.returns-in-Free-clause-answers
returns-in-Free-clause-answers g c =
    subst (λ (ask : Ask). AnswersAllowed c.args.shared.now c.args.guest.now.client.name c.args.numbered.number
    (record { after = c.args.numbered.line.after; ask = ask }) c.free.result (view c.args.guest.now.pass) (view c.free.new.pass))
    (sym c.in-Free.is) c.free.ensures.answers

pub free-requires-clause-ready : goal.free-requires-clause-ready
free-requires-clause-ready g c = c.requires.ready

pub free-requires-clause-knows : goal.free-requires-clause-knows
free-requires-clause-knows g c = c.requires.knows

pub free-requires-clause-name : goal.free-requires-clause-name
free-requires-clause-name g c = c.requires.name

pub free-requires-clause-within : goal.free-requires-clause-within
free-requires-clause-within g c = subst (IsAskWithin (timetable_at c.args.shared.now.gate).net) c.in-Free.is c.requires.within

pub returns-in-Show-clause-ready : goal.returns-in-Show-clause-ready
returns-in-Show-clause-ready g c = c.show_entry.ensures.ready

pub returns-in-Show-clause-name : goal.returns-in-Show-clause-name
returns-in-Show-clause-name g c = c.show_entry.ensures.name

pub returns-in-Show-clause-knows : goal.returns-in-Show-clause-knows
returns-in-Show-clause-knows g c = c.show_entry.ensures.knows

pub returns-in-Show-clause-proves : goal.returns-in-Show-clause-proves
returns-in-Show-clause-proves g c = refl

pub returns-in-Show-clause-held : goal.returns-in-Show-clause-held
returns-in-Show-clause-held g c = refl

pub returns-in-Show-clause-answers : goal.returns-in-Show-clause-answers
returns-in-Show-clause-answers g c =
    subst (λ (ask : Ask). AnswersAllowed c.args.shared.now c.args.guest.now.client.name c.args.numbered.number
    (record { after = c.args.numbered.line.after; ask = ask }) c.show_entry.result (view c.args.guest.now.pass) (view c.show_entry.new.pass))
    (sym c.in-Show.is) c.show_entry.ensures.answers

pub show_entry-requires-clause-ready : goal.show_entry-requires-clause-ready
show_entry-requires-clause-ready g c = c.requires.ready

pub show_entry-requires-clause-knows : goal.show_entry-requires-clause-knows
show_entry-requires-clause-knows g c = c.requires.knows

pub show_entry-requires-clause-name : goal.show_entry-requires-clause-name
show_entry-requires-clause-name g c = c.requires.name

pub show_entry-requires-clause-within : goal.show_entry-requires-clause-within
show_entry-requires-clause-within g c = subst (IsAskWithin (timetable_at c.args.shared.now.gate).net) c.in-Show.is c.requires.within

pub returns-in-Front-clause-ready : goal.returns-in-Front-clause-ready
returns-in-Front-clause-ready g c = c.front.ensures.ready

pub returns-in-Front-clause-name : goal.returns-in-Front-clause-name
returns-in-Front-clause-name g c = c.front.ensures.name

pub returns-in-Front-clause-knows : goal.returns-in-Front-clause-knows
returns-in-Front-clause-knows g c = c.front.ensures.knows

pub returns-in-Front-clause-proves : goal.returns-in-Front-clause-proves
returns-in-Front-clause-proves g c = refl

pub returns-in-Front-clause-held : goal.returns-in-Front-clause-held
returns-in-Front-clause-held g c = refl

pub returns-in-Front-clause-answers : goal.returns-in-Front-clause-answers
returns-in-Front-clause-answers g c =
    subst (λ (ask : Ask). AnswersAllowed c.args.shared.now c.args.guest.now.client.name c.args.numbered.number
    (record { after = c.args.numbered.line.after; ask = ask }) c.front.result (view c.args.guest.now.pass) (view c.front.new.pass))
    (sym c.in-Front.is) c.front.ensures.answers

pub front-requires-clause-ready : goal.front-requires-clause-ready
front-requires-clause-ready g c = c.requires.ready

pub front-requires-clause-knows : goal.front-requires-clause-knows
front-requires-clause-knows g c = c.requires.knows

pub front-requires-clause-name : goal.front-requires-clause-name
front-requires-clause-name g c = c.requires.name

pub front-requires-clause-within : goal.front-requires-clause-within
front-requires-clause-within g c = subst (IsAskWithin (timetable_at c.args.shared.now.gate).net) c.in-Front.is c.requires.within

pub returns-in-Path-clause-ready : goal.returns-in-Path-clause-ready
returns-in-Path-clause-ready g c = c.ask.ensures.ready

pub returns-in-Path-clause-budget : goal.returns-in-Path-clause-budget
returns-in-Path-clause-budget g c = c.ask.ensures.budget

pub returns-in-Path-clause-name : goal.returns-in-Path-clause-name
returns-in-Path-clause-name g c = c.ask.ensures.name

pub returns-in-Path-clause-proves : goal.returns-in-Path-clause-proves
returns-in-Path-clause-proves g c = c.ask.ensures.proves

pub returns-in-Path-clause-knows : goal.returns-in-Path-clause-knows
returns-in-Path-clause-knows g c = c.ask.ensures.knows

pub returns-in-Path-clause-held : goal.returns-in-Path-clause-held
returns-in-Path-clause-held g c = c.ask.ensures.held

pub returns-in-Path-clause-room : goal.returns-in-Path-clause-room
returns-in-Path-clause-room g c = c.ask.ensures.room

pub returns-in-Path-clause-answers : goal.returns-in-Path-clause-answers
returns-in-Path-clause-answers g c =
    subst (λ (ask : Ask). AnswersAllowed c.args.shared.now c.args.guest.now.client.name c.args.numbered.number
    (record { after = c.args.numbered.line.after; ask = ask }) c.ask.result (view c.args.guest.now.pass) (view c.ask.new.guest.pass))
    (sym c.in-Path.is) c.ask.ensures.answers

pub returns-in-Path-clause-shown : goal.returns-in-Path-clause-shown
returns-in-Path-clause-shown g c =
    subst (λ (ask : Ask). ShowsLine c.args.shared.now c.args.guest.now.proves (record { after = c.args.numbered.line.after; ask = ask })
    c.ask.result c.ask.new.proof.held (view c.args.guest.now.pass) (view c.ask.new.guest.pass))
    (sym c.in-Path.is) c.ask.ensures.shown

pub ask-requires-clause-ready : goal.ask-requires-clause-ready
ask-requires-clause-ready g c = c.requires.ready

pub ask-requires-clause-budget : goal.ask-requires-clause-budget
ask-requires-clause-budget g c = c.requires.budget

pub ask-requires-clause-knows : goal.ask-requires-clause-knows
ask-requires-clause-knows g c = c.requires.knows

pub ask-requires-clause-name : goal.ask-requires-clause-name
ask-requires-clause-name g c = c.requires.name

pub ask-requires-clause-shared : goal.ask-requires-clause-shared
ask-requires-clause-shared g c = c.requires.shared

pub ask-requires-clause-spare : goal.ask-requires-clause-spare
ask-requires-clause-spare g c = c.requires.spare

pub ask-requires-clause-within : goal.ask-requires-clause-within
ask-requires-clause-within g c = subst (IsAskWithin (timetable_at c.args.shared.now.gate).net) c.in-Path.is c.requires.within

pub returns-in-Hold-clause-budget : goal.returns-in-Hold-clause-budget
returns-in-Hold-clause-budget g c = within_four (turns_left c.args.guest.now.pass) (turns_left c.hold.new.pass) c.hold.ensures.budget

pub returns-in-Pin-clause-budget : goal.returns-in-Pin-clause-budget
returns-in-Pin-clause-budget g c = within_four (turns_left c.args.guest.now.pass) (turns_left c.pin.new.pass) c.pin.ensures.budget

pub returns-in-Free-clause-budget : goal.returns-in-Free-clause-budget
returns-in-Free-clause-budget g c = within_four (turns_left c.args.guest.now.pass) (turns_left c.free.new.pass) c.free.ensures.budget

pub returns-in-Show-clause-budget : goal.returns-in-Show-clause-budget
returns-in-Show-clause-budget g c = within_four (turns_left c.args.guest.now.pass) (turns_left c.show_entry.new.pass) c.show_entry.ensures.budget

pub returns-in-Front-clause-budget : goal.returns-in-Front-clause-budget
returns-in-Front-clause-budget g c = within_four (turns_left c.args.guest.now.pass) (turns_left c.front.new.pass) c.front.ensures.budget
