use Rattle.std.proofs.Common.{List, ap, length, refl, subst, sym, ℕ, ◌∙◌}
use Rattle.book_gate.specs.Passes.{view}
use Rattle.rail_types.specs.declared.entries.Entry.{Entry}
use Rattle.rail_types.specs.Limits.{IsClientName}
use Rattle.ask_turns.specs.tails.Listed.{Refuses}
use Rattle.ask_turns.specs.Turns.{Sight, timetable_at}
use Rattle.line_answers.specs.Answers.{Caller}
use Rattle.line_answers.specs.Asked.{AnswersBehind}
use Rattle.line_answers.specs.Callers.{caller_of}
use Rattle.line_answers.proofs.Calls.{starts_refl}
use Rattle.line_answers.proofs.Sought.{want_line, wide_line}
use mathlib.Core.Logic.{inr}
use Rattle.line_answers.proofs.asks.seek_path.Goals as goal

-- ---- what guides the search

pub guide_of-requires-clause-request : goal.guide_of-requires-clause-request
guide_of-requires-clause-request g c = c.requires.within.1

pub guide_of-requires-clause-copy : goal.guide_of-requires-clause-copy
guide_of-requires-clause-copy g c = ((view c.args.guest.now.pass).seen, c.requires.copy)

pub search_along-reply-requires-clause-copy : goal.search_along-reply-requires-clause-copy
search_along-reply-requires-clause-copy g c = c.guide_of.ensures.copy (view c.args.guest.now.pass).seen c.requires.copy

pub search_along-reply-requires-clause-name : goal.search_along-reply-requires-clause-name
search_along-reply-requires-clause-name g c = subst IsClientName (sym c.guide_of.ensures.name) c.requires.name

pub search_along-reply-requires-clause-guide : goal.search_along-reply-requires-clause-guide
search_along-reply-requires-clause-guide g c = c.in-Ok.ensures.guide

-- ---- too many places, or no memory for them

pub returns-in-Err-Wide-clause-knows : goal.returns-in-Err-Wide-clause-knows
returns-in-Err-Wide-clause-knows g c =
    let seen : List Entry = (view c.args.guest.now.pass).seen in
    (seen, starts_refl seen, c.guide_of.ensures.copy seen c.requires.copy)

pub returns-in-Err-Wide-clause-answers : goal.returns-in-Err-Wide-clause-answers
returns-in-Err-Wide-clause-answers g c v after looks reached is_new rules allowed =
    let caller : Caller = caller_of c.args.shared.now rules c.args.guest.now.client.name c.args.sent.line in
    let u : Sight = view c.args.guest.now.pass in
    let refuses = subst (Refuses caller.timetable.net c.args.request) c.in-Err-Wide.field-0-is c.in-Err-Wide.ensures.wide in
    wide_line caller c.args.sent.number c.args.request after v u looks reached is_new (λ may. allowed) c.front.result
    (c.front.ensures ∙ c.guide_of.ensures.front ∙ c.requires.copy.front ∙ ap length looks.same) refuses.1

pub returns-in-Err-Wide-clause-shown : goal.returns-in-Err-Wide-clause-shown
returns-in-Err-Wide-clause-shown g c v after looks reached bytes read wanted = tt

pub returns-in-Err-Memory-clause-knows : goal.returns-in-Err-Memory-clause-knows
returns-in-Err-Memory-clause-knows g c =
    let seen : List Entry = (view c.args.guest.now.pass).seen in
    (seen, starts_refl seen, c.guide_of.ensures.copy seen c.requires.copy)

pub returns-in-Err-Memory-clause-answers : goal.returns-in-Err-Memory-clause-answers
returns-in-Err-Memory-clause-answers g c v after looks reached is_new rules allowed =
    let caller : Caller = caller_of c.args.shared.now rules c.args.guest.now.client.name c.args.sent.line in
    want_line caller c.args.sent.number c.args.request after v (view c.args.guest.now.pass) looks reached is_new (λ may. allowed)

pub returns-in-Err-Memory-clause-shown : goal.returns-in-Err-Memory-clause-shown
returns-in-Err-Memory-clause-shown g c v after looks reached bytes read wanted = tt

-- ---- searched

pub returns-clause-knows : goal.returns-clause-knows
returns-clause-knows g c =
    let knows = c.search_along-reply.ensures.knows in (
      knows.0,
      knows.1,
      c.keep_guide.ensures.copy (timetable_at c.args.shared.now.gate) knows.0 c.in-Ok.ensures.guide knows.2,
    )

pub returns-clause-answers : goal.returns-clause-answers
returns-clause-answers g c =
    let u : Sight = view c.args.guest.now.pass in let w : Sight = view c.search_along-reply.new.guest.pass in
    subst (λ (name : List ℕ). AnswersBehind c.args.shared.now name c.args.sent.line c.args.sent.number c.args.request
    c.search_along-reply.result u w) c.guide_of.ensures.name c.search_along-reply.ensures.answers

pub returns-clause-ready : goal.returns-clause-ready
returns-clause-ready g c = c.search_along-reply.ensures.ready

pub returns-clause-budget : goal.returns-clause-budget
returns-clause-budget g c = c.search_along-reply.ensures.budget

pub returns-clause-proves : goal.returns-clause-proves
returns-clause-proves g c = c.search_along-reply.ensures.proves

pub returns-clause-held : goal.returns-clause-held
returns-clause-held g c = c.search_along-reply.ensures.held

pub returns-clause-room : goal.returns-clause-room
returns-clause-room g c = c.search_along-reply.ensures.room

pub returns-clause-shown : goal.returns-clause-shown
returns-clause-shown g c = c.search_along-reply.ensures.shown

pub returns-in-Err-Wide-clause-ready : goal.returns-in-Err-Wide-clause-ready
returns-in-Err-Wide-clause-ready g c = c.requires.ready

pub returns-in-Err-Wide-clause-name : goal.returns-in-Err-Wide-clause-name
returns-in-Err-Wide-clause-name g c = c.guide_of.ensures.name

pub returns-in-Err-Wide-clause-proves : goal.returns-in-Err-Wide-clause-proves
returns-in-Err-Wide-clause-proves g c = refl

pub returns-in-Err-Wide-clause-held : goal.returns-in-Err-Wide-clause-held
returns-in-Err-Wide-clause-held g c = refl

pub returns-in-Err-Wide-clause-room : goal.returns-in-Err-Wide-clause-room
returns-in-Err-Wide-clause-room g c = inr tt

pub returns-in-Err-Memory-clause-ready : goal.returns-in-Err-Memory-clause-ready
returns-in-Err-Memory-clause-ready g c = c.requires.ready

pub returns-in-Err-Memory-clause-name : goal.returns-in-Err-Memory-clause-name
returns-in-Err-Memory-clause-name g c = c.guide_of.ensures.name

pub returns-in-Err-Memory-clause-proves : goal.returns-in-Err-Memory-clause-proves
returns-in-Err-Memory-clause-proves g c = refl

pub returns-in-Err-Memory-clause-held : goal.returns-in-Err-Memory-clause-held
returns-in-Err-Memory-clause-held g c = refl

pub returns-in-Err-Memory-clause-room : goal.returns-in-Err-Memory-clause-room
returns-in-Err-Memory-clause-room g c = inr tt

pub guide_of-requires-clause-shared : goal.guide_of-requires-clause-shared
guide_of-requires-clause-shared g c = c.requires.shared

pub search_along-reply-requires-clause-ready : goal.search_along-reply-requires-clause-ready
search_along-reply-requires-clause-ready g c = c.requires.ready

pub search_along-reply-requires-clause-budget : goal.search_along-reply-requires-clause-budget
search_along-reply-requires-clause-budget g c = c.requires.budget

pub search_along-reply-requires-clause-shared : goal.search_along-reply-requires-clause-shared
search_along-reply-requires-clause-shared g c = c.requires.shared

pub search_along-reply-requires-clause-within : goal.search_along-reply-requires-clause-within
search_along-reply-requires-clause-within g c = c.requires.within

pub search_along-reply-requires-clause-spare : goal.search_along-reply-requires-clause-spare
search_along-reply-requires-clause-spare g c = c.requires.spare
