use Rattle.std.proofs.Common.{◌⊎◌, ℕ, List, sym, subst, refl, arith}
use Rattle.book_gate.specs.Passes.{view}
use Rattle.ask_turns.specs.history.Legal.{IsWantedOn}
use Rattle.ask_turns.specs.labels.Guides.{IsGuide}
use Rattle.rail_types.specs.declared.entries.Wanted.TheVariants.{Asked}
use Rattle.rail_types.specs.declared.tracks.Network.{Network}
use Rattle.rail_types.specs.Timetables.{Timetable}
use Rattle.client_lines.specs.declared.reply_texts.replies.Reply.{Reply}
use Rattle.ask_turns.specs.declared.asks.Ask.{Ask}
use Rattle.ask_turns.specs.Turns.{Sight, timetable_at}
use Rattle.ask_turns.specs.Tries.{IsTheFront}
use Rattle.line_answers.specs.Answers.{Caller}
use Rattle.line_answers.specs.Asked.{HasRoomIn, asking}
use Rattle.line_answers.specs.Callers.{AnswersLine, caller_of}
use Rattle.line_answers.specs.Proved.{ProvedOr}
use Rattle.line_answers.specs.Tells.{AddsNothing}
use Rattle.line_answers.proofs.Rooms.{halt_room}
use Rattle.line_answers.proofs.Sought.{asked_line, halted_ask}
use Rattle.line_answers.proofs.Timetabled.{from_timetable}
use Rattle.line_answers.proofs.Proved.{ask_shows, shows_halt}
use Rattle.line_answers.proofs.asks.search_along.Goals as goal

pub try_searches-requires-clause-may : goal.try_searches-requires-clause-may
try_searches-requires-clause-may g c =
    let ask : Ask = c.args.ask.now in
    let points = c.requires.within.2 in record {
      number = c.requires.within.0;
      request = c.requires.within.1;
      points = subst (λ (net : Network). IsWantedOn net (Asked ask.request)) (sym c.requires.shared.network)
          (points.origin, points.destination, points.stops);
      sound = c.requires.shared.known.named.sound;
      timetable = c.requires.shared.within;
      guide = from_timetable (λ net settings. IsGuide net settings ask.request ask.guide) (timetable_at c.args.shared.now.gate)
          c.args.shared.now.known.railway.network c.args.shared.now.settings c.requires.shared.network c.requires.shared.settings
          c.requires.guide;
    }

pub returns-in-Ok-clause-answers : goal.returns-in-Ok-clause-answers
returns-in-Ok-clause-answers g c v after looks reached is_new rules allowed =
    let caller : Caller = caller_of c.args.shared.now rules c.args.guest.now.client.name c.args.ask.now.line in
    let ask : Ask = c.args.ask.now in
    let u : Sight = view c.args.guest.now.pass in let w : Sight = view c.try_searches.new.guest.pass in
    let told = c.in-Ok.outcome in
    let narrow = c.guides_are_narrow.ensures caller.timetable.net caller.timetable.settings ask.request ask.guide c.requires.within.1 c.requires.guide in
    asked_line caller ask.number ask.request after v u looks reached is_new (λ may. allowed) narrow
    ask.guide w told c.front.result c.ask_told.result
    (subst (λ n. IsTheFront told n w) (sym c.front.ensures) c.in-Ok.ensures.front)
    c.in-Ok.ensures.searched c.ask_told.ensures.tells

pub returns-in-Ok-clause-room : goal.returns-in-Ok-clause-room
returns-in-Ok-clause-room g c =
    c.ask_told.ensures.room c.try_searches.new.text c.in-Ok.ensures.room
    (let was = c.requires.spare in let more = c.in-Ok.ensures.spare in omega arith)

pub returns-in-Ok-clause-shown : goal.returns-in-Ok-clause-shown
returns-in-Ok-clause-shown g c v after looks reached bytes read wanted =
    let ask : Ask = c.args.ask.now in
    let u : Sight = view c.args.guest.now.pass in let w : Sight = view c.try_searches.new.guest.pass in
    let told = c.in-Ok.outcome in
    ask_shows c.asks_can_be_told.ensures c.args.shared.now.known (timetable_at c.args.shared.now.gate) c.args.guest.now.client.name ask
    bytes (asking after ask.number ask.request) read.spells refl v u w looks reached c.try_searches.new.proof.held
    told c.front.result c.ask_told.result
    (subst (λ n. IsTheFront told n w) (sym c.front.ensures) c.in-Ok.ensures.front)
    c.in-Ok.ensures.searched (c.in-Ok.ensures.shown wanted) c.ask_told.ensures.tells

pub returns-in-Err-clause-answers : goal.returns-in-Err-clause-answers
returns-in-Err-clause-answers g c v after looks reached is_new rules allowed =
    let caller : Caller = caller_of c.args.shared.now rules c.args.guest.now.client.name c.args.ask.now.line in
    let ask : Ask = c.args.ask.now in
    let u : Sight = view c.args.guest.now.pass in let w : Sight = view c.try_searches.new.guest.pass in
    let narrow = c.guides_are_narrow.ensures caller.timetable.net caller.timetable.settings ask.request ask.guide c.requires.within.1 c.requires.guide in
    subst (λ (r : Reply). AnswersLine caller (asking after ask.number ask.request) r v w) (sym c.halted.ensures)
    (halted_ask caller ask.number ask.request after v u looks reached is_new (λ may. allowed) narrow
    ask.guide w c.in-Err.halt c.in-Err.ensures.stopped)

pub returns-in-Err-clause-room : goal.returns-in-Err-clause-room
returns-in-Err-clause-room g c =
    subst (λ (r : Reply). HasRoomIn c.try_searches.new.text r ⊎ AddsNothing r) (sym c.halted.ensures)
    (halt_room c.try_searches.new.text c.in-Err.halt
    (let was = c.requires.spare in let more = c.in-Err.ensures.spare in omega arith))

pub returns-in-Err-clause-shown : goal.returns-in-Err-clause-shown
returns-in-Err-clause-shown g c v after looks reached bytes read wanted =
    let w : Sight = view c.try_searches.new.guest.pass in
    let timetable : Timetable = timetable_at c.args.shared.now.gate in
    let text : List ℕ = c.try_searches.new.proof.held in
    subst (λ (r : Reply). ProvedOr (Unit {0}) c.args.shared.now.known timetable bytes r text v w) (sym c.halted.ensures)
    (shows_halt c.args.shared.now.known timetable bytes c.in-Err.halt text v w)

pub returns-in-Ok-clause-ready : goal.returns-in-Ok-clause-ready
returns-in-Ok-clause-ready g c = c.try_searches.ensures.ready

pub returns-in-Ok-clause-budget : goal.returns-in-Ok-clause-budget
returns-in-Ok-clause-budget g c = c.try_searches.ensures.budget

pub returns-in-Ok-clause-name : goal.returns-in-Ok-clause-name
returns-in-Ok-clause-name g c = c.try_searches.ensures.name

pub returns-in-Ok-clause-proves : goal.returns-in-Ok-clause-proves
returns-in-Ok-clause-proves g c = c.try_searches.ensures.proves

pub returns-in-Ok-clause-knows : goal.returns-in-Ok-clause-knows
returns-in-Ok-clause-knows g c = c.try_searches.ensures.knows

pub returns-in-Ok-clause-held : goal.returns-in-Ok-clause-held
returns-in-Ok-clause-held g c = c.try_searches.ensures.held

pub returns-in-Err-clause-ready : goal.returns-in-Err-clause-ready
returns-in-Err-clause-ready g c = c.try_searches.ensures.ready

pub returns-in-Err-clause-budget : goal.returns-in-Err-clause-budget
returns-in-Err-clause-budget g c = c.try_searches.ensures.budget

pub returns-in-Err-clause-name : goal.returns-in-Err-clause-name
returns-in-Err-clause-name g c = c.try_searches.ensures.name

pub returns-in-Err-clause-proves : goal.returns-in-Err-clause-proves
returns-in-Err-clause-proves g c = c.try_searches.ensures.proves

pub returns-in-Err-clause-knows : goal.returns-in-Err-clause-knows
returns-in-Err-clause-knows g c = c.try_searches.ensures.knows

pub returns-in-Err-clause-held : goal.returns-in-Err-clause-held
returns-in-Err-clause-held g c = c.try_searches.ensures.held

pub try_searches-requires-clause-ready : goal.try_searches-requires-clause-ready
try_searches-requires-clause-ready g c = c.requires.ready

pub try_searches-requires-clause-budget : goal.try_searches-requires-clause-budget
try_searches-requires-clause-budget g c = c.requires.budget

pub try_searches-requires-clause-copy : goal.try_searches-requires-clause-copy
try_searches-requires-clause-copy g c = c.requires.copy

pub try_searches-requires-clause-name : goal.try_searches-requires-clause-name
try_searches-requires-clause-name g c = c.requires.name

pub try_searches-requires-clause-shared : goal.try_searches-requires-clause-shared
try_searches-requires-clause-shared g c = c.requires.shared
