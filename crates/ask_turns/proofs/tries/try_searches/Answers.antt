use Rattle.std.proofs.Common.{◌≡◌, ℕ, suc, ◌+◌, List, Some, None, ap, refl, sym, ◌∙◌, subst, arith}
use mathlib.Core.Logic.{inl, inr}
use Rattle.book_gate.specs.Passes.{turns_left, view}
use Rattle.path_labels.specs.Answers.{claims_held}
use Rattle.rail_types.specs.declared.entries.Entry.{Entry}
use Rattle.rail_types.specs.declared.tracks.Network.{Network}
use Rattle.rail_types.specs.Limits.{IsClientName}
use Rattle.rail_types.specs.Timetables.{Timetable}
use Rattle.ask_turns.specs.declared.client_turns.clients.Client.{Client}
use Rattle.ask_turns.specs.declared.client_turns.halts.Halt.{Halt}
use Rattle.ask_turns.specs.declared.client_turns.halts.Halt.TheVariants.{NoMemory}
use Rattle.ask_turns.specs.declared.client_turns.told.Tried.{Tried}
use Rattle.ask_turns.specs.Clients.{IsCopyOf}
use Rattle.ask_turns.specs.Turns.{HasEntered, HasTried, IsStopped, Sight, timetable_at}
use Rattle.ask_turns.specs.declared.asks.Ask.{Ask}
use Rattle.ask_turns.specs.declared.asks.Found.{Found}
use Rattle.ask_turns.specs.Finds.{HasRoom, IsFoundBeside, entry_for}
use Rattle.ask_turns.specs.Shown.{ShowsBeside}
use Rattle.ask_turns.specs.Tries.{HasStopped, HaveMissed}
use Rattle.ask_turns.proofs.Handed.{handed}
use Rattle.ask_turns.proofs.Known.{knows_copy}
use Rattle.ask_turns.proofs.Rounds.{further, one_left, three_at_end, three_less_one, three_more}
use Rattle.ask_turns.proofs.Searching.{beside_none, entered_of, found_earliest, in_range, judged, misses, none_fits}
use Rattle.ask_turns.proofs.Showing.{shown_at, shown_none}
use Rattle.ask_turns.proofs.tries.try_searches.Goals as goal

pub returns-in_default-clause-searched : goal.returns-in_default-clause-searched
returns-in_default-clause-searched g c =
    let now = c.loop-search.invariant in let timetable : Timetable = timetable_at c.args.shared.now.gate in
    let net = c.args.shared.now.known.railway.network in let settings = c.args.shared.now.settings in let ask : Ask = c.args.ask.now in
    let client : Client = c.loop-search.guest.client in let u : Sight = view c.loop-search.guest.pass in (
      record {
        count = c.loop-search.search;
        few = c.loop-search-test.true;
        at = c.loop-search.missed;
        front = c.loop-search.front;
        missed = now.missed;
      },
      none_fits timetable net settings c.requires.shared.network c.requires.shared.settings client u.seen now.copy ask
          (beside_none timetable net settings c.requires.shared.network c.requires.shared.settings client ask
          c.in_ok-found.found c.in_default.not-Some c.in_ok-found.ensures.found),
    )

pub try_entry-requires-clause-range : goal.try_entry-requires-clause-range
try_entry-requires-clause-range g c =
    let now = c.loop-search.invariant in let timetable : Timetable = timetable_at c.args.shared.now.gate in
    let net = c.args.shared.now.known.railway.network in let settings = c.args.shared.now.settings in let ask : Ask = c.args.ask.now in
    let client : Client = c.loop-search.guest.client in
    let found = subst (IsFoundBeside net settings client ask) c.in-Some.is c.in_ok-found.ensures.found in
    in_range timetable net settings c.requires.shared.network c.requires.shared.settings c.found_paths_are_short.ensures ask
    c.requires.may client.name (subst IsClientName (sym now.name) c.requires.name) (claims_held client.copy)
    c.in-Some.found found.0 found.1

pub returns-in-Entered-clause-searched : goal.returns-in-Entered-clause-searched
returns-in-Entered-clause-searched g c =
    let now = c.loop-search.invariant in let timetable : Timetable = timetable_at c.args.shared.now.gate in
    let net = c.args.shared.now.known.railway.network in let settings = c.args.shared.now.settings in let ask : Ask = c.args.ask.now in
    let client : Client = c.loop-search.guest.client in
    let u : Sight = view c.loop-search.guest.pass in let w : Sight = view c.try_entry.new.pass in
    let it : Found = c.in-Some.found in
    let found = subst (IsFoundBeside net settings client ask) c.in-Some.is c.in_ok-found.ensures.found in
    let told = subst (λ (t : Tried). HasTried timetable it.entry client.front t u w) c.in-Entered.is c.in_ok-tried.ensures.tried in (
      u,
      record {
        count = c.loop-search.search;
        few = c.loop-search-test.true;
        at = c.loop-search.missed;
        front = c.loop-search.front;
        missed = now.missed;
      },
      judged c.found_paths_are_judged.ensures timetable c.args.guest.now.client.name ask client u w found.0 now.name now.copy
          (c.copies_have_ticks.ensures timetable u.seen now.copy)
          (found_earliest timetable net settings c.requires.shared.network c.requires.shared.settings client u.seen now.copy ask found.0 found.1.earliest)
          it.entry found.1.entry_is
          (c.copies_have_ticks-in-loop-search.ensures timetable w.found.list c.in_ok-tried.ensures.copy)
          it.runs found.1.runs_are c.in-Entered.entered told,
    )

pub loop-search-preserved : goal.loop-search-preserved
loop-search-preserved g c =
    let now = c.loop-search.invariant in let timetable : Timetable = timetable_at c.args.shared.now.gate in
    let net = c.args.shared.now.known.railway.network in let settings = c.args.shared.now.settings in let ask : Ask = c.args.ask.now in
    let client : Client = c.loop-search.guest.client in let owner : List ℕ = c.args.guest.now.client.name in
    let v : Sight = view c.args.guest.now.pass in
    let u : Sight = view c.loop-search.guest.pass in let w : Sight = view c.try_entry.new.pass in
    let it : Found = c.in-Some.found in let at : ℕ = c.in-Missed.at in let searched : ℕ = c.front-searched.result in
    let found = subst (IsFoundBeside net settings client ask) c.in-Some.is c.in_ok-found.ensures.found in
    let told = subst (λ (t : Tried). HasTried timetable it.entry client.front t u w) c.in-Missed.is c.in_ok-tried.ensures.tried in
    let missed = misses c.found_paths_are_judged.ensures timetable owner ask client u w found.0 now.name now.copy
    (c.copies_have_ticks.ensures timetable u.seen now.copy)
    (found_earliest timetable net settings c.requires.shared.network c.requires.shared.settings client u.seen now.copy ask found.0 found.1.earliest)
    it.entry found.1.entry_is at told in
    let next : suc c.loop-search.search ≡ c.loop-search.search + 1 = omega arith in record {
      ready = c.in_ok-tried.ensures.ready;
      left = let was = now.left in let budget = c.in_ok-tried.ensures.budget in omega arith;
      name = c.in_ok-tried.ensures.name ∙ now.name;
      proves = now.proves;
      copy = subst (IsCopyOf timetable c.try_entry.new.client) (sym missed.looks.same) c.in_ok-tried.ensures.copy;
      missed = subst (λ n. HaveMissed timetable owner ask n at searched v w) next
          (u, c.loop-search.missed, c.loop-search.front, now.missed, c.front-searched.ensures ∙ now.copy.front, missed);
      held = c.in_ok-found.ensures.held ∙ now.held;
      spare = let was = now.spare in let more = c.in_ok-found.ensures.spare in omega arith;
    }

pub returns-clause-searched : goal.returns-clause-searched
returns-clause-searched g c =
    let now = c.loop-search.invariant in let timetable : Timetable = timetable_at c.args.shared.now.gate in
    let v : Sight = view c.args.guest.now.pass in let u : Sight = view c.loop-search.guest.pass in
    let end = c.loop-search.auto.search-end in let over = c.loop-search-test.false in
    let three : c.loop-search.search ≡ 3 = omega arith in
    subst (λ n. HaveMissed timetable c.args.guest.now.client.name c.args.ask.now n c.loop-search.missed c.loop-search.front v u)
    three now.missed

pub returns-in_default-clause-shown : goal.returns-in_default-clause-shown
returns-in_default-clause-shown g c proved =
    let now = c.loop-search.invariant in let timetable : Timetable = timetable_at c.args.shared.now.gate in
    let known = c.args.shared.now.known in let settings = c.args.shared.now.settings in let ask : Ask = c.args.ask.now in
    let client : Client = c.loop-search.guest.client in let u : Sight = view c.loop-search.guest.pass in
    let text : List ℕ = c.find_entry.new.proof.held in
    shown_at known timetable settings c.requires.shared.network c.requires.shared.settings client u.seen now.copy ask None text
    (shown_none known settings client ask text c.in_ok-found.found c.in_default.not-Some (c.in_ok-found.ensures.shown (now.proves ∙ proved)))

pub returns-in-Entered-clause-shown : goal.returns-in-Entered-clause-shown
returns-in-Entered-clause-shown g c proved =
    let now = c.loop-search.invariant in let timetable : Timetable = timetable_at c.args.shared.now.gate in
    let known = c.args.shared.now.known in let net = known.railway.network in
    let settings = c.args.shared.now.settings in let ask : Ask = c.args.ask.now in
    let client : Client = c.loop-search.guest.client in let entered = c.in-Entered.entered in
    let u : Sight = view c.loop-search.guest.pass in let w : Sight = view c.try_entry.new.pass in
    let it : Found = c.in-Some.found in let text : List ℕ = c.find_entry.new.proof.held in
    let shown = subst (ShowsBeside known settings client ask text) c.in-Some.is (c.in_ok-found.ensures.shown (now.proves ∙ proved)) in
    let told = subst (λ (t : Tried). HasTried timetable it.entry client.front t u w) c.in-Entered.is c.in_ok-tried.ensures.tried in (
      u,
      shown.0,
      record {
        count = c.loop-search.search;
        few = c.loop-search-test.true;
        at = c.loop-search.missed;
        front = c.loop-search.front;
        missed = now.missed;
      },
      sym shown.1.runs_are,
      subst (λ (e : Entry). HasEntered timetable e entered u w)
          (shown.1.entry_is ∙ ap (λ o. entry_for o ask shown.0) now.name)
          (entered_of timetable it.entry client.front u w entered told),
      (found_earliest timetable net settings c.requires.shared.network c.requires.shared.settings client u.seen now.copy ask shown.0 shown.1.earliest).granted,
      shown_at known timetable settings c.requires.shared.network c.requires.shared.settings client u.seen now.copy ask (Some shown.0) text shown.2,
    )

pub find_entry-requires-clause-sound : goal.find_entry-requires-clause-sound
find_entry-requires-clause-sound g c = c.requires.shared.known

pub find_entry-requires-clause-may : goal.find_entry-requires-clause-may
find_entry-requires-clause-may g c = c.requires.may

pub find_entry-requires-clause-zones : goal.find_entry-requires-clause-zones
find_entry-requires-clause-zones g c =
    c.loop-search.invariant.copy.zones ∙ ap (λ (net : Network). net.zones) (sym c.requires.shared.network)

pub try_entry-requires-clause-ready : goal.try_entry-requires-clause-ready
try_entry-requires-clause-ready g c = c.loop-search.invariant.ready

pub try_entry-requires-clause-budget : goal.try_entry-requires-clause-budget
try_entry-requires-clause-budget g c =
    one_left (turns_left c.args.guest.now.pass) (turns_left c.loop-search.guest.pass) c.loop-search.search
    c.requires.budget c.loop-search.invariant.left c.loop-search-test.true

pub try_entry-requires-clause-knows : goal.try_entry-requires-clause-knows
try_entry-requires-clause-knows g c =
    knows_copy (timetable_at c.args.shared.now.gate) c.loop-search.guest.client (view c.loop-search.guest.pass).seen c.loop-search.invariant.copy

pub returns-in_err-found-clause-ready : goal.returns-in_err-found-clause-ready
returns-in_err-found-clause-ready g c = c.loop-search.invariant.ready

pub returns-in_err-found-clause-budget : goal.returns-in_err-found-clause-budget
returns-in_err-found-clause-budget g c =
    three_more (turns_left c.args.guest.now.pass) (turns_left c.loop-search.guest.pass) c.loop-search.search
    c.loop-search.invariant.left c.loop-search-test.true

pub returns-in_err-found-clause-name : goal.returns-in_err-found-clause-name
returns-in_err-found-clause-name g c = c.loop-search.invariant.name

pub returns-in_err-found-clause-proves : goal.returns-in_err-found-clause-proves
returns-in_err-found-clause-proves g c = c.loop-search.invariant.proves

pub returns-in_err-found-clause-knows : goal.returns-in_err-found-clause-knows
returns-in_err-found-clause-knows g c =
    knows_copy (timetable_at c.args.shared.now.gate) c.loop-search.guest.client (view c.loop-search.guest.pass).seen c.loop-search.invariant.copy

pub returns-in_err-found-clause-held : goal.returns-in_err-found-clause-held
returns-in_err-found-clause-held g c = c.find_entry.ensures.held ∙ c.loop-search.invariant.held

pub returns-in_err-found-clause-spare : goal.returns-in_err-found-clause-spare
returns-in_err-found-clause-spare g c =
    further c.args.text.now.spare c.loop-search.text.spare c.find_entry.new.text.spare c.loop-search.invariant.spare c.find_entry.ensures.spare

pub returns-in_err-found-clause-stopped : goal.returns-in_err-found-clause-stopped
returns-in_err-found-clause-stopped g c =
    let timetable : Timetable = timetable_at c.args.shared.now.gate in let u : Sight = view c.loop-search.guest.pass in
    handed c.from_residual.result
    (λ (halt : Halt). HasStopped timetable c.args.guest.now.client.name c.args.ask.now halt (view c.args.guest.now.pass) u)
    NoMemory c.from_residual.ensures.1 (
      u,
      record {
        count = c.loop-search.search;
        few = c.loop-search-test.true;
        at = c.loop-search.missed;
        front = c.loop-search.front;
        missed = c.loop-search.invariant.missed;
      },
      inl (refl, refl),
    )

pub returns-in_default-clause-ready : goal.returns-in_default-clause-ready
returns-in_default-clause-ready g c = c.loop-search.invariant.ready

pub returns-in_default-clause-budget : goal.returns-in_default-clause-budget
returns-in_default-clause-budget g c =
    three_more (turns_left c.args.guest.now.pass) (turns_left c.loop-search.guest.pass) c.loop-search.search
    c.loop-search.invariant.left c.loop-search-test.true

pub returns-in_default-clause-name : goal.returns-in_default-clause-name
returns-in_default-clause-name g c = c.loop-search.invariant.name

pub returns-in_default-clause-proves : goal.returns-in_default-clause-proves
returns-in_default-clause-proves g c = c.loop-search.invariant.proves

pub returns-in_default-clause-knows : goal.returns-in_default-clause-knows
returns-in_default-clause-knows g c =
    knows_copy (timetable_at c.args.shared.now.gate) c.loop-search.guest.client (view c.loop-search.guest.pass).seen c.loop-search.invariant.copy

pub returns-in_default-clause-held : goal.returns-in_default-clause-held
returns-in_default-clause-held g c = c.find_entry.ensures.held ∙ c.loop-search.invariant.held

pub returns-in_default-clause-spare : goal.returns-in_default-clause-spare
returns-in_default-clause-spare g c =
    further c.args.text.now.spare c.loop-search.text.spare c.find_entry.new.text.spare c.loop-search.invariant.spare c.find_entry.ensures.spare

pub returns-in_default-clause-front : goal.returns-in_default-clause-front
returns-in_default-clause-front g c = c.loop-search.invariant.copy.front

pub returns-in_err-tried-clause-ready : goal.returns-in_err-tried-clause-ready
returns-in_err-tried-clause-ready g c = c.try_entry.ensures.ready

pub returns-in_err-tried-clause-budget : goal.returns-in_err-tried-clause-budget
returns-in_err-tried-clause-budget g c =
    three_less_one (turns_left c.args.guest.now.pass) (turns_left c.loop-search.guest.pass) (turns_left c.try_entry.new.pass)
    c.loop-search.search c.loop-search.invariant.left c.loop-search-test.true c.try_entry.ensures.budget

pub returns-in_err-tried-clause-name : goal.returns-in_err-tried-clause-name
returns-in_err-tried-clause-name g c = c.try_entry.ensures.name ∙ c.loop-search.invariant.name

pub returns-in_err-tried-clause-proves : goal.returns-in_err-tried-clause-proves
returns-in_err-tried-clause-proves g c = c.loop-search.invariant.proves

pub returns-in_err-tried-clause-knows : goal.returns-in_err-tried-clause-knows
returns-in_err-tried-clause-knows g c = c.try_entry.ensures.knows

pub returns-in_err-tried-clause-held : goal.returns-in_err-tried-clause-held
returns-in_err-tried-clause-held g c = c.find_entry.ensures.held ∙ c.loop-search.invariant.held

pub returns-in_err-tried-clause-spare : goal.returns-in_err-tried-clause-spare
returns-in_err-tried-clause-spare g c =
    further c.args.text.now.spare c.loop-search.text.spare c.find_entry.new.text.spare c.loop-search.invariant.spare c.find_entry.ensures.spare

pub returns-in_err-tried-clause-stopped : goal.returns-in_err-tried-clause-stopped
returns-in_err-tried-clause-stopped g c =
    let timetable : Timetable = timetable_at c.args.shared.now.gate in let ask : Ask = c.args.ask.now in
    let net = c.args.shared.now.known.railway.network in let settings = c.args.shared.now.settings in
    let u : Sight = view c.loop-search.guest.pass in let w : Sight = view c.try_entry.new.pass in
    let owner : List ℕ = c.args.guest.now.client.name in
    let found = subst (IsFoundBeside net settings c.loop-search.guest.client ask) c.in-Some.is c.in_ok-found.ensures.found in
    let halt : Halt = c.in_err-tried.field-0.0 in
    handed c.from_residual-in_err-tried.result
    (λ (halt : Halt). HasStopped timetable owner ask halt (view c.args.guest.now.pass) w)
    halt c.from_residual-in_err-tried.ensures.1 (
      u,
      record {
        count = c.loop-search.search;
        few = c.loop-search-test.true;
        at = c.loop-search.missed;
        front = c.loop-search.front;
        missed = c.loop-search.invariant.missed;
      },
      inr (
        found.0,
        subst (λ (e : Entry). IsStopped timetable e halt None u w)
            (found.1.entry_is ∙ ap (λ o. entry_for o ask found.0) c.loop-search.invariant.name)
            c.in_err-tried.ensures.stopped,
      ),
    )

pub returns-in-Entered-clause-ready : goal.returns-in-Entered-clause-ready
returns-in-Entered-clause-ready g c = c.try_entry.ensures.ready

pub returns-in-Entered-clause-budget : goal.returns-in-Entered-clause-budget
returns-in-Entered-clause-budget g c =
    three_less_one (turns_left c.args.guest.now.pass) (turns_left c.loop-search.guest.pass) (turns_left c.try_entry.new.pass)
    c.loop-search.search c.loop-search.invariant.left c.loop-search-test.true c.try_entry.ensures.budget

pub returns-in-Entered-clause-name : goal.returns-in-Entered-clause-name
returns-in-Entered-clause-name g c = c.try_entry.ensures.name ∙ c.loop-search.invariant.name

pub returns-in-Entered-clause-proves : goal.returns-in-Entered-clause-proves
returns-in-Entered-clause-proves g c = c.loop-search.invariant.proves

pub returns-in-Entered-clause-knows : goal.returns-in-Entered-clause-knows
returns-in-Entered-clause-knows g c = c.try_entry.ensures.knows

pub returns-in-Entered-clause-held : goal.returns-in-Entered-clause-held
returns-in-Entered-clause-held g c = c.find_entry.ensures.held ∙ c.loop-search.invariant.held

pub returns-in-Entered-clause-spare : goal.returns-in-Entered-clause-spare
returns-in-Entered-clause-spare g c =
    further c.args.text.now.spare c.loop-search.text.spare c.find_entry.new.text.spare c.loop-search.invariant.spare c.find_entry.ensures.spare

pub returns-in-Entered-clause-front : goal.returns-in-Entered-clause-front
returns-in-Entered-clause-front g c = c.in_ok-tried.ensures.copy.front

pub returns-in-Entered-clause-room : goal.returns-in-Entered-clause-room
returns-in-Entered-clause-room g c = subst (HasRoom c.find_entry.new.text) c.in-Some.is c.in_ok-found.ensures.room

pub returns-clause-ready : goal.returns-clause-ready
returns-clause-ready g c = c.loop-search.invariant.ready

pub returns-clause-budget : goal.returns-clause-budget
returns-clause-budget g c =
    three_at_end (turns_left c.args.guest.now.pass) (turns_left c.loop-search.guest.pass) c.loop-search.search
    c.loop-search.invariant.left c.loop-search.auto.search-end

pub returns-clause-name : goal.returns-clause-name
returns-clause-name g c = c.loop-search.invariant.name

pub returns-clause-proves : goal.returns-clause-proves
returns-clause-proves g c = c.loop-search.invariant.proves

pub returns-clause-knows : goal.returns-clause-knows
returns-clause-knows g c =
    knows_copy (timetable_at c.args.shared.now.gate) c.loop-search.guest.client (view c.loop-search.guest.pass).seen c.loop-search.invariant.copy

pub returns-clause-front : goal.returns-clause-front
returns-clause-front g c = c.loop-search.invariant.copy.front

pub returns-clause-held : goal.returns-clause-held
returns-clause-held g c = c.loop-search.invariant.held

pub returns-clause-spare : goal.returns-clause-spare
returns-clause-spare g c = c.loop-search.invariant.spare
