-- What texts show beside replies.
use Rattle.std.proofs.Common.{◌≡◌, ℕ, zero, suc, ◌+◌, ◌≤◌, Bool, true, false, List, [], ◌∷◌, ◌++◌}
use Rattle.std.proofs.Common.{length, Option, Some, None, ap, sym, ◌∙◌, subst, refl, arith}
use Rattle.std.proofs.Common.{append_assoc, length-append}
use Rattle.book_gate.specs.declared.views.Turn.{Turn}
use Rattle.book_gate.specs.Views.{StartsWith, turn}
use Rattle.client_lines.specs.Cuts.{fields_of}
use Rattle.client_lines.specs.Forms.{Spells}
use Rattle.client_lines.specs.Lines.{a_line}
use Rattle.client_lines.specs.Names.{Names}
use Rattle.client_lines.specs.declared.asks.Ask.TheVariants as asks
use Rattle.client_lines.specs.declared.asks.Line.{Line}
use Rattle.client_lines.specs.declared.faults.LineFault.{LineFault}
use Rattle.client_lines.specs.declared.faults.LineFault.TheVariants as fault
use Rattle.admission_rules.specs.Ruled.{Ruled}
use Rattle.ask_turns.specs.history.declared.verdicts.Verdict.TheVariants as verdict
use Rattle.proof_texts.specs.Read.{AsksCanBeTold}
use Rattle.rail_types.specs.declared.entries.Entry.{Entry}
use Rattle.rail_types.specs.declared.paths.Path.{Path}
use Rattle.rail_types.specs.declared.paths.Run.{Run}
use Rattle.rail_types.specs.declared.trains.Request.{Request}
use Rattle.rail_types.specs.Timetables.{Timetable}
use Rattle.client_lines.specs.declared.reply_texts.replies.Reply.{Reply}
use Rattle.client_lines.specs.declared.reply_texts.replies.Reply.TheVariants as reply
use Rattle.admission_rules.specs.declared.rule_names.RuleName.{RuleName}
use Rattle.ask_turns.specs.declared.client_turns.halts.Halt.{Halt}
use Rattle.ask_turns.specs.declared.client_turns.halts.Halt.TheVariants as halt
use Rattle.ask_turns.specs.declared.client_turns.told.Entered.{Entered as Became}
use Rattle.ask_turns.specs.declared.client_turns.told.Entered.TheVariants as became
use Rattle.ask_turns.specs.declared.client_turns.told.Refusal.{Refusal}
use Rattle.ask_turns.specs.declared.client_turns.told.Refusal.TheVariants as refusal
use Rattle.ask_turns.specs.Turns.{Looks, Sight, TakesTurn}
use Rattle.ask_turns.specs.declared.asks.Ask.{Ask}
use Rattle.ask_turns.specs.declared.asks.Outcome.{Outcome}
use Rattle.ask_turns.specs.declared.asks.Outcome.TheVariants as outcome
use Rattle.ask_turns.specs.Shown.{IsShownAt, Shows}
use Rattle.ask_turns.specs.Tries.{HasSearched, HaveMissed, IsTheFront}
use Rattle.line_answers.specs.Answers.{Caller, GivesLine, IsReached, IsSearched, IsSought}
use Rattle.line_answers.specs.Answers.{MayBeDenied}
use Rattle.line_answers.specs.Asked.{TellsAsk}
use Rattle.line_answers.specs.Callers.{AnswersLine, caller_of}
use Rattle.line_answers.specs.Proved.{FitsIf, FoundBeforeLast, IsProofFor, IsProved}
use Rattle.line_answers.specs.Proved.{IsProvedBetween, ProvedOr, ShowsLine, kept_text}
use Rattle.line_answers.specs.Rules.{IsReadAs, denial}
use Rattle.line_answers.specs.Tells.{TellsAgain, fault_reply, halt_reply}
use Rattle.ask_turns.specs.declared.shared.Shared.{Shared}
use Rattle.line_answers.proofs.Calls.{starts_refl}
use Rattle.line_answers.proofs.Many.{missed_on, starts_trans}
use Rattle.line_answers.proofs.Told.{its_line, no_name}

-- a beginning is no longer
no_longer : (long short : List Entry) → StartsWith long short → length short ≤ length long
no_longer long short more =
    let sum : length long ≡ length short + length more.0 = ap length more.1 ∙ length-append short more.0 in omega arith

-- so many entries as had been seen at least stand in what was searched since
least_searched : (least : ℕ) (searched seen : List Entry) → least ≤ length seen → StartsWith searched seen
    → least ≤ length searched
least_searched least searched seen less since = let longer = no_longer searched seen since in omega arith

module _ (known : Names) (timetable : Timetable) (bytes : List ℕ) where
  -- what is proved in a call is proved by the history that it left
  pub is_proved : (told : Reply) (text : List ℕ) (least : ℕ) (v w : Sight) → least ≤ length v.seen
      → IsProvedBetween known timetable true bytes told text v w
      → IsProved known timetable bytes told text least w.seen
  is_proved (reply.Held number at front) text least v w less proved = proved
  is_proved (reply.Pinned number at front) text least v w less proved = proved
  is_proved (reply.Granted number at front runs) text least v w less proved = (proved.0, proved.1, proved.2, proved.3.within, least_searched least proved.1 v.seen less proved.3.since, proved.4, proved.6)
  is_proved (reply.Freed number at freed front) text least v w less proved = proved
  is_proved (reply.Kept number at front deed) text least v w less proved = proved
  is_proved (reply.Shown at front entry freer) text least v w less proved = proved
  is_proved (reply.Front front) text least v w less proved = proved
  is_proved (reply.Bad field) text least v w less proved = proved
  is_proved (reply.Denied number rule front) text least v w less proved = proved
  is_proved (reply.Ahead named front) text least v w less proved = proved
  is_proved (reply.Other number at front) text least v w less proved = proved
  is_proved (reply.Gone number at freer front) text least v w less proved = proved
  is_proved (reply.Taken number zone owner front) text least v w less proved = proved
  is_proved (reply.Breaks number run rule front) text least v w less proved = proved
  is_proved (reply.NoPath number front) text least v w less proved = (proved.0, proved.1.within, least_searched least proved.0 v.seen less proved.1.since, proved.2, proved.3)
  is_proved (reply.Again number at searched front) text least v w less proved = proved
  is_proved (reply.Unknown at front) text least v w less proved = proved
  is_proved (reply.NotYours number at owner front) text least v w less proved = proved
  is_proved (reply.AlreadyFreed number at freer front) text least v w less proved = proved
  is_proved (reply.Wide number front) text least v w less proved = proved
  is_proved (reply.Full number front) text least v w less proved = proved
  is_proved (reply.Unsettled number at front) text least v w less proved = proved
  is_proved reply.DiskFault text least v w less proved = proved
  is_proved reply.NoMemory text least v w less proved = proved

  -- and by any that goes on from it
  pub proved_longer : (told : Reply) (text : List ℕ) (least : ℕ) (long short : List Entry)
      → StartsWith long short → IsProved known timetable bytes told text least short
      → IsProved known timetable bytes told text least long
  proved_longer (reply.Held number at front) text least long short more proved = proved
  proved_longer (reply.Pinned number at front) text least long short more proved = proved
  proved_longer (reply.Granted number at front runs) text least long short more proved = (proved.0, proved.1, proved.2, starts_trans long short proved.1 more proved.3, proved.4, proved.5, proved.6)
  proved_longer (reply.Freed number at freed front) text least long short more proved = proved
  proved_longer (reply.Kept number at front deed) text least long short more proved = proved
  proved_longer (reply.Shown at front entry freer) text least long short more proved = proved
  proved_longer (reply.Front front) text least long short more proved = proved
  proved_longer (reply.Bad field) text least long short more proved = proved
  proved_longer (reply.Denied number rule front) text least long short more proved = proved
  proved_longer (reply.Ahead named front) text least long short more proved = proved
  proved_longer (reply.Other number at front) text least long short more proved = proved
  proved_longer (reply.Gone number at freer front) text least long short more proved = proved
  proved_longer (reply.Taken number zone owner front) text least long short more proved = proved
  proved_longer (reply.Breaks number run rule front) text least long short more proved = proved
  proved_longer (reply.NoPath number front) text least long short more proved = (proved.0, starts_trans long short proved.0 more proved.1, proved.2, proved.3, proved.4)
  proved_longer (reply.Again number at searched front) text least long short more proved = proved
  proved_longer (reply.Unknown at front) text least long short more proved = proved
  proved_longer (reply.NotYours number at owner front) text least long short more proved = proved
  proved_longer (reply.AlreadyFreed number at freer front) text least long short more proved = proved
  proved_longer (reply.Wide number front) text least long short more proved = proved
  proved_longer (reply.Full number front) text least long short more proved = proved
  proved_longer (reply.Unsettled number at front) text least long short more proved = proved
  proved_longer reply.DiskFault text least long short more proved = proved
  proved_longer reply.NoMemory text least long short more proved = proved

  -- no text stands beside want of memory
  pub want_proved : (proves : Bool) (v w : Sight)
      → IsProvedBetween known timetable proves bytes reply.NoMemory [] v w
  want_proved false v w = refl
  want_proved true v w = refl

  -- what is kept of a text shows as much as the text
  kept_shows : (told : Reply) (text : List ℕ) (v w : Sight)
      → ProvedOr (Unit {0}) known timetable bytes told text v w
      → ProvedOr (kept_text true told text ≡ []) known timetable bytes told (kept_text true told text) v w
  kept_shows (reply.Held number at front) text v w shows = refl
  kept_shows (reply.Pinned number at front) text v w shows = refl
  kept_shows (reply.Granted number at front runs) text v w shows = shows
  kept_shows (reply.Freed number at freed front) text v w shows = refl
  kept_shows (reply.Kept number at front deed) text v w shows = refl
  kept_shows (reply.Shown at front entry freer) text v w shows = refl
  kept_shows (reply.Front front) text v w shows = refl
  kept_shows (reply.Bad field) text v w shows = refl
  kept_shows (reply.Denied number rule front) text v w shows = refl
  kept_shows (reply.Ahead named front) text v w shows = refl
  kept_shows (reply.Other number at front) text v w shows = refl
  kept_shows (reply.Gone number at freer front) text v w shows = refl
  kept_shows (reply.Taken number zone owner front) text v w shows = refl
  kept_shows (reply.Breaks number run rule front) text v w shows = refl
  kept_shows (reply.NoPath number front) text v w shows = shows
  kept_shows (reply.Again number at searched front) text v w shows = refl
  kept_shows (reply.Unknown at front) text v w shows = refl
  kept_shows (reply.NotYours number at owner front) text v w shows = refl
  kept_shows (reply.AlreadyFreed number at freer front) text v w shows = refl
  kept_shows (reply.Wide number front) text v w shows = refl
  kept_shows (reply.Full number front) text v w shows = refl
  kept_shows (reply.Unsettled number at front) text v w shows = refl
  kept_shows reply.DiskFault text v w shows = refl
  kept_shows reply.NoMemory text v w shows = refl

  pub keeps : (proves : Bool) (told : Reply) (text held : List ℕ) (v w : Sight)
      → (proves ≡ true → ProvedOr (Unit {0}) known timetable bytes told text v w)
      → held ≡ kept_text proves told text → IsProvedBetween known timetable proves bytes told held v w
  keeps false told text held v w shows same = same
  keeps true told text held v w shows same =
      subst (λ h. ProvedOr (h ≡ []) known timetable bytes told h v w) (sym same)
      (kept_shows told text v w (shows refl))

  -- ---- replies beside which nothing is shown

  pub shows_halt : (told : Halt) (text : List ℕ) (v w : Sight)
      → ProvedOr (Unit {0}) known timetable bytes (halt_reply told) text v w
  shows_halt halt.DiskFault text v w = tt
  shows_halt halt.NoMemory text v w = tt
  shows_halt (halt.Ahead after front) text v w = tt

  pub shows_fault : (told : LineFault) (text : List ℕ) (v w : Sight)
      → ProvedOr (Unit {0}) known timetable bytes (fault_reply told) text v w
  shows_fault (fault.Bad field) text v w = tt
  shows_fault fault.Memory text v w = tt

  pub again_shows : (number front : ℕ) (told : Refusal) (said : Reply) (text : List ℕ) (v w : Sight)
      → TellsAgain number front told said → ProvedOr (Unit {0}) known timetable bytes said text v w
  again_shows number front (refusal.Kept at deed) said text v w tells =
      subst (λ r. ProvedOr (Unit {0}) known timetable bytes r text v w) (sym tells) tt
  again_shows number front (refusal.Other (verdict.Gone at freer)) said text v w tells =
      subst (λ r. ProvedOr (Unit {0}) known timetable bytes r text v w) (sym tells) tt
  again_shows number front (refusal.Other (verdict.Other at)) said text v w tells =
      subst (λ r. ProvedOr (Unit {0}) known timetable bytes r text v w) (sym tells) tt
  again_shows number front (refusal.Other (verdict.Kept at)) said text v w tells = absurd tells
  again_shows number front (refusal.Other (verdict.BreaksRequest broken)) said text v w tells = absurd tells
  again_shows number front (refusal.Other (verdict.Taken claim owner)) said text v w tells = absurd tells
  again_shows number front (refusal.Other verdict.Unknown) said text v w tells = absurd tells
  again_shows number front (refusal.Other (verdict.NotYours owner)) said text v w tells = absurd tells
  again_shows number front (refusal.Other (verdict.AlreadyFreed freer)) said text v w tells = absurd tells
  again_shows number front (refusal.Other verdict.Fresh) said text v w tells = absurd tells

-- a line for which no search is made
module _ (caller : Caller) (line : Line) (h g left : List Entry)
    (none : (number : ℕ) (request : Request) → IsSearched caller line number request h g → ⊥)
    (bytes : List ℕ) (read : IsReadAs caller.known bytes line) (text : List ℕ) (v w : Sight) where
  unsearched : (told : Reply) → GivesLine caller bytes told h g left
      → ProvedOr (Unit {0}) caller.known caller.timetable bytes told text v w
  unsearched (reply.Held number at front) gives = tt
  unsearched (reply.Pinned number at front) gives = tt
  unsearched (reply.Granted number at front runs) gives =
      let its = its_line caller line h g left bytes read (reply.Granted number at front runs) gives in
      absurd (none number its.0 its.2)
  unsearched (reply.Freed number at freed front) gives = tt
  unsearched (reply.Kept number at front deed) gives = tt
  unsearched (reply.Shown at front entry freer) gives = tt
  unsearched (reply.Front front) gives = tt
  unsearched (reply.Bad field) gives = tt
  unsearched (reply.Denied number rule front) gives = tt
  unsearched (reply.Ahead named front) gives = tt
  unsearched (reply.Other number at front) gives = tt
  unsearched (reply.Gone number at freer front) gives = tt
  unsearched (reply.Taken number zone owner front) gives = tt
  unsearched (reply.Breaks number run rule front) gives = tt
  unsearched (reply.NoPath number front) gives =
      let its = its_line caller line h g left bytes read (reply.NoPath number front) gives in
      absurd (none number its.0 its.1)
  unsearched (reply.Again number at searched front) gives = tt
  unsearched (reply.Unknown at front) gives = tt
  unsearched (reply.NotYours number at owner front) gives = tt
  unsearched (reply.AlreadyFreed number at freer front) gives = tt
  unsearched (reply.Wide number front) gives = tt
  unsearched (reply.Full number front) gives = tt
  unsearched (reply.Unsettled number at front) gives = tt
  unsearched reply.DiskFault gives = tt
  unsearched reply.NoMemory gives = tt

module _ {D : Type 0} (shared : Shared D) (rules : List Ruled) (name : List ℕ) (line_number : ℕ) (line : Line)
    (proves : Bool) (told : Reply) (text : List ℕ) (v w : Sight)
    (answers : AnswersLine (caller_of shared rules name line_number) line told v w) where
  -- a line that seeks no path
  pub unsought_shows : ((request : Request) → ¬ IsSought line.ask request)
      → ShowsLine shared proves line told text v w
  unsought_shows none bytes read wanted =
      let it = answers bytes read in
      unsearched (caller_of shared rules name line_number) line it.h it.g w.seen
      (λ number request searched. none request searched.sought) bytes read text v w told it.answers.gives

  -- a line that a rule denies
  pub denied_shows : (rule : RuleName) → MayBeDenied line.ask → denial rules line ≡ Some rule
      → ShowsLine shared proves line told text v w
  denied_shows rule may denied bytes read wanted =
      let it = answers bytes read in
      unsearched (caller_of shared rules name line_number) line it.h it.g w.seen
      (λ number request searched. no_name rule (sym (searched.allowed may) ∙ denied)) bytes read text v w told it.answers.gives

-- ---- the turns of an ask

-- the pass has taken turns since v, the last of which found so many entries as it has seen
record HasLooked (v u : Sight) : Type 0 where
  goes_on : StartsWith u.seen v.seen
  before : List Turn
  one : Turn
  turns_are : u.turns ≡ v.turns ++ (before ++ one ∷ [])
  found : one.found.entries ≡ length u.seen

looked_once : (v u : Sight) → Looks v u → HasLooked v u
looked_once v u looks = record {
  goes_on = starts_trans u.seen u.found.list v.seen looks.takes.keeps looks.takes.goes_on;
  before = [];
  one = turn u.ticket u.found (record { list = u.seen; settled = length u.seen; count = u.count });
  turns_are = looks.takes.turns;
  found = ap length (sym looks.same);
}

looked_more : (v u w : Sight) → HasLooked v u → Looks u w → HasLooked v w
looked_more v u w so looks =
    let t : Turn = turn w.ticket w.found (record { list = w.seen; settled = length w.seen; count = w.count }) in record {
      goes_on = starts_trans w.seen u.seen v.seen
          (starts_trans w.seen w.found.list u.seen looks.takes.keeps looks.takes.goes_on) so.goes_on;
      before = so.before ++ so.one ∷ [];
      one = t;
      turns_are = looks.takes.turns ∙ ap (λ ts. ts ++ t ∷ []) so.turns_are
          ∙ append_assoc v.turns (so.before ++ so.one ∷ []) (t ∷ []);
      found = ap length (sym looks.same);
    }

looked_all : (timetable : Timetable) (owner : List ℕ) (ask : Ask) (v u : Sight) → HasLooked v u
    → (count at front : ℕ) (w : Sight) → HaveMissed timetable owner ask count at front u w → HasLooked v w
looked_all timetable owner ask v u so zero at front w is = subst (HasLooked v) (sym is) so
looked_all timetable owner ask v u so (suc count) at front w is =
    looked_more v is.0 w (looked_all timetable owner ask v u so count is.1 is.2 is.0 is.3) is.5.looks

found_before_last : (v u w : Sight) (settled : ℕ) → HasLooked v u → TakesTurn u w settled
    → FoundBeforeLast (length u.seen) v w
found_before_last v u w settled so takes =
    let t : Turn = turn w.ticket w.found (record { list = w.seen; settled = settled; count = w.count }) in record {
      before = so.before;
      one = so.one;
      last = t;
      turns_are = takes.turns ∙ ap (λ ts. ts ++ t ∷ []) so.turns_are
          ∙ append_assoc v.turns (so.before ++ so.one ∷ []) (t ∷ [])
          ∙ ap (λ ts. v.turns ++ ts) (append_assoc so.before (so.one ∷ []) (t ∷ []));
      found = so.found;
    }

-- ---- what an ask shows

module _ (law : AsksCanBeTold) (known : Names) (timetable : Timetable) (owner : List ℕ) (ask : Ask) (bytes : List ℕ)
    (line : Line) (spelled : Spells (a_line known) (fields_of bytes) line)
    (sought : line.ask ≡ asks.Path ask.number ask.request) where
  proof_for : (path : Option Path) (text : List ℕ) (searched : List Entry) → IsReached line searched
      → FitsIf timetable ask.request searched path → IsShownAt known timetable ask path text searched
      → IsProofFor known timetable bytes ask.number path text searched
  proof_for path text searched reached fits is = record {
    line = line;
    request = ask.request;
    spelled = spelled;
    sought = sought;
    reached = reached;
    fits = fits;
    proof = is.proof;
    numbered = is.number;
    excludes = is.request;
    shows = record {
      of = is.told (law known (fields_of bytes) line ask.number ask.request spelled sought);
      at = is.at;
      places = is.places;
      passes = is.passes;
    };
    text_is = is.text_is;
  }

  -- what was found after searches that missed is not before the front that the line names
  reached_behind : (v u w : Sight) → Looks v u → IsReached line u.found.list → (count at front : ℕ)
      → HaveMissed timetable owner ask count at front u w → IsReached line w.seen
  reached_behind v u w looks reached count at front missed named is =
      let below = reached named is in let same = ap length looks.same in
      let longer = no_longer w.seen u.seen (missed_on timetable owner ask u count at front w missed) in
      omega arith

  module _ (v u w : Sight) (looks : Looks v u) (reached : IsReached line u.found.list) (text : List ℕ) where
    path_shows : (told : Became) (runs : List Run) (front : ℕ) (said : Reply)
        → Shows known timetable owner ask (outcome.Entered told runs) text u w
        → TellsAsk ask.number front (outcome.Entered told runs) said
        → ProvedOr (Unit {0}) known timetable bytes said text v w
    path_shows (became.Settled at behind) runs front said shows tells =
        let m : Sight = shows.0 in let so = shows.2 in let entered = shows.4 in
        let looked = looked_all timetable owner ask v u (looked_once v u looks) so.count so.at so.front m so.missed in
        let here : length m.seen ≤ at =
        let longer = no_longer w.found.list m.seen entered.0.goes_on in let is = entered.1.here in omega arith in
        subst (λ r. ProvedOr (Unit {0}) known timetable bytes r text v w) (sym tells) (
          shows.1,
          m.seen,
          shows.3,
          record {
            since = looked.goes_on;
            within = starts_trans w.seen w.found.list m.seen entered.0.keeps entered.0.goes_on;
          },
          here,
          found_before_last v m w (length w.seen) looked entered.0,
          proof_for (Some shows.1) text m.seen (reached_behind v u m looks reached so.count so.at so.front so.missed) shows.5 shows.6,
        )
    path_shows (became.Unsettled at behind) runs front said shows tells =
        subst (λ r. ProvedOr (Unit {0}) known timetable bytes r text v w) (sym tells) tt
    path_shows (became.Refused told) runs front said shows tells =
        again_shows known timetable bytes ask.number front told said text v w tells
    path_shows became.Full runs front said shows tells =
        subst (λ r. ProvedOr (Unit {0}) known timetable bytes r text v w) (sym tells) tt

    pub ask_shows : (told : Outcome) (front : ℕ) (said : Reply) → IsTheFront told front w
        → HasSearched timetable owner ask told u w → Shows known timetable owner ask told text u w
        → TellsAsk ask.number front told said
        → ProvedOr (Unit {0}) known timetable bytes said text v w
    ask_shows (outcome.Entered told runs) front said here is shows tells =
        path_shows told runs front said shows tells
    ask_shows outcome.NoPath front said here is shows tells =
        let so = is.0 in
        let looked = looked_all timetable owner ask v u (looked_once v u looks) so.count so.at so.front w so.missed in
        subst (λ r. ProvedOr (Unit {0}) known timetable bytes r text v w) (sym tells) (
          w.seen,
          record { since = looked.goes_on; within = starts_refl w.seen },
          sym here,
          proof_for None text w.seen (reached_behind v u w looks reached so.count so.at so.front so.missed) tt shows,
        )
    ask_shows (outcome.Again at stood) front said here is shows tells =
        subst (λ r. ProvedOr (Unit {0}) known timetable bytes r text v w) (sym tells) tt
