-- What a line is told by what its turn did.
use Rattle.std.proofs.Common.{◌≡◌, ◌≢◌, ◌⊎◌, ℕ, ◌<◌, ◌≤◌, All, List, [], ◌∷◌, Option, Some, None}
use Rattle.std.proofs.Common.{length, slice_get, sym, ◌∙◌, subst, refl}
use Rattle.std.proofs.lemmas.List.Elements.{All-nil}
use Rattle.std.proofs.lemmas.Option.{slice_get_cases}
use mathlib.Core.Logic.{inl, inr, ⊎_elim}
use Rattle.book_gate.specs.declared.views.Turn.{Turn}
use Rattle.client_lines.specs.Cuts.{fields_of}
use Rattle.client_lines.specs.Lines.{a_line}
use Rattle.client_lines.specs.Reading.{RefusesFirst}
use Rattle.client_lines.specs.declared.asks.Ask.TheVariants as asks
use Rattle.client_lines.specs.declared.asks.Line.{Line}
use Rattle.client_lines.specs.declared.faults.LineFault.{LineFault}
use Rattle.client_lines.specs.declared.faults.LineFault.TheVariants as fault
use Rattle.ask_turns.specs.history.declared.verdicts.Verdict.TheVariants as verdict
use Rattle.ask_turns.specs.history.Live.{freed_by}
use Rattle.ask_turns.specs.history.Verdict.{verdict_on}
use Rattle.rail_types.specs.declared.entries.Deed.{Deed}
use Rattle.rail_types.specs.declared.entries.Entry.{Entry}
use Rattle.client_lines.specs.Rooms.{IsBehindEntry}
use Rattle.client_lines.specs.declared.reply_texts.replies.Reply.{Reply}
use Rattle.client_lines.specs.declared.reply_texts.replies.Reply.TheVariants as reply
use Rattle.ask_turns.specs.declared.client_turns.halts.Halt.{Halt}
use Rattle.ask_turns.specs.declared.client_turns.halts.Halt.TheVariants as halt
use Rattle.ask_turns.specs.declared.client_turns.told.Entered.TheVariants.{Settled, Unsettled}
use Rattle.ask_turns.specs.declared.client_turns.told.Refusal.{Refusal}
use Rattle.ask_turns.specs.declared.client_turns.told.Refusal.TheVariants as refusal
use Rattle.ask_turns.specs.Told.{IsRefusal}
use Rattle.ask_turns.specs.Turns.{HasEntered, IsAdded, IsFullIn, IsHalted, IsRefusedIn, IsStopped}
use Rattle.ask_turns.specs.Turns.{Looks, Sight}
use Rattle.line_answers.specs.Answers.{Adds, Caller, GivesLine, IsAllowed, IsDeedOf, IsEntryOf}
use Rattle.line_answers.specs.Answers.{IsHold, IsNarrowLine, IsPin, IsReached, Leaves, entry_of}
use Rattle.line_answers.specs.Answers.{number_of}
use Rattle.line_answers.specs.Callers.{AnswersLine}
use Rattle.line_answers.specs.Calls.{AnswersBetween, HasTurns, IsOf, IsSettled, Settle}
use Rattle.line_answers.specs.Points.{added}
use Rattle.line_answers.specs.Rules.{IsReadAs}
use Rattle.line_answers.specs.Tells.{AddsNothing, TellsAgain, TellsFree, TellsHold, TellsPin}
use Rattle.line_answers.specs.Tells.{fault_reply, halt_reply}
use Rattle.line_answers.proofs.Calls.{IsNotAgain, begun, entered, looked, not_begun, not_settled}
use Rattle.line_answers.proofs.Calls.{untaken}

pub leaves : (v w : Sight) → Looks v w → (front : ℕ) → front ≡ length w.found.list
    → Leaves w.found.list w.seen front
leaves v w looks front is = record { same = looks.same; front_is = is }

-- ---- a turn that ended before anything was done

pub halted_line : (caller : Caller) (line : Line) (v w : Sight) (told : Halt)
    → IsHalted told line.after v w → AnswersLine caller line (halt_reply told) v w
halted_line caller line v w halt.DiskFault fails bytes read =
    not_settled caller bytes v w (line, read.spells, fails.same) fails
halted_line caller line v w halt.NoMemory looks bytes read =
    looked caller bytes v w reply.NoMemory looks looks.same refl tt (λ ts all. all) (λ ts some. tt)
halted_line caller line v w (halt.Ahead named front) ahead bytes read =
    looked caller bytes v w (reply.Ahead named front) ahead.0
    (line, read.spells, (ahead.1.asked, below, below, leaves v w ahead.0 front ahead.1.stands))
    refl tt (λ ts all. all) (λ ts some. some)
  where
    below : length w.found.list < named
    below = subst (λ n. n < named) ahead.1.stands ahead.1.beyond

pub halt_short : (told : Halt) → IsBehindEntry 0 (halt_reply told) ⊎ AddsNothing (halt_reply told)
halt_short halt.DiskFault = inl tt
halt_short halt.NoMemory = inr tt
halt_short (halt.Ahead named front) = inr tt

-- ---- a turn that judged an entry

module _ (caller : Caller) (line : Line) (number : ℕ) (deed : Deed)
    (numbered : number_of line.ask ≡ Some number) (asked : IsDeedOf line.ask deed) (v w : Sight) where
  abbrev its : Entry
  its = entry_of caller number deed

  own : IsEntryOf caller line.ask (entry_of caller number deed)
  own = record { number = number; deed = deed; numbered = numbered; asked = asked; entry_is = refl }

  is_of : (bytes : List ℕ) → IsReadAs caller.known bytes line → IsOf caller bytes (entry_of caller number deed)
  is_of bytes read = record { line = line; spelled = read.spells; own = own }

  adds : (at front : ℕ) → IsAdded caller.timetable (entry_of caller number deed) at front w
      → Adds caller line.ask w.found.list w.seen (entry_of caller number deed) number at front
  adds at front added = record {
    begins = record { own = own; joins = added.may.joins; room = added.may.room };
    left_is = added.left;
    numbered = numbered;
    stands = added.here;
    front_is = added.behind;
  }

  pub settled_line : (told : Reply) (at front : ℕ)
      → HasEntered caller.timetable (entry_of caller number deed) (Settled at front) v w
      → ((bytes : List ℕ) → IsReadAs caller.known bytes line
      → Adds caller line.ask w.found.list w.seen (entry_of caller number deed) number at front
      → GivesLine caller bytes told w.found.list w.found.list w.seen) → added told ≡ at ∷ [] → IsNotAgain told
      → ((ts : List Turn) → All IsSettled ts → Settle told ts)
      → ((ts : List Turn) → ts ≢ [] → HasTurns told ts) → AnswersLine caller line told v w
  settled_line told at front done gives one other settles turns bytes read =
      entered caller bytes v w its (is_of bytes read) told at front done.0 done.1
      (gives bytes read (adds at front done.1)) one other settles turns

  pub stopped_line : (told : Halt)
      → IsStopped caller.timetable (entry_of caller number deed) told line.after v w
      → AnswersLine caller line (halt_reply told) v w
  stopped_line halt.DiskFault stops bytes read =
      ⊎_elim (λ fails. not_settled caller bytes v w (line, read.spells, fails.same) fails)
      (λ fails. not_begun caller bytes v w its (is_of bytes read) (line, read.spells, fails.0.same) fails.0) stops
  stopped_line halt.NoMemory stops bytes read = halted_line caller line v w halt.NoMemory stops bytes read
  stopped_line (halt.Ahead named front) stops bytes read =
      halted_line caller line v w (halt.Ahead named front) stops bytes read

  module _ (reached : IsReached line w.found.list) (front : ℕ) (here : front ≡ length w.found.list) where
    pub again : (told : Refusal) (said : Reply) → Looks v w
        → IsRefusal w.found.list (verdict_on caller.timetable w.found.list (entry_of caller number deed)) told
        → TellsAgain number front told said → AnswersLine caller line said v w
    again (refusal.Kept at stands) said looks is_told is =
        subst (λ r. AnswersLine caller line r v w) (sym is)
        (λ bytes read. looked caller bytes v w (reply.Kept number at front stands) looks
        (line, read.spells, (reached, numbered, (its, own, is_told.0), is_told.1, leaves v w looks front here))
        refl tt (λ ts all. all) (λ ts some. some))
    again (refusal.Other (verdict.Gone at freer)) said looks is_told is =
        subst (λ r. AnswersLine caller line r v w) (sym is)
        (λ bytes read. looked caller bytes v w (reply.Gone number at freer front) looks
        (line, read.spells, (reached, numbered, (its, own, is_told.0), leaves v w looks front here))
        refl tt (λ ts all. all) (λ ts some. some))
    again (refusal.Other (verdict.Other at)) said looks is_told is =
        subst (λ r. AnswersLine caller line r v w) (sym is)
        (λ bytes read. looked caller bytes v w (reply.Other number at front) looks
        (line, read.spells, (reached, numbered, (its, own, is_told.0), leaves v w looks front here))
        refl tt (λ ts all. all) (λ ts some. some))
    again (refusal.Other (verdict.Kept at)) said looks is_told is = absurd is
    again (refusal.Other (verdict.BreaksRequest broken)) said looks is_told is = absurd is
    again (refusal.Other (verdict.Taken claim owner)) said looks is_told is = absurd is
    again (refusal.Other verdict.Unknown) said looks is_told is = absurd is
    again (refusal.Other (verdict.NotYours owner)) said looks is_told is = absurd is
    again (refusal.Other (verdict.AlreadyFreed freer)) said looks is_told is = absurd is
    again (refusal.Other verdict.Fresh) said looks is_told is = absurd is

  module _ (reached : IsReached line w.found.list) (allowed : IsAllowed caller line w.found.list)
      (narrow : IsNarrowLine caller line) where
    pub unsettled_line : (at front : ℕ)
        → HasEntered caller.timetable (entry_of caller number deed) (Unsettled at front) v w
        → AnswersLine caller line (reply.Unsettled number at front) v w
    unsettled_line at front done bytes read =
        begun caller bytes v w its (is_of bytes read) number at front done.0 done.1 done.2
        (line, read.spells, (reached, allowed, narrow, (its, adds at front done.1)))

    module _ (front : ℕ) (here : front ≡ length w.found.list) where
      pub full_line : IsFullIn caller.timetable (entry_of caller number deed) v w
          → AnswersLine caller line (reply.Full number front) v w
      full_line full bytes read =
          looked caller bytes v w (reply.Full number front) full.looks
          (line, read.spells, (reached, allowed, narrow, numbered, (its, own, full.joins, full.no_room), leaves v w full.looks front here))
          refl tt (λ ts all. all) (λ ts some. some)

      taken : (takes_zones : IsHold line.ask ⊎ IsPin line.ask) (told : Refusal) (said : Reply)
          → IsRefusedIn caller.timetable (entry_of caller number deed) told v w
          → TellsHold number front told said → AnswersLine caller line said v w
      taken takes_zones (refusal.Other (verdict.Taken claim owner)) said refused is =
          subst (λ r. AnswersLine caller line r v w) (sym is)
          (λ bytes read. looked caller bytes v w (reply.Taken number claim.zone owner front) refused.looks
          (line, read.spells, (takes_zones, reached, allowed, numbered, (claim, refl, (its, own, refused.refusal.0)), leaves v w refused.looks front here))
          refl tt (λ ts all. all) (λ ts some. some))
      taken takes_zones (refusal.Kept at stands) said refused is = again reached front here (refusal.Kept at stands) said refused.looks refused.refusal is
      taken takes_zones (refusal.Other (verdict.Gone at freer)) said refused is =
          again reached front here (refusal.Other (verdict.Gone at freer)) said refused.looks refused.refusal is
      taken takes_zones (refusal.Other (verdict.Other at)) said refused is =
          again reached front here (refusal.Other (verdict.Other at)) said refused.looks refused.refusal is
      taken takes_zones (refusal.Other (verdict.Kept at)) said refused is = absurd is
      taken takes_zones (refusal.Other (verdict.BreaksRequest broken)) said refused is = absurd is
      taken takes_zones (refusal.Other verdict.Unknown) said refused is = absurd is
      taken takes_zones (refusal.Other (verdict.NotYours owner)) said refused is = absurd is
      taken takes_zones (refusal.Other (verdict.AlreadyFreed freer)) said refused is = absurd is
      taken takes_zones (refusal.Other verdict.Fresh) said refused is = absurd is

      pub hold_refused : IsHold line.ask → (told : Refusal) (said : Reply)
          → IsRefusedIn caller.timetable (entry_of caller number deed) told v w
          → TellsHold number front told said → AnswersLine caller line said v w
      hold_refused hold = taken (inl hold)

      pub pin_refused : IsPin line.ask → (told : Refusal) (said : Reply)
          → IsRefusedIn caller.timetable (entry_of caller number deed) told v w
          → TellsPin number front told said → AnswersLine caller line said v w
      pin_refused pin (refusal.Other (verdict.BreaksRequest broken)) said refused is =
          subst (λ r. AnswersLine caller line r v w) (sym is)
          (λ bytes read. looked caller bytes v w (reply.Breaks number broken.run broken.rule front) refused.looks
          (line, read.spells, (pin, reached, allowed, numbered, (its, own, refused.refusal.0), leaves v w refused.looks front here))
          refl tt (λ ts all. all) (λ ts some. some))
      pin_refused pin (refusal.Kept at stands) said refused is = again reached front here (refusal.Kept at stands) said refused.looks refused.refusal is
      pin_refused pin (refusal.Other (verdict.Gone at freer)) said refused is =
          again reached front here (refusal.Other (verdict.Gone at freer)) said refused.looks refused.refusal is
      pin_refused pin (refusal.Other (verdict.Other at)) said refused is =
          again reached front here (refusal.Other (verdict.Other at)) said refused.looks refused.refusal is
      pin_refused pin (refusal.Other (verdict.Taken claim owner)) said refused is =
          taken (inr pin) (refusal.Other (verdict.Taken claim owner)) said refused is
      pin_refused pin (refusal.Other (verdict.Kept at)) said refused is = absurd is
      pin_refused pin (refusal.Other verdict.Unknown) said refused is = absurd is
      pin_refused pin (refusal.Other (verdict.NotYours owner)) said refused is = absurd is
      pin_refused pin (refusal.Other (verdict.AlreadyFreed freer)) said refused is = absurd is
      pin_refused pin (refusal.Other verdict.Fresh) said refused is = absurd is

      pub free_refused : (freed : ℕ) → line.ask ≡ asks.Free number freed → (told : Refusal) (said : Reply)
          → IsRefusedIn caller.timetable (entry_of caller number deed) told v w
          → TellsFree number freed front told said → AnswersLine caller line said v w
      free_refused freed free (refusal.Other verdict.Unknown) said refused is =
          subst (λ r. AnswersLine caller line r v w) (sym is)
          (λ bytes read. looked caller bytes v w (reply.Unknown freed front) refused.looks
          (line, read.spells, (reached, leaves v w refused.looks front here, inl (number, free, (its, own, refused.refusal.0))))
          refl tt (λ ts all. all) (λ ts some. some))
      free_refused freed free (refusal.Other (verdict.NotYours owner)) said refused is =
          subst (λ r. AnswersLine caller line r v w) (sym is)
          (λ bytes read. looked caller bytes v w (reply.NotYours number freed owner front) refused.looks
          (line, read.spells, (free, reached, (its, own, refused.refusal.0), leaves v w refused.looks front here))
          refl tt (λ ts all. all) (λ ts some. some))
      free_refused freed free (refusal.Other (verdict.AlreadyFreed freer)) said refused is =
          subst (λ r. AnswersLine caller line r v w) (sym is)
          (λ bytes read. looked caller bytes v w (reply.AlreadyFreed number freed freer front) refused.looks
          (line, read.spells, (free, reached, (its, own, refused.refusal.0), leaves v w refused.looks front here))
          refl tt (λ ts all. all) (λ ts some. some))
      free_refused freed free (refusal.Kept at stands) said refused is = again reached front here (refusal.Kept at stands) said refused.looks refused.refusal is
      free_refused freed free (refusal.Other (verdict.Gone at freer)) said refused is =
          again reached front here (refusal.Other (verdict.Gone at freer)) said refused.looks refused.refusal is
      free_refused freed free (refusal.Other (verdict.Other at)) said refused is =
          again reached front here (refusal.Other (verdict.Other at)) said refused.looks refused.refusal is
      free_refused freed free (refusal.Other (verdict.Kept at)) said refused is = absurd is
      free_refused freed free (refusal.Other (verdict.BreaksRequest broken)) said refused is = absurd is
      free_refused freed free (refusal.Other (verdict.Taken claim owner)) said refused is = absurd is
      free_refused freed free (refusal.Other verdict.Fresh) said refused is = absurd is

-- ---- a turn that showed something

module _ (caller : Caller) (line : Line) (v w : Sight) (looks : Looks v w)
    (reached : IsReached line w.found.list) (front : ℕ) (here : front ≡ length w.found.list) where
  pub front_line : line.ask ≡ asks.Front → AnswersLine caller line (reply.Front front) v w
  front_line asked bytes read =
      looked caller bytes v w (reply.Front front) looks
      (line, read.spells, (asked, reached, leaves v w looks front here))
      refl tt (λ ts all. all) (λ ts some. some)

  pub shown_line : (at : ℕ) (entry : Entry) (freer : Option ℕ) → line.ask ≡ asks.Show at
      → slice_get w.found.list at ≡ Some entry → freer ≡ freed_by w.found.list at
      → AnswersLine caller line (reply.Shown at front entry freer) v w
  shown_line at entry freer asked stands freed bytes read =
      looked caller bytes v w (reply.Shown at front entry freer) looks
      (line, read.spells, (asked, reached, stands, freed, leaves v w looks front here))
      refl tt (λ ts all. all) (λ ts some. some)

  pub missing_line : (at : ℕ) → line.ask ≡ asks.Show at → length w.found.list ≤ at
      → AnswersLine caller line (reply.Unknown at front) v w
  missing_line at asked past bytes read =
      looked caller bytes v w (reply.Unknown at front) looks
      (line, read.spells, (reached, leaves v w looks front here, inr (asked, past)))
      refl tt (λ ts all. all) (λ ts some. some)

pub past_end : (entries : List Entry) (at : ℕ) → slice_get entries at ≡ None → length entries ≤ at
past_end entries at none =
    ⊎_elim (λ inside. absurd (let wrong : None ≡ Some inside.0 = sym none ∙ inside.2 in cc))
    (λ past. past.0) (slice_get_cases entries at).1

-- ---- a line without a turn

pub want_line : (caller : Caller) (line : Line) (v : Sight) → AnswersLine caller line reply.NoMemory v v
want_line caller line v bytes read =
    untaken caller bytes reply.NoMemory v refl refl tt (All-nil IsSettled) tt

pub unread_line : (caller : Caller) (bytes : List ℕ) (v : Sight) (told : LineFault)
    → RefusesFirst (a_line caller.known) (fields_of bytes) told
    → AnswersBetween caller bytes (fault_reply told) v v
unread_line caller bytes v (fault.Bad field) wrong =
    untaken caller bytes (reply.Bad field) v (wrong, refl) refl tt (All-nil IsSettled) refl
unread_line caller bytes v fault.Memory wrong =
    untaken caller bytes reply.NoMemory v refl refl tt (All-nil IsSettled) tt
