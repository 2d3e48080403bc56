-- A path that nothing hinders is granted.
use Rattle.std.proofs.Common.{◌≡◌, ℕ, All, List, [], ◌∷◌, ◌++◌, Option, Some, None, Result, Ok, Err}
use Rattle.std.proofs.Common.{length, ap, sym, ◌∙◌, subst, arith}
use Rattle.std.proofs.lemmas.List.Elements.{All-head, All-tail}
use mathlib.Core.Logic.{⊎_elim}
use Rattle.ask_turns.specs.Searched.{AreMissed, IsPossibleAt}
use Rattle.blocking_time.specs.declared.rules.Broken.{Broken}
use Rattle.book_gate.specs.declared.views.Turn.{Turn}
use Rattle.client_lines.specs.Reading.{Fails}
use Rattle.client_lines.specs.declared.asks.Ask.TheVariants as asks
use Rattle.client_lines.specs.declared.asks.Line.{Line}
use Rattle.client_lines.specs.declared.faults.LineFault.{LineFault}
use Rattle.client_lines.specs.declared.faults.LineFault.TheVariants as fault
use Rattle.ask_turns.specs.Turns.{Sight}
use Rattle.ask_turns.proofs.history_lemmas.Places.{is_new}
use Rattle.ask_turns.specs.history.declared.verdicts.Verdict.{Verdict}
use Rattle.ask_turns.specs.history.declared.verdicts.Verdict.TheVariants as verdict
use Rattle.ask_turns.specs.history.Verdict.{breaks, broken_or_else, first_taken, taken_or_fresh}
use Rattle.ask_turns.specs.history.Verdict.{verdict_by_place, verdict_on, verdict_on_deed}
use Rattle.outside_io.specs.Faults.{Rose}
use Rattle.rail_types.specs.declared.entries.Deed.TheVariants.{Grant}
use Rattle.rail_types.specs.declared.entries.Entry.{Entry}
use Rattle.rail_types.specs.declared.entries.Wanted.TheVariants.{Asked}
use Rattle.rail_types.specs.declared.limits.TheConstants.{MAX_PLACES}
use Rattle.rail_types.specs.declared.trains.Request.{Request}
use Rattle.rail_types.specs.Occupation.{HeldClaim}
use Rattle.client_lines.specs.declared.reply_texts.replies.Reply.{Reply}
use Rattle.client_lines.specs.declared.reply_texts.replies.Reply.TheVariants as reply
use Rattle.ask_turns.specs.tails.Listed.{HasMoreThan}
use Rattle.line_answers.specs.Answers.{Caller, Gives, IsAllowed, IsFull, IsNarrow, IsNewNumber}
use Rattle.line_answers.specs.Answers.{IsReached, IsTold, entry_of}
use Rattle.line_answers.specs.Asked.{asking}
use Rattle.line_answers.specs.Calls.{AnswersBetween, EndInFault, Settle}
use Rattle.line_answers.specs.Granting.{IsGranted, IsUnhindered}
use Rattle.line_answers.specs.Rules.{IsReadAs}
use Rattle.line_answers.specs.Tells.{fault_reply}
use Rattle.line_answers.proofs.Sought.{IsOnNew}
use Rattle.line_answers.proofs.Told.{gives_read, no_name}

last_of : (P : Turn → Type 0) (before : List Turn) (last : Turn) → All P (before ++ last ∷ []) → P last
last_of P [] last all = All-head P last [] all
last_of P (t ∷ ts) last all = last_of P ts last (All-tail P t (ts ++ last ∷ []) all)

some_is : (n m : ℕ) → Some n ≡ Some m → n ≡ m
some_is n m e = cc

-- a deed whose number is new is told no verdict on a number that stands
fresh_or_not : (taken : Option HeldClaim) → IsOnNew (taken_or_fresh taken)
fresh_or_not None = tt
fresh_or_not (Some held) = tt

kept_or_broken : (rule : Option Broken) (taken : Option HeldClaim) → IsOnNew (broken_or_else rule (taken_or_fresh taken))
kept_or_broken None taken = fresh_or_not taken
kept_or_broken (Some rule) taken = tt

module _ (caller : Caller) (after : Option ℕ) (wanted : ℕ) (request : Request) (turns : List Turn) (h g left : List Entry)
    (reached : IsReached (asking after wanted request) h) (new : IsNewNumber caller wanted h)
    (allowed : IsAllowed caller (asking after wanted request) h) (narrow : IsNarrow caller request)
    (possible : IsPossibleAt caller.timetable request h) (room : ¬ IsFull caller (asks.Path wanted request) h)
    (still : g ≡ h) (quiet : All (λ t. ¬ Rose t.found.count t.left.count) turns) where
  not_free : (number freed : ℕ) → asks.Path wanted request ≡ asks.Free number freed → ⊥
  not_free number freed wrong = cc

  not_show : (at : ℕ) → asks.Path wanted request ≡ asks.Show at → ⊥
  not_show at wrong = cc

  not_front : asks.Path wanted request ≡ asks.Front → ⊥
  not_front wrong = cc

  -- the number stands nowhere
  stands : (told : Verdict) → IsTold caller (asks.Path wanted request) g told → IsOnNew told
  stands told is =
      let own = is.1 in
      let number : wanted ≡ own.number = some_is wanted own.number own.numbered in
      let its : Entry = entry_of caller wanted own.deed in
      let entry_is : is.0 ≡ its = own.entry_is ∙ ap (λ n. entry_of caller n own.deed) (sym number) in
      let none = is_new g its (subst (IsNewNumber caller wanted) (sym still) new) in
      let said : verdict_on_deed caller.timetable g caller.name own.deed ≡ told =
      sym (ap (verdict_by_place caller.timetable g its) none)
      ∙ sym (ap (verdict_on caller.timetable g) entry_is) ∙ is.2 in
      subst IsOnNew (sym (ap (verdict_on_deed caller.timetable g caller.name) own.asked.1) ∙ said)
      (kept_or_broken (breaks caller.timetable (Grant (Asked request) own.asked.0))
      (first_taken caller.timetable g (Grant (Asked request) own.asked.0)))

  longer : (searched at : ℕ) (sought : Request) → AreMissed caller.timetable sought h g searched at → ⊥
  longer searched at sought missed =
      let one = missed.misses_first.more in let two = missed.misses_second.more in
      let three = missed.misses_third.more in let long : length g ≡ length h = ap length still in omega arith

  seen : (sought : Request) → request ≡ sought → IsPossibleAt caller.timetable sought g
  seen sought is =
      subst (λ r. IsPossibleAt caller.timetable r g) is
      (subst (IsPossibleAt caller.timetable request) (sym still) possible)

  none_rose : EndInFault turns → ⊥
  none_rose ends =
      last_of (λ t. ¬ Rose t.found.count t.left.count) ends.before ends.last
      (subst (All (λ t. ¬ Rose t.found.count t.left.count)) ends.turns_are quiet) ends.rose

  granted : (told : Reply) → Gives caller (asking after wanted request) told h g left → Settle told turns → IsGranted told
  granted (reply.Held number at front) gives settle = absurd gives.0
  granted (reply.Pinned number at front) gives settle = absurd gives.0
  granted (reply.Granted number at front runs) gives settle = tt
  granted (reply.Freed number at freed front) gives settle = absurd (not_free _ _ gives.0)
  granted (reply.Kept number at front deed) gives settle = absurd (stands (verdict.Kept at) gives.2)
  granted (reply.Shown at front entry freer) gives settle = absurd (not_show _ gives.0)
  granted (reply.Front front) gives settle = absurd (not_front gives.0)
  granted (reply.Bad field) gives settle = absurd gives
  granted (reply.Denied number rule front) gives settle = absurd (no_name rule (sym (allowed tt) ∙ gives.4))
  granted (reply.Ahead named front) gives settle = let below = reached named gives.0 in let beyond = gives.1 in absurd (omega arith)
  granted (reply.Other number at front) gives settle = absurd (stands (verdict.Other at) gives.2)
  granted (reply.Gone number at freer front) gives settle = absurd (stands (verdict.Gone at freer) gives.2)
  granted (reply.Taken number zone owner front) gives settle = ⊎_elim (λ hold. absurd hold) (λ pin. absurd pin) gives.0
  granted (reply.Breaks number run rule front) gives settle = absurd gives.0
  granted (reply.NoPath number front) gives settle = absurd (gives.2 (seen gives.0 gives.1.sought))
  granted (reply.Again number at searched front) gives settle = absurd (longer searched at (gives.0) gives.2)
  granted (reply.Unknown at front) gives settle = ⊎_elim (λ free. absurd (not_free _ _ free.1)) (λ show. absurd (not_show _ show.0)) gives.2
  granted (reply.NotYours number at owner front) gives settle = absurd (not_free _ _ gives.0)
  granted (reply.AlreadyFreed number at freer front) gives settle = absurd (not_free _ _ gives.0)
  granted (reply.Wide number front) gives settle = absurd (narrow (subst (HasMoreThan MAX_PLACES caller.timetable.net) (sym gives.1) gives.6))
  granted (reply.Full number front) gives settle = absurd (room (subst (IsFull caller (asks.Path wanted request)) still gives.4))
  granted (reply.Unsettled number at front) gives settle = absurd (none_rose settle.fault)
  granted reply.DiskFault gives settle = absurd (none_rose settle)
  granted reply.NoMemory gives settle = tt

-- the same of a call over the bytes of a line
pub unhindered : (caller : Caller) (bytes : List ℕ) (line : Line) → IsReadAs caller.known bytes line
    → (told : Reply) (v w : Sight) (answers : AnswersBetween caller bytes told v w)
    → IsUnhindered caller line answers.turns answers.h answers.g → IsGranted told
unhindered caller bytes line read told v w answers u =
    let its : line ≡ asking line.after u.number u.request = ap (λ a. record { after = line.after; ask = a }) u.asked in
    let so = answers.answers in
    granted caller line.after u.number u.request answers.turns answers.h answers.g w.seen
    (subst (λ (l : Line). IsReached l answers.h) its u.reached) u.is_new
    (subst (λ (l : Line). IsAllowed caller l answers.h) its u.allowed) u.narrow u.possible
    (subst (λ (l : Line). ¬ IsFull caller l.ask answers.h) its u.room) u.still u.quiet told
    (subst (λ (l : Line). Gives caller l told answers.h answers.g w.seen) its
    (gives_read caller line answers.h answers.g w.seen bytes read told so.gives)) so.settle

ok_or_err : (field : ℕ) (said : Line) → ◌≡◌ {A = Result Line ℕ} (Ok said) (Err field) → ⊥
ok_or_err field said wrong = cc

-- bytes that spell a line have no wrong field
pub fault_grants : (fault : LineFault) (said : Line) → Fails fault (Ok said) → IsGranted (fault_reply fault)
fault_grants fault.Memory said fails = tt
fault_grants (fault.Bad field) said fails = absurd (ok_or_err field said fails)
