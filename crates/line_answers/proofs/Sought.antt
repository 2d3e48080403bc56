-- What an ask is told by what its turns did.
use Rattle.std.proofs.Common.{◌≡◌, ◌≢◌, ℕ, zero, suc, All, Bool, true, false, if◌then◌else◌, List}
use Rattle.std.proofs.Common.{[], ◌∷◌, ◌++◌, Option, Some, None, length, slice_get, ap, sym, ◌∙◌}
use Rattle.std.proofs.Common.{subst, refl}
use mathlib.Core.Logic.{inl, inr, ⊎_elim}
use Rattle.book_gate.specs.declared.views.Turn.{Turn}
use Rattle.client_lines.specs.declared.asks.Line.{Line}
use Rattle.ask_turns.specs.history.declared.verdicts.Verdict.{Verdict}
use Rattle.ask_turns.specs.history.declared.verdicts.Verdict.TheVariants as verdict
use Rattle.ask_turns.specs.history.Content.{has_same_content}
use Rattle.ask_turns.specs.history.Live.{freed_by}
use Rattle.ask_turns.specs.history.Verdict.{kept_or_gone, place_of, repeat_at, verdict_by_place}
use Rattle.ask_turns.specs.history.Verdict.{verdict_on, verdict_on_repeat}
use Rattle.rail_types.specs.declared.entries.Deed.{Deed}
use Rattle.rail_types.specs.declared.entries.Deed.TheVariants.{Grant}
use Rattle.rail_types.specs.declared.entries.Entry.{Entry}
use Rattle.rail_types.specs.declared.entries.Wanted.TheVariants.{Asked}
use Rattle.rail_types.specs.declared.limits.TheConstants.{MAX_PLACES}
use Rattle.rail_types.specs.declared.paths.Path.{Path}
use Rattle.rail_types.specs.declared.paths.Run.{Run}
use Rattle.rail_types.specs.declared.trains.Request.{Request}
use Rattle.client_lines.specs.declared.reply_texts.replies.Reply.{Reply}
use Rattle.client_lines.specs.declared.reply_texts.replies.Reply.TheVariants as reply
use Rattle.ask_turns.specs.labels.declared.guides.Guide.{Guide}
use Rattle.ask_turns.specs.tails.Listed.{HasMoreThan}
use Rattle.ask_turns.specs.declared.client_turns.halts.Halt.{Halt}
use Rattle.ask_turns.specs.declared.client_turns.halts.Halt.TheVariants as halt
use Rattle.ask_turns.specs.declared.client_turns.told.Entered.{Entered as Became}
use Rattle.ask_turns.specs.declared.client_turns.told.Entered.TheVariants as became
use Rattle.ask_turns.specs.declared.client_turns.told.Refusal.{Refusal}
use Rattle.ask_turns.specs.declared.client_turns.told.Refusal.TheVariants as refusal
use Rattle.ask_turns.specs.Told.{IsFoundAgain, IsRefusal}
use Rattle.ask_turns.specs.Turns.{IsAdded, IsReached as IsReachedBy, Looks, Sight}
use Rattle.ask_turns.specs.declared.asks.Ask.{Ask}
use Rattle.ask_turns.specs.declared.asks.Outcome.{Outcome}
use Rattle.ask_turns.specs.declared.asks.Outcome.TheVariants as outcome
use Rattle.ask_turns.specs.Finds.{IsNewNumber}
use Rattle.ask_turns.specs.Searched.{AreMissed, IsMissed}
use Rattle.ask_turns.specs.Tries.{HasSearched, HasStopped, HaveMissed, IsJudged, IsOfNumber}
use Rattle.ask_turns.specs.Tries.{IsTheFront, Stops}
use Rattle.ask_turns.specs.Tries.{SoFar as Searched}
use Rattle.line_answers.specs.Answers.{Adds, Caller, GivesLine, IsAllowed, IsEntryOf, IsNarrow}
use Rattle.line_answers.specs.Answers.{IsNarrowLine, IsReached, IsSearched, Leaves, entry_of}
use Rattle.line_answers.specs.Asked.{TellsAsk, asking}
use Rattle.line_answers.specs.Callers.{AnswersLine}
use Rattle.line_answers.specs.Calls.{AnswersBetween, HasTurns, IsOf, IsSettled, Settle}
use Rattle.line_answers.specs.Calls.{TakesOneTurn}
use Rattle.line_answers.specs.Points.{added}
use Rattle.line_answers.specs.Tells.{TellsAgain, halt_reply}
use Rattle.line_answers.specs.Rules.{IsReadAs}
use Rattle.line_answers.proofs.Calls.{IsNotAgain, looked}
use Rattle.book_gate.specs.Views.{StartsWith}
use Rattle.line_answers.proofs.Many.{IsLong, SoFar, answered_now, begun_last, entered_last}
use Rattle.line_answers.proofs.Many.{first_look, looked_last, missed_on, next_look, not_begun_last}
use Rattle.line_answers.proofs.Many.{not_settled_last}

leaves : (v w : Sight) → Looks v w → (front : ℕ) → front ≡ length w.found.list
    → Leaves w.found.list w.seen front
leaves v w looks front is = record { same = looks.same; front_is = is }

-- a verdict on what does not stand yet
abbrev pub IsOnNew : Verdict → Type 0
IsOnNew (verdict.Kept at) = ⊥
IsOnNew (verdict.Gone at freer) = ⊥
IsOnNew (verdict.Other at) = ⊥
IsOnNew other = Unit {0}

kept_or_not : (at : ℕ) (freer : Option ℕ) (other : Verdict) → IsOnNew other → kept_or_gone at freer ≡ other → ⊥
kept_or_not at None other new is = subst IsOnNew (sym is) new
kept_or_not at (Some freer) other new is = subst IsOnNew (sym is) new

content_or_not : (entries : List Entry) (at : ℕ) (same : Bool) (other : Verdict) → IsOnNew other
    → (if same then kept_or_gone at (freed_by entries at) else verdict.Other at) ≡ other → ⊥
content_or_not entries at true other new is = kept_or_not at (freed_by entries at) other new is
content_or_not entries at false other new is = subst IsOnNew (sym is) new

stands_or_not : (entries : List Entry) (deed : Deed) (at : ℕ) (stood : Option Entry) (other : Verdict)
    → IsOnNew other → verdict_on_repeat entries deed at stood ≡ other → ⊥
stands_or_not entries deed at None other new is = subst IsOnNew (sym is) new
stands_or_not entries deed at (Some entry) other new is =
    content_or_not entries at (has_same_content entry.deed deed) other new is

repeats_no : (other : Verdict) → IsOnNew other → (entries : List Entry) (deed : Deed) (at : ℕ)
    → repeat_at entries deed at ≡ other → ⊥
repeats_no other new entries deed at is = stands_or_not entries deed at (slice_get entries at) other new is

-- what is told of a number that stands is of it
by_repeat : (entries : List Entry) (deed : Deed) (at : ℕ) (told : Refusal)
    → IsRefusal entries (repeat_at entries deed at) told → IsOfNumber told
by_repeat entries deed at (refusal.Kept stood held) is = tt
by_repeat entries deed at (refusal.Other (verdict.Kept stood)) is = absurd is.1
by_repeat entries deed at (refusal.Other (verdict.Gone stood freer)) is = tt
by_repeat entries deed at (refusal.Other (verdict.Other stood)) is = tt
by_repeat entries deed at (refusal.Other (verdict.BreaksRequest broken)) is =
    absurd (repeats_no (verdict.BreaksRequest broken) tt entries deed at is.0)
by_repeat entries deed at (refusal.Other (verdict.Taken claim owner)) is =
    absurd (repeats_no (verdict.Taken claim owner) tt entries deed at is.0)
by_repeat entries deed at (refusal.Other verdict.Unknown) is =
    absurd (repeats_no verdict.Unknown tt entries deed at is.0)
by_repeat entries deed at (refusal.Other (verdict.NotYours owner)) is =
    absurd (repeats_no (verdict.NotYours owner) tt entries deed at is.0)
by_repeat entries deed at (refusal.Other (verdict.AlreadyFreed freer)) is =
    absurd (repeats_no (verdict.AlreadyFreed freer) tt entries deed at is.0)
by_repeat entries deed at (refusal.Other verdict.Fresh) is =
    absurd (repeats_no verdict.Fresh tt entries deed at is.0)

pub of_number : (entries : List Entry) (owner : List ℕ) (number : ℕ) (deed : Deed) (told : Refusal)
    → IsFoundAgain entries owner number deed (Some told) → IsOfNumber told
of_number entries owner number deed told found = by_repeat entries deed found.0 told found.2

module _ (caller : Caller) (number : ℕ) (request : Request) (after : Option ℕ) where
  abbrev line : Line
  line = asking after number request

  abbrev its_entry : Path → Entry
  its_entry path = entry_of caller number (Grant (Asked request) path)

  own : (path : Path) → IsEntryOf caller (asking after number request).ask
      (entry_of caller number (Grant (Asked request) path))
  own path = record {
    number = number;
    deed = Grant (Asked request) path;
    numbered = refl;
    asked = (path, refl);
    entry_is = refl;
  }

  is_of : (bytes : List ℕ) → IsReadAs caller.known bytes (asking after number request) → (path : Path)
      → IsOf caller bytes (entry_of caller number (Grant (Asked request) path))
  is_of bytes read path = record { line = asking after number request; spelled = read.spells; own = own path }

  -- the line may take several turns
  long : (bytes : List ℕ) → IsReadAs caller.known bytes (asking after number request) → IsLong caller bytes
  long bytes read said spelled one =
      subst (λ (l : Line). TakesOneTurn caller.ruled l.ask) (read.only said spelled) one

  -- ---- the number stands

  again_by : (v m w : Sight) (h : List Entry) → IsReached (asking after number request) h → Looks m w
      → ((bytes : List ℕ) (said : Reply) → GivesLine caller bytes said h w.found.list w.seen
      → IsReadAs caller.known bytes (asking after number request) → added said ≡ [] → IsNotAgain said
      → ((ts : List Turn) → All IsSettled ts → Settle said ts)
      → ((ts : List Turn) → ts ≢ [] → HasTurns said ts) → AnswersBetween caller bytes said v w)
      → (path : Path) (told : Refusal) (said : Reply) (front : ℕ) → front ≡ length w.found.list
      → IsOfNumber told
      → IsRefusal w.found.list (verdict_on caller.timetable w.found.list
      (entry_of caller number (Grant (Asked request) path))) told
      → TellsAgain number front told said → AnswersLine caller (asking after number request) said v w
  again_by v m w h reached looks close path (refusal.Kept at deed) said front here of_number is tells =
      subst (λ r. AnswersLine caller (asking after number request) r v w) (sym tells)
      (λ bytes read. close bytes (reply.Kept number at front deed)
      (line, read.spells, (reached, refl, (its_entry path, own path, is.0), is.1, leaves m w looks front here))
      read refl tt (λ ts all. all) (λ ts some. some))
  again_by v m w h reached looks close path (refusal.Other (verdict.Gone at freer)) said front here of_number is tells =
      subst (λ r. AnswersLine caller (asking after number request) r v w) (sym tells)
      (λ bytes read. close bytes (reply.Gone number at freer front)
      (line, read.spells, (reached, refl, (its_entry path, own path, is.0), leaves m w looks front here))
      read refl tt (λ ts all. all) (λ ts some. some))
  again_by v m w h reached looks close path (refusal.Other (verdict.Other at)) said front here of_number is tells =
      subst (λ r. AnswersLine caller (asking after number request) r v w) (sym tells)
      (λ bytes read. close bytes (reply.Other number at front)
      (line, read.spells, (reached, refl, (its_entry path, own path, is.0), leaves m w looks front here))
      read refl tt (λ ts all. all) (λ ts some. some))
  again_by v m w h reached looks close path (refusal.Other (verdict.Kept at)) said front here of_number is tells = absurd of_number
  again_by v m w h reached looks close path (refusal.Other (verdict.BreaksRequest broken)) said front here of_number is tells = absurd of_number
  again_by v m w h reached looks close path (refusal.Other (verdict.Taken claim owner)) said front here of_number is tells = absurd of_number
  again_by v m w h reached looks close path (refusal.Other verdict.Unknown) said front here of_number is tells = absurd of_number
  again_by v m w h reached looks close path (refusal.Other (verdict.NotYours owner)) said front here of_number is tells = absurd of_number
  again_by v m w h reached looks close path (refusal.Other (verdict.AlreadyFreed freer)) said front here of_number is tells = absurd of_number
  again_by v m w h reached looks close path (refusal.Other verdict.Fresh) said front here of_number is tells = absurd of_number

  -- what a number that stands is told is of it
  repeats : (entries : List Entry) (path : Path) (at : ℕ)
      → place_of entries caller.name number ≡ Some at
      → verdict_on caller.timetable entries (entry_of caller number (Grant (Asked request) path))
      ≡ repeat_at entries (Grant (Asked request) path) at
  repeats entries path at is =
      ap (verdict_by_place caller.timetable entries (entry_of caller number (Grant (Asked request) path))) is

  -- the first turn found the number again
  pub found_line : (v w : Sight) → Looks v w → IsReachedBy after w.found.list → (path : Path)
      → (told : Refusal) (said : Reply) (front : ℕ) → front ≡ length w.found.list
      → IsFoundAgain w.found.list caller.name number (Grant (Asked request) path) (Some told)
      → IsOfNumber told → TellsAgain number front told said
      → AnswersLine caller (asking after number request) said v w
  found_line v w looks reached path told said front here found of_number tells =
      again_by v v w w.found.list reached looks
      (λ bytes r gives read. looked caller bytes v w r looks gives)
      path told said front here of_number
      (subst (λ s. IsRefusal w.found.list s told) (sym (repeats w.found.list path found.0 found.1)) found.2)
      tells

  -- ---- behind the first turn

  module _ (v u : Sight) (looks : Looks v u) (reached : IsReachedBy after u.found.list)
      (is_new : IsNewNumber caller.name number u.found.list)
      (allowed : IsAllowed caller (asking after number request) u.found.list) where
    pub wide_line : (front : ℕ) → front ≡ length u.found.list
        → HasMoreThan MAX_PLACES caller.timetable.net request
        → AnswersLine caller (asking after number request) (reply.Wide number front) v u
    wide_line front here wide bytes read =
        looked caller bytes v u (reply.Wide number front) looks
        (line, read.spells, (request, refl, reached, refl, is_new, allowed, wide, leaves v u looks front here))
        refl tt (λ ts all. all) (λ ts some. some)

    pub want_line : AnswersLine caller (asking after number request) reply.NoMemory v u
    want_line bytes read =
        looked caller bytes v u reply.NoMemory looks looks.same refl tt (λ ts all. all) (λ ts some. tt)

    module _ (narrow : IsNarrow caller request) (guide : Guide) where
      abbrev its_ask : Ask
      its_ask = record { number = number; line = caller.line_number; request = request; guide = guide }

      so : (bytes : List ℕ) → SoFar caller bytes v u u.found.list (u.found.list ∷ [])
      so bytes = first_look caller bytes v u looks

      -- what the turns found
      abbrev past : (count at front : ℕ) (w : Sight)
          → HaveMissed caller.timetable caller.name its_ask count at front u w → List (List Entry)
      past zero at front w is = u.found.list ∷ []
      past (suc count) at front w is = past count is.1 is.2 is.0 is.3 ++ w.seen ∷ []

      missed_so : (bytes : List ℕ) (count at front : ℕ) (w : Sight)
          → (is : HaveMissed caller.timetable caller.name its_ask count at front u w)
          → SoFar caller bytes v w u.found.list (past count at front w is)
      missed_so bytes zero at front w is =
          subst (λ (x : Sight). SoFar caller bytes v x u.found.list (u.found.list ∷ [])) (sym is) (so bytes)
      missed_so bytes (suc count) at front w is =
          next_look caller bytes v is.0 w u.found.list (past count is.1 is.2 is.0 is.3)
          (missed_so bytes count is.1 is.2 is.0 is.3) is.5.looks

      new_after : (count at front : ℕ) (w : Sight)
          → HaveMissed caller.timetable caller.name its_ask count at front u w
          → IsNewNumber caller.name number w.seen
      new_after zero at front w is =
          subst (λ (x : Sight). IsNewNumber caller.name number x.seen) (sym is)
          (subst (IsNewNumber caller.name number) (sym looks.same) is_new)
      new_after (suc count) at front w is =
          subst (IsNewNumber caller.name number) (sym is.5.looks.same) is.5.is_new

      searched : (g : List Entry) → IsNewNumber caller.name number g
          → IsSearched caller (asking after number request) number request u.found.list g
      searched g fresh = record {
        reached = reached;
        sought = refl;
        numbered = refl;
        is_new = fresh;
        allowed = allowed;
        narrow = narrow;
      }

      narrow_line : IsNarrowLine caller (asking after number request)
      narrow_line other is = subst (IsNarrow caller) is narrow

      adds : (w : Sight) (path : Path) (at front : ℕ)
          → IsAdded caller.timetable (entry_of caller number (Grant (Asked request) path)) at front w
          → Adds caller (asking after number request).ask w.found.list w.seen
          (entry_of caller number (Grant (Asked request) path)) number at front
      adds w path at front added = record {
        begins = record { own = own path; joins = added.may.joins; room = added.may.room };
        left_is = added.left;
        numbered = refl;
        stands = added.here;
        front_is = added.behind;
      }

      missed_as : (a b c d : List Entry) (at : ℕ) → a ≡ b → c ≡ d
          → IsMissed caller.timetable request a c at → IsMissed caller.timetable request b d at
      missed_as a b c d at first second is =
          subst (λ l. IsMissed caller.timetable request b l at) second
          (subst (λ l. IsMissed caller.timetable request l c at) first is)

      abbrev are_missed : (at front : ℕ) (w : Sight)
          → HaveMissed caller.timetable caller.name its_ask (suc (suc (suc zero))) at front u w
          → AreMissed caller.timetable request u.found.list w.seen front at
      are_missed at front w is =
          let third = is.0 in let two = is.3 in
          let second = two.0 in let one = two.3 in
          let begun = one.0 in let zero_is = one.3 in record {
            second = second.seen;
            third = third.seen;
            first_at = two.1;
            second_at = is.1;
            misses_first = missed_as begun.seen u.found.list second.found.list second.seen two.1
                (ap (λ (x : Sight). x.seen) zero_is ∙ looks.same) (sym one.5.looks.same) one.5.missed;
            misses_second = missed_as second.seen second.seen third.found.list third.seen is.1
                refl (sym two.5.looks.same) two.5.missed;
            misses_third = missed_as third.seen third.seen w.found.list w.seen at
                refl (sym is.5.looks.same) is.5.missed;
            stood = is.4;
          }

      -- the path that was found last was judged
      judged_line : (m w : Sight) → Searched caller.timetable caller.name its_ask u m
          → (told : Became) (runs : List Run) (front : ℕ) (said : Reply) → front ≡ length w.found.list
          → IsJudged caller.timetable caller.name its_ask told runs m w
          → TellsAsk number front (outcome.Entered told runs) said
          → AnswersLine caller (asking after number request) said v w
      judged_line m w s (became.Settled at behind) runs front said here j tells =
          let joins = j.entered.1.may.joins in
          subst (λ r. AnswersLine caller (asking after number request) r v w) (sym tells)
          (λ bytes read.
          entered_last caller bytes v m w u.found.list (past s.count s.at s.front m s.missed)
          (missed_so bytes s.count s.at s.front m s.missed) (long bytes read)
          (its_entry j.path) (is_of bytes read j.path) (reply.Granted number at behind runs) at behind j.entered.0 j.entered.1 (
            line,
            read.spells,
            (
              request,
              j.path,
              searched w.found.list (j.is_new joins),
              j.runs_are,
              j.fits joins,
              adds w j.path at behind j.entered.1,
              record {
                searched = m.seen;
                since = subst (StartsWith m.seen) looks.same (missed_on caller.timetable caller.name its_ask u s.count s.at s.front m s.missed);
                within = j.entered.0.goes_on;
                earliest = j.earliest;
              },
            ),
          )
          refl tt (λ ts all. all) (λ ts some. some))
      judged_line m w s (became.Unsettled at behind) runs front said here j tells =
          subst (λ r. AnswersLine caller (asking after number request) r v w) (sym tells)
          (λ bytes read.
          begun_last caller bytes v m w u.found.list (past s.count s.at s.front m s.missed)
          (missed_so bytes s.count s.at s.front m s.missed) (long bytes read)
          (its_entry j.path) (is_of bytes read j.path) number at behind j.entered.0 j.entered.1 j.entered.2
          (line, read.spells, (reached, allowed, narrow_line, (its_entry j.path, adds w j.path at behind j.entered.1))))
      judged_line m w s (became.Refused told) runs front said here j tells =
          again_by v m w u.found.list reached j.entered.looks
          (λ bytes r gives read. looked_last caller bytes v m w u.found.list (past s.count s.at s.front m s.missed)
          (missed_so bytes s.count s.at s.front m s.missed) (long bytes read) r j.entered.looks gives)
          j.path told said front here j.by_number j.entered.refusal tells
      judged_line m w s became.Full runs front said here j tells =
          subst (λ r. AnswersLine caller (asking after number request) r v w) (sym tells)
          (λ bytes read.
          looked_last caller bytes v m w u.found.list (past s.count s.at s.front m s.missed)
          (missed_so bytes s.count s.at s.front m s.missed) (long bytes read)
          (reply.Full number front) j.entered.looks (
            line,
            read.spells,
            (
              reached,
              allowed,
              narrow_line,
              refl,
              (its_entry j.path, own j.path, j.entered.joins, j.entered.no_room),
              leaves m w j.entered.looks front here,
            ),
          )
          refl tt (λ ts all. all) (λ ts some. some))

      pub asked_line : (w : Sight) (told : Outcome) (front : ℕ) (said : Reply)
          → IsTheFront told front w
          → HasSearched caller.timetable caller.name its_ask told u w → TellsAsk number front told said
          → AnswersLine caller (asking after number request) said v w
      asked_line w (outcome.Entered told runs) front said here is tells =
          judged_line is.0 w is.1 told runs front said here is.2 tells
      asked_line w outcome.NoPath front said here is tells =
          let s = is.0 in
          subst (λ r. AnswersLine caller (asking after number request) r v w) (sym tells)
          (λ bytes read.
          answered_now caller bytes v w u.found.list (past s.count s.at s.front w s.missed)
          (reply.NoPath number front) (missed_so bytes s.count s.at s.front w s.missed) (
            line,
            read.spells,
            (
              request,
              searched w.seen (new_after s.count s.at s.front w s.missed),
              is.1,
              record { same = refl; front_is = here },
            ),
          )
          refl (long bytes read) tt (λ ts all. all) (λ ts some. some))
      asked_line w (outcome.Again at stood) front said here is tells =
          subst (λ r. AnswersLine caller (asking after number request) r v w) (sym tells)
          (λ bytes read.
          answered_now caller bytes v w u.found.list (past (suc (suc (suc zero))) at stood w is)
          (reply.Again number at stood front) (missed_so bytes (suc (suc (suc zero))) at stood w is) (
            line,
            read.spells,
            (
              request,
              searched w.seen (new_after (suc (suc (suc zero))) at stood w is),
              are_missed at stood w is,
              record { same = refl; front_is = here },
            ),
          )
          refl (long bytes read)
          (line, request, read.spells, refl, (are_missed at stood w is, (missed_so bytes (suc (suc (suc zero))) at stood w is).looks))
          (λ ts all. all) (λ ts some. some))

      stopped_in : (m w : Sight) → Searched caller.timetable caller.name its_ask u m → (told : Halt)
          → Stops caller.timetable caller.name its_ask told m w
          → AnswersLine caller (asking after number request) (halt_reply told) v w
      stopped_in m w s told (inl none) bytes read =
          subst (λ t. AnswersBetween caller bytes (halt_reply t) v w) (sym none.0)
          (subst (λ x. AnswersBetween caller bytes reply.NoMemory v x) (sym none.1)
          (answered_now caller bytes v m u.found.list (past s.count s.at s.front m s.missed) reply.NoMemory
          (missed_so bytes s.count s.at s.front m s.missed) refl refl (long bytes read) tt (λ ts all. all) (λ ts some. tt)))
      stopped_in m w s halt.DiskFault (inr stops) bytes read =
          let past_are = past s.count s.at s.front m s.missed in
          let now = missed_so bytes s.count s.at s.front m s.missed in
          ⊎_elim
          (λ fails. not_settled_last caller bytes v m w u.found.list past_are now (long bytes read) (line, read.spells, fails.same) fails)
          (λ fails. not_begun_last caller bytes v m w u.found.list past_are now (long bytes read) (its_entry stops.0) (is_of bytes read stops.0)
          (line, read.spells, fails.0.same) fails.0)
          stops.1
      stopped_in m w s halt.NoMemory (inr stops) bytes read =
          looked_last caller bytes v m w u.found.list (past s.count s.at s.front m s.missed)
          (missed_so bytes s.count s.at s.front m s.missed) (long bytes read)
          reply.NoMemory stops.1 stops.1.same refl tt (λ ts all. all) (λ ts some. tt)
      stopped_in m w s (halt.Ahead named front) (inr stops) bytes read =
          absurd (none_named named stops.1.1.asked)
        where
          none_named : (n : ℕ) → None ≡ Some n → ⊥
          none_named n wrong = cc

      pub halted_ask : (w : Sight) (told : Halt)
          → HasStopped caller.timetable caller.name its_ask told u w
          → AnswersLine caller (asking after number request) (halt_reply told) v w
      halted_ask w told is = stopped_in is.0 w is.1 told is.2
