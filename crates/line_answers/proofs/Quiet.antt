-- A reply that added nothing, and whose text could not be made.
use Rattle.std.proofs.Common.{◌≡◌, ℕ, true, false, All, IfErr, IfOk, IsOk, List, [], Result, Ok, Err, ◌∙◌, subst, refl}
use Rattle.book_gate.specs.declared.views.Turn.{Turn}
use Rattle.rail_types.specs.declared.entries.Entry.{Entry}
use Rattle.client_lines.specs.declared.reply_texts.replies.Reply.{Reply}
use Rattle.client_lines.specs.declared.reply_texts.replies.Reply.TheVariants as reply
use Rattle.ask_turns.specs.Turns.{Sight}
use Rattle.line_answers.specs.Answers.{Caller, GivesLine}
use Rattle.line_answers.specs.Calls.{AnswersBetween, IsSettled, IsToldIn, Settle}
use Rattle.line_answers.specs.Points.{added, unsettled_by}
use Rattle.line_answers.specs.Tells.{AddsNothing}

record Quiet (caller : Caller) (bytes : List ℕ) (told : Reply) (h g left : List Entry) (turns : List Turn) : Type 0 where
  same : left ≡ g
  none : added told ≡ []
  told_none : unsettled_by told ≡ []
  settled : All IsSettled turns

module _ (caller : Caller) (bytes : List ℕ) (h g left : List Entry) (turns : List Turn) where
  quiet : (told : Reply) → AddsNothing told → GivesLine caller bytes told h g left → Settle told turns → Quiet caller bytes told h g left turns
  quiet (reply.Held number at front) adds gives settle = absurd adds
  quiet (reply.Pinned number at front) adds gives settle = absurd adds
  quiet (reply.Granted number at front runs) adds gives settle = absurd adds
  quiet (reply.Freed number at freed front) adds gives settle = absurd adds
  quiet (reply.Kept number at front deed) adds gives settle = record { same = gives.2.4.same; none = refl; told_none = refl; settled = settle }
  quiet (reply.Shown at front entry freer) adds gives settle = record { same = gives.2.4.same; none = refl; told_none = refl; settled = settle }
  quiet (reply.Front front) adds gives settle = record { same = gives.2.2.same; none = refl; told_none = refl; settled = settle }
  quiet (reply.Bad field) adds gives settle = record { same = gives.1; none = refl; told_none = refl; settled = settle }
  quiet (reply.Denied number rule front) adds gives settle = record { same = gives.2.5.same; none = refl; told_none = refl; settled = settle }
  quiet (reply.Ahead after front) adds gives settle = record { same = gives.2.3.same; none = refl; told_none = refl; settled = settle }
  quiet (reply.Other number at front) adds gives settle = record { same = gives.2.3.same; none = refl; told_none = refl; settled = settle }
  quiet (reply.Gone number at freer front) adds gives settle = record { same = gives.2.3.same; none = refl; told_none = refl; settled = settle }
  quiet (reply.Taken number zone owner front) adds gives settle = record { same = gives.2.5.same; none = refl; told_none = refl; settled = settle }
  quiet (reply.Breaks number run rule front) adds gives settle = record { same = gives.2.5.same; none = refl; told_none = refl; settled = settle }
  quiet (reply.NoPath number front) adds gives settle = record { same = gives.2.3.same; none = refl; told_none = refl; settled = settle }
  quiet (reply.Again number at searched front) adds gives settle = record { same = gives.2.3.same; none = refl; told_none = refl; settled = settle }
  quiet (reply.Unknown at front) adds gives settle = record { same = gives.2.1.same; none = refl; told_none = refl; settled = settle }
  quiet (reply.NotYours number at owner front) adds gives settle = record { same = gives.2.3.same; none = refl; told_none = refl; settled = settle }
  quiet (reply.AlreadyFreed number at freer front) adds gives settle = record { same = gives.2.3.same; none = refl; told_none = refl; settled = settle }
  quiet (reply.Wide number front) adds gives settle = record { same = gives.2.7.same; none = refl; told_none = refl; settled = settle }
  quiet (reply.Full number front) adds gives settle = record { same = gives.2.5.same; none = refl; told_none = refl; settled = settle }
  quiet (reply.Unsettled number at front) adds gives settle = absurd adds
  quiet reply.DiskFault adds gives settle = absurd adds
  quiet reply.NoMemory adds gives settle = record { same = gives; none = refl; told_none = refl; settled = settle }

-- want of memory may be told in its place
pub untold : (caller : Caller) (bytes : List ℕ) (told : Reply) (v w : Sight) → AddsNothing told → AnswersBetween caller bytes told v w → AnswersBetween caller bytes reply.NoMemory v w
untold caller bytes told v w adds between =
    let so = between.answers in
    let is = quiet caller bytes between.h between.g w.seen between.turns told adds so.gives so.settle in record {
      turns = between.turns;
      h = between.h;
      g = between.g;
      taken = between.taken;
      share = between.share;
      goes_on = between.goes_on;
      keeps = between.keeps;
      still = between.still;
      answers = record {
        gives = is.same;
        first = so.first;
        last = so.last;
        later = so.later;
        own_entries = so.own_entries ∙ is.none;
        events = so.events;
        in_step = subst (λ l. All (IsToldIn l) between.turns) is.told_none so.in_step;
        settle = is.settled;
        turns_are = tt;
        at_once = so.at_once;
        searches = tt;
      };
    }

pub if_err : {T E : Type 0} (P : Type 0) (result : Result T E) → P → IfErr result (λ refused. P)
if_err P (Ok value) told = tt
if_err P (Err refused) told = told

-- what was told was not refused
pub told_err : {T E : Type 0} (P : E → Type 0) (result : Result T E) → IsOk result → IfErr result P
told_err P (Ok value) ok = tt
told_err P (Err refused) ok = absurd (let wrong : false ≡ true = ok in cc)

-- what holds of a value by two clauses
pub both_ok : {T E : Type 0} {P Q : T → Type 0} (result : Result T E) (R : T → Type 0)
    → ((value : T) → P value → Q value → R value) → IfOk result P → IfOk result Q → IfOk result R
both_ok (Ok value) R so one other = so value one other
both_ok (Err refused) R so one other = tt
