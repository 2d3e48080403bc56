-- What a line is told that a rule denies.
use Rattle.std.proofs.Common.{◌≡◌, ℕ, ◌≤◌, List, Option, Some, None, length, ap, sym, ◌∙◌, subst}
use Rattle.std.proofs.Common.{refl}
use Rattle.std.proofs.lemmas.Option.{slice_get_past}
use mathlib.Core.Logic.{inl}
use Rattle.client_lines.specs.declared.asks.Ask.TheVariants as asks
use Rattle.client_lines.specs.declared.asks.Line.{Line}
use Rattle.ask_turns.specs.history.Live.{freed_by}
use Rattle.ask_turns.specs.history.Verdict.{place_of, verdict_by_place, verdict_on_free}
use Rattle.rail_types.specs.declared.entries.Deed.{Deed}
use Rattle.rail_types.specs.declared.entries.Deed.TheVariants.{Free}
use Rattle.rail_types.specs.declared.entries.Entry.{Entry}
use Rattle.client_lines.specs.declared.reply_texts.replies.Reply.{Reply}
use Rattle.client_lines.specs.declared.reply_texts.replies.Reply.TheVariants as reply
use Rattle.admission_rules.specs.declared.rule_names.RuleName.{RuleName}
use Rattle.ask_turns.specs.declared.client_turns.told.Refusal.{Refusal}
use Rattle.ask_turns.specs.Told.{IsFoundAgain, IsRefusal}
use Rattle.ask_turns.specs.Turns.{Looks, Sight}
use Rattle.line_answers.specs.Answers.{Caller, IsDeedOf, IsNewNumber, IsReached, MayBeDenied}
use Rattle.line_answers.specs.Answers.{entry_of, number_of}
use Rattle.line_answers.specs.Callers.{AnswersLine}
use Rattle.line_answers.specs.Tells.{TellsAgain}
use Rattle.line_answers.proofs.Calls.{looked}
use Rattle.line_answers.proofs.Rows.{again, leaves}

module _ (caller : Caller) (line : Line) (number : ℕ) (numbered : number_of line.ask ≡ Some number) (v w : Sight)
    (looks : Looks v w) (reached : IsReached line w.found.list) (front : ℕ) (here : front ≡ length w.found.list) where
  pub denied_line : (rule : RuleName) → MayBeDenied line.ask → IsNewNumber caller number w.found.list
      → caller.denied w.found.list line ≡ Some rule → AnswersLine caller line (reply.Denied number rule front) v w
  denied_line rule may is_new denied bytes read =
      looked caller bytes v w (reply.Denied number rule front) looks
      (line, read.spells, (reached, may, numbered, is_new, denied, leaves v w looks front here))
      refl tt (λ ts all. all) (λ ts some. some)

  -- the number stands already
  pub again_line : (deed : Deed) → IsDeedOf line.ask deed → (told : Refusal) (said : Reply)
      → IsFoundAgain w.found.list caller.name number deed (Some told) → TellsAgain number front told said
      → AnswersLine caller line said v w
  again_line deed asked told said found tells =
      again caller line number deed numbered asked v w reached front here told said looks
      (subst (λ s. IsRefusal w.found.list s told)
      (sym (ap (verdict_by_place caller.timetable w.found.list (entry_of caller number deed)) found.1)) found.2)
      tells

-- nothing stands where the line would free something
pub unknown_line : (caller : Caller) (after : Option ℕ) (number freed : ℕ) (v w : Sight) → Looks v w
    → IsReached (record { after = after; ask = asks.Free number freed }) w.found.list
    → (front : ℕ) → front ≡ length w.found.list → place_of w.found.list caller.name number ≡ None
    → length w.found.list ≤ freed
    → AnswersLine caller (record { after = after; ask = asks.Free number freed }) (reply.Unknown freed front) v w
unknown_line caller after number freed v w looks reached front here none past bytes read =
    let g : List Entry = w.found.list in
    let entry : Entry = entry_of caller number (Free freed) in
    looked caller bytes v w (reply.Unknown freed front) looks (
      record { after = after; ask = asks.Free number freed },
      read.spells,
      (
        reached,
        leaves v w looks front here,
        inl (
          number,
          refl,
          (
            entry,
            record { number = number; deed = Free freed; numbered = refl; asked = refl; entry_is = refl },
            ap (verdict_by_place caller.timetable g entry) none
                ∙ ap (λ stands. verdict_on_free caller.name stands (freed_by g freed)) (slice_get_past g freed past),
          ),
        ),
      ),
    )
    refl tt (λ ts all. all) (λ ts some. some)
