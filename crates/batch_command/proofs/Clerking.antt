-- Lines that a worker answered, one after another.
use Rattle.std.proofs.Common.{◌≡◌, ℕ, suc, ◌+◌, List, [], ◌∷◌, ◌++◌, length, sym, refl, ap, ◌∙◌}
use Rattle.std.proofs.Common.{subst, arith}
use Rattle.served_clients.specs.admission.declared.rules.Rule.{Ghosts as Rules}
use Rattle.batch_pool.specs.Batches.{Leads}
use Rattle.batch_command.specs.Clerks.{Answers, told_of}
use Rattle.batch_command.specs.declared.batch_server.clerks.Clerk.{Clerk}
use Rattle.served_clients.specs.Seats.{AnswersAt}
use Rattle.served_clients.specs.sessions.Told.{AreAnswered, Told}
use Rattle.served_clients.specs.lines.declared.reply_texts.replies.Reply.{Reply}

pub answered_append : {Desk : Type 0} (answers : Desk → ℕ → List ℕ → Reply → List ℕ → Desk → Type 0) (number : ℕ) (front back : List Told) (old mid new : Desk) (at : ℕ)
    → AreAnswered answers number front old mid → at ≡ number + length front → AreAnswered answers at back mid new → AreAnswered answers number (front ++ back) old new
answered_append answers number [] back old mid new at same is all =
    let here : at ≡ number = omega (arith, is) in
    subst (λ d. AreAnswered answers number back d new) same (subst (λ n. AreAnswered answers n back mid new) here all)
answered_append answers number (one ∷ front) back old mid new at before is all =
    (before.0, before.1, answered_append answers (number + 1) front back before.0 mid new at before.2 (omega (arith, is)) all)

module _ (lines : List (List ℕ)) where
  pub told_append : (front back : List (ℕ × Reply)) → told_of lines (front ++ back) ≡ told_of lines front ++ told_of lines back
  told_append [] back = refl
  told_append (a ∷ front) back = ap (λ l. (told_of lines (a ∷ [])) ++ l) (told_append front back)

  pub length_told : (answers : List (ℕ × Reply)) → length (told_of lines answers) ≡ length answers
  length_told [] = refl
  length_told (a ∷ answers) = ap suc (length_told answers)

module _ {D Btw L : Type 0} (kind : Rules L) (lines : List (List ℕ)) where
  -- a worker that went from line to line
  pub record Led (answers : List (ℕ × Reply)) (old new : Clerk D Btw L) : Type 0 where
    pub name : new.name ≡ old.name
    pub asked : new.asked ≡ old.asked + length answers
    pub answered : AreAnswered (AnswersAt kind) (old.asked + 1) (told_of lines answers) old.seat new.seat

  pub leads_led : (answers : List (ℕ × Reply)) (old new : Clerk D Btw L)
      → Leads (λ (c : Clerk D Btw L) at text told d. Answers kind c text told d) lines old answers new → Led answers old new
  leads_led [] old new same = record {
    name = ap (λ (c : Clerk D Btw L). c.name) (sym same);
    asked = let e = ap (λ (c : Clerk D Btw L). c.asked) (sym same) in omega arith;
    answered = ap (λ (c : Clerk D Btw L). c.seat) (sym same);
  }
  leads_led ((at, reply) ∷ answers) old new led =
      let mid : Clerk D Btw L = led.0 in let step = led.1 in
      let rest = leads_led answers mid new led.2 in
      let next : mid.asked + 1 ≡ old.asked + 1 + 1 = ap (λ n. n + 1) step.asked in record {
        name = rest.name ∙ step.name;
        asked = let e = rest.asked in let f = step.asked in omega arith;
        answered = (mid.seat, step.at_seat, subst (λ n. AreAnswered (AnswersAt kind) n (told_of lines answers) mid.seat new.seat) next rest.answered);
      }
