-- Lines that are a worker's own, answered by it one after another.
use Rattle.std.proofs.Common.{◌≡◌, ℕ, ◌+◌, ◌<◌, ◌≤◌, All, true, false, cond, List, [], ◌∷◌, ◌++◌}
use Rattle.std.proofs.Common.{Option, None, Some, get_or, length, nat_eq, set, sym, refl, ap, ◌∙◌}
use Rattle.std.proofs.Common.{subst, arith}
use native.Mathlib.Decide.{ℕ_discrete}
use Rattle.std.proofs.lemmas.Bool.{eq-eqb, ne_eqb}
use Rattle.std.proofs.lemmas.List.{append-nil, get_or_default, get_or-set_other, get_or-set_same}
use Rattle.std.proofs.lemmas.List.{length_push}
use Rattle.std.proofs.lemmas.List.Elements.{All-set}
use Rattle.served_clients.specs.admission.declared.rules.Rule.{Ghosts as Rules}
use Rattle.batch_command.specs.Batches.{is_of, line_at}
use Rattle.batch_command.specs.Clerks.{Answers, answers_by, EachWent, IsSound, lines_left, told_of}
use Rattle.batch_command.specs.Clerks.{Went}
use Rattle.batch_command.specs.declared.batch_server.clerks.Clerk.{Clerk}
use Rattle.served_clients.specs.Seats.{AnswersAt}
use Rattle.served_clients.proofs.Owned.{filter-append}
use Rattle.served_clients.specs.sessions.Told.{AreAnswered}
use Rattle.served_clients.specs.lines.declared.reply_texts.replies.Reply.{Reply}
use Rattle.batch_command.proofs.Clerking.{answered_append, length_told, told_append}

-- those of the answers that are to lines of one worker, with one answer more
module _ (owners : List (Option ℕ)) where
  mine : (answers : List (ℕ × Reply)) (at worker : ℕ) (reply : Reply) → get_or owners at None ≡ Some worker → (k : ℕ) → nat_eq worker k ≡ true
      → answers_by owners k (answers ++ (at, reply) ∷ []) ≡ answers_by owners k answers ++ (at, reply) ∷ []
  mine answers at worker reply owner k same =
      filter-append (λ (a : ℕ × Reply). is_of k (get_or owners a.0 None)) answers ((at, reply) ∷ [])
      ∙ ap (λ b. answers_by owners k answers ++ cond b ((at, reply) ∷ []) []) (ap (is_of k) owner ∙ same)

  not_mine : (answers : List (ℕ × Reply)) (at worker : ℕ) (reply : Reply) → get_or owners at None ≡ Some worker → (k : ℕ) → nat_eq worker k ≡ false
      → answers_by owners k (answers ++ (at, reply) ∷ []) ≡ answers_by owners k answers
  not_mine answers at worker reply owner k other =
      filter-append (λ (a : ℕ × Reply). is_of k (get_or owners a.0 None)) answers ((at, reply) ∷ [])
      ∙ ap (λ b. answers_by owners k answers ++ cond b ((at, reply) ∷ []) []) (ap (is_of k) owner ∙ other)
      ∙ append-nil (answers_by owners k answers)

module _ {D Btw L : Type 0} (kind : Rules L) (lines : List (List ℕ)) (owners : List (Option ℕ)) where
  -- before the first line
  pub went_none : (olds : List (Clerk D Btw L)) → All (λ c. c.asked ≡ 0) olds → All IsSound olds → EachWent kind lines owners [] olds olds
  went_none olds fresh sound = λ k d less. record { name = refl; asked = fresh k d less; sound = sound k d less; answered = refl }

  -- one line more
  went_one : (answers : List (ℕ × Reply)) (at : ℕ) (reply : Reply) (old mid new : Clerk D Btw L) → Went kind (told_of lines answers) old mid
      → Answers kind mid (line_at lines at) reply new → IsSound new → Went kind (told_of lines (answers ++ (at, reply) ∷ [])) old new
  went_one answers at reply old mid new went step sound =
      let one : List (ℕ × Reply) = (at, reply) ∷ [] in
      let whole = told_append lines answers one in
      let long = length_told lines answers in
      let before = went.asked in let next = step.asked in
      let longer : length (told_of lines answers ++ told_of lines one) ≡ length (told_of lines answers) + 1 = length_push (told_of lines answers) _ in record {
        name = step.name ∙ went.name;
        asked = next ∙ ap (λ n. n + 1) before ∙ sym longer ∙ ap length (sym whole);
        sound = sound;
        answered = subst (λ l. AreAnswered (AnswersAt kind) 1 l old.seat new.seat) (sym whole)
            (answered_append (AnswersAt kind) 1 (told_of lines answers) (told_of lines one) old.seat mid.seat new.seat (mid.asked + 1) went.answered (omega arith)
            (new.seat, step.at_seat, refl));
      }

  -- the worker whose line this is answered it, and no other worker did
  pub went_more : (answers : List (ℕ × Reply)) (at worker : ℕ) (reply : Reply) (olds news : List (Clerk D Btw L)) (new : Clerk D Btw L)
      → get_or owners at None ≡ Some worker → worker < length news → length news ≡ length olds → EachWent kind lines owners answers olds news
      → Answers kind (get_or news worker new) (line_at lines at) reply new → IsSound new
      → EachWent kind lines owners (answers ++ (at, reply) ∷ []) olds (set news worker new)
  went_more answers at worker reply olds news new owner there long each step sound k d less =
      elim (ℕ_discrete k worker) [
        | yes same ↦
            let told = mine owners answers at worker reply owner k (eq-eqb worker k (sym same)) in
            let now : get_or (set news worker new) k d ≡ new = ap (λ i. get_or (set news worker new) i d) same ∙ get_or-set_same news worker new d there in
            let mid : Clerk D Btw L = get_or news worker new in
            let was : get_or news k d ≡ mid = ap (λ i. get_or news i d) same ∙ get_or_default news worker d new there in
            let before : Went kind (told_of lines (answers_by owners k answers)) (get_or olds k d) mid =
            subst (Went kind (told_of lines (answers_by owners k answers)) (get_or olds k d)) was (each k d less) in
            subst (λ l. Went kind (told_of lines l) (get_or olds k d) (get_or (set news worker new) k d)) (sym told)
            (subst (Went kind (told_of lines (answers_by owners k answers ++ (at, reply) ∷ [])) (get_or olds k d)) (sym now)
            (went_one (answers_by owners k answers) at reply (get_or olds k d) mid new before step sound))
        | no other ↦
            let told = not_mine owners answers at worker reply owner k (ne_eqb worker k (λ e. other (sym e))) in
            subst (λ l. Went kind (told_of lines l) (get_or olds k d) (get_or (set news worker new) k d)) (sym told)
            (subst (Went kind (told_of lines (answers_by owners k answers)) (get_or olds k d)) (sym (get_or-set_other news worker k new d other)) (each k d less))
      ]

-- each worker may still be asked as many lines as are left
pub left_more : {D Btw L : Type 0} (lines count : ℕ) (clerks : List (Clerk D Btw L)) (worker : ℕ) (new : Clerk D Btw L) → worker < length clerks
    → All (λ c. lines ≤ lines_left c + count) clerks → lines_left (get_or clerks worker new) ≤ lines_left new + 1
    → All (λ c. lines ≤ lines_left c + (count + 1)) (set clerks worker new)
left_more {D} {Btw} {L} lines count clerks worker new there each less =
    let P : Clerk D Btw L → Type 0 = λ c. lines ≤ lines_left c + (count + 1) in
    let here : lines ≤ lines_left (get_or clerks worker new) + count = each worker new there in
    All-set P clerks worker new (omega arith) (λ k d below. let one : lines ≤ lines_left (get_or clerks k d) + count = each k d below in omega arith)
