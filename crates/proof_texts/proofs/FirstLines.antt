-- What the first two lines of a proof say, as they are written.
use Rattle.std.proofs.Common.{◌≡◌, ◌∙◌, ap, sym, refl, subst, ℕ, ◌≤◌, ◌+◌, List, [], ◌∷◌, ◌++◌, decimal, arith}
use Rattle.std.specs.Prelude.{codes}
use Rattle.std.proofs.lemmas.List.{append-nil}
use Rattle.rail_types.specs.declared.limits.TheConstants.{MAX_NUMBER}
use Rattle.client_lines.specs.Forms.{Form, Spells, a_number, a_word, chain, done}
use Rattle.client_lines.specs.Lines.{a_position, a_request}
use Rattle.client_lines.specs.Names.{Names}
use Rattle.proof_texts.specs.declared.heads.Head.{Head}
use Rattle.proof_texts.specs.Forms.{a_count, a_head, is_word, the_word}
use Rattle.proof_texts.specs.Lines.{proof_of}
use Rattle.proof_texts.specs.Texts.{asked_fields, count_fields, head_fields, request_fields}
use Rattle.proof_texts.specs.Told.{IsRequestOf}
use Rattle.proof_texts.proofs.Spelled.{IsSpelled, request_is}
use Rattle.proof_texts.proofs.Words.{first_of, is_word-same, tell_number, then_one, word_is}

-- what is known of the first line
pub record IsHead (known : Names) (head : Head) : Type 0 where
  pub front : head.at ≤ MAX_NUMBER
  pub line : head.number ≤ MAX_NUMBER
  pub request : IsRequestOf known head.request

abbrev pub head_text : List (List ℕ) → Head → List (List ℕ)
head_text stops head = head_fields stops (proof_of head [])

module _ (known : Names) where
  abbrev stops : List (List ℕ)
  stops = known.railway.stops

  abbrev requested : ℕ → ℕ → Form Head
  requested at number = chain (a_request known) (λ request. done (record { at = at; number = number; request = request }))

  abbrev numbered : ℕ → Form Head
  numbered at = chain a_position (λ number. requested at number)

  abbrev asked : ℕ → Form Head
  asked at = chain (the_word (codes "ask")) (λ asks. numbered at)

  abbrev fronted : Form Head
  fronted = chain a_position (λ at. asked at)

  abbrev here : Form Head
  here = chain (the_word (codes "at")) (λ here. fronted)

  head_told : (fields : List (List ℕ)) (head : Head) → Spells (a_head known) fields head → (fields ≡ head_text stops head) × IsHead known head
  unfolding a_head
  head_told fields head s =
      let begin = first_of (a_word (is_word (codes "proof"))) (λ begin. here) fields head s in
      let at_word = first_of (a_word (is_word (codes "at"))) (λ here. fronted) begin.rest head begin.spelled in
      let at = first_of (a_number 0 (MAX_NUMBER + 1)) asked at_word.rest head at_word.spelled in
      let ask_word = first_of (a_word (is_word (codes "ask"))) (λ asks. numbered at.first) at.rest head at.spelled in
      let number = first_of (a_number 0 (MAX_NUMBER + 1)) (requested at.first) ask_word.rest head ask_word.spelled in
      let more = number.spelled in
      let request = (request_is known).told more.1 more.0 more.4 in
      let behind : number.rest ≡ request_fields stops more.0 = more.3 ∙ (ap (λ (back : List (List ℕ)). more.1 ++ back) more.5.0 ∙ append-nil more.1) ∙ request.0 in
      let all : fields ≡ begin.field ∷ (at_word.field ∷ (at.field ∷ (ask_word.field ∷ (number.field ∷ number.rest)))) =
      begin.parts ∙ ap (λ (rest : List (List ℕ)). begin.field ∷ rest) (at_word.parts ∙ ap (λ (rest : List (List ℕ)). at_word.field ∷ rest)
      (at.parts ∙ ap (λ (rest : List (List ℕ)). at.field ∷ rest) (ask_word.parts ∙ ap (λ (rest : List (List ℕ)). ask_word.field ∷ rest) number.parts))) in
      let begin_is : begin.field ≡ codes "proof" = word_is (codes "proof") begin.field begin.first begin.says in
      let at_word_is : at_word.field ≡ codes "at" = word_is (codes "at") at_word.field at_word.first at_word.says in
      let at_is : at.field ≡ decimal at.first = at.says.0 in
      let ask_word_is : ask_word.field ≡ codes "ask" = word_is (codes "ask") ask_word.field ask_word.first ask_word.says in
      let number_is : number.field ≡ decimal number.first = number.says.0 in
      let texts : begin.field ∷ (at_word.field ∷ (at.field ∷ (ask_word.field ∷ (number.field ∷ number.rest)))) ≡ head_text stops (record { at = at.first; number = number.first; request = more.0 }) =
      rw (begin_is, at_word_is, at_is, ask_word_is, number_is, behind) refl in
      subst (λ (one : Head). (fields ≡ head_text stops one) × IsHead known one) (sym more.5.1)
      (all ∙ texts, record { front = omega (arith, at.says.3); line = omega (arith, number.says.3); request = request.1 })

  tell_head : (head : Head) → IsHead known head → Spells (a_head known) (head_text stops head) head
  unfolding a_head
  tell_head head is =
      then_one (a_word (is_word (codes "proof"))) (λ begin. here) (codes "proof") (codes "at" ∷ (decimal head.at ∷ asked_fields stops (proof_of head []))) tt head (is_word-same (codes "proof"))
      (then_one (a_word (is_word (codes "at"))) (λ here. fronted) (codes "at") (decimal head.at ∷ asked_fields stops (proof_of head [])) tt head (is_word-same (codes "at"))
      (then_one (a_number 0 (MAX_NUMBER + 1)) asked (decimal head.at) (asked_fields stops (proof_of head [])) head.at head (tell_number (MAX_NUMBER + 1) head.at (omega (arith, is.front)) (omega (arith, is.front)))
      (then_one (a_word (is_word (codes "ask"))) (λ asks. numbered head.at) (codes "ask") (decimal head.number ∷ request_fields stops head.request) tt head (is_word-same (codes "ask"))
      (then_one (a_number 0 (MAX_NUMBER + 1)) (requested head.at) (decimal head.number) (request_fields stops head.request) head.number head (tell_number (MAX_NUMBER + 1) head.number (omega (arith, is.line)) (omega (arith, is.line)))
      (head.request, request_fields stops head.request, [], sym (append-nil (request_fields stops head.request)), (request_is known).tells head.request is.request, (refl, refl))))))

  pub head_is : IsSpelled (a_head known) (head_text stops) (IsHead known)
  head_is = record { told = head_told; tells = tell_head }

abbrev pub IsCount : ℕ → Type 0
IsCount count = count ≤ MAX_NUMBER

pub count_is : IsSpelled a_count count_fields IsCount
unfolding a_count
count_is = record {
  told = λ fields count s.
      let begin = first_of (a_word (is_word (codes "members"))) (λ begin. chain a_position (λ count. done count)) fields count s in
      let number = first_of (a_number 0 (MAX_NUMBER + 1)) (λ count. done count) begin.rest count begin.spelled in
      let begin_is : begin.field ≡ codes "members" = word_is (codes "members") begin.field begin.first begin.says in
      let number_is : number.field ≡ decimal number.first = number.says.0 in
      let none : number.rest ≡ [] = number.spelled.0 in
      let all : fields ≡ begin.field ∷ (number.field ∷ number.rest) = begin.parts ∙ ap (λ (rest : List (List ℕ)). begin.field ∷ rest) number.parts in
      let texts : begin.field ∷ (number.field ∷ number.rest) ≡ count_fields number.first = rw (begin_is, number_is, none) refl in
      subst (λ (one : ℕ). (fields ≡ count_fields one) × IsCount one) (sym number.spelled.1) (all ∙ texts, omega (arith, number.says.3));
  tells = λ count is.
      then_one (a_word (is_word (codes "members"))) (λ begin. chain a_position (λ count. done count)) (codes "members") (decimal count ∷ []) tt count (is_word-same (codes "members"))
      (then_one (a_number 0 (MAX_NUMBER + 1)) (λ count. done count) (decimal count) [] count count (tell_number (MAX_NUMBER + 1) count (omega (arith, is)) (omega (arith, is))) (refl, refl));
}
