-- The lines of the demo, one after another.
use Rattle.std.proofs.Common.{◌≡◌, ℕ, ◌+◌, List, [], ◌∷◌, ◌++◌, ◌∙◌, ap, refl, sym, add-one}
use Rattle.std.proofs.Common.{append_assoc}
use Rattle.served_clients.specs.sessions.Lines.{ended}
use Rattle.demo_command.specs.Lines.{ask_text, departure, drawn, first_lines, next}

pub drawn_first : (number : ℕ) → drawn number 0 ≡ number
unfolding drawn
drawn_first number = refl

pub drawn_next : (number line : ℕ) → drawn number (line + 1) ≡ next (drawn number line)
unfolding drawn
drawn_next number line = rw add-one refl

pub lines_none : (number : ℕ) → first_lines number 0 ≡ []
unfolding first_lines
lines_none number = refl

pub lines_more : (number count : ℕ) → first_lines number (count + 1) ≡ first_lines number count ++ ask_text (count + 1) (departure number (count + 1)) ∷ []
unfolding first_lines
lines_more number count = rw add-one refl

pub ended_more : (lines : List (List ℕ)) (line : List ℕ) → ended (lines ++ line ∷ []) ≡ ended lines ++ (line ++ 10 ∷ [])
ended_more [] line = refl
ended_more (first ∷ lines) line = ap (λ rest. first ++ 10 ∷ rest) (ended_more lines line) ∙ sym (append_assoc first (10 ∷ ended lines) (line ++ 10 ∷ []))

-- a text of the first lines, with one line more
pub text_more : (number count tick : ℕ) (text new : List ℕ) → text ≡ ended (first_lines number count) → tick ≡ departure number (count + 1) → new ≡ text ++ ask_text (count + 1) tick ++ 10 ∷ []
    → new ≡ ended (first_lines number (count + 1))
text_more number count tick text new is at_tick wrote =
    wrote ∙ append_assoc text (ask_text (count + 1) tick) (10 ∷ [])
    ∙ ap (λ front. front ++ (ask_text (count + 1) tick ++ 10 ∷ [])) is
    ∙ ap (λ t. ended (first_lines number count) ++ (ask_text (count + 1) t ++ 10 ∷ [])) at_tick
    ∙ sym (ended_more (first_lines number count) (ask_text (count + 1) (departure number (count + 1))))
    ∙ ap ended (sym (lines_more number count))
