-- The thousand lines of the demo.
use Rattle.std.specs.Prelude.{ℕ, zero, suc, ◌+◌, ◌*◌, ◌%◌, List, [], ◌∷◌, ◌++◌, codes, decimal}

-- the number that is drawn behind another one
abbrev pub next : ℕ → ℕ
next x = (1103515245 * x + 12345) % 2147483648

-- the number that is drawn for a line, behind the number of the demo, which stands for line 0
unfoldable pub drawn : ℕ → ℕ → ℕ
drawn number zero = number
drawn number (suc line) = next (drawn number line)

-- the tick at which the train of a line departs
abbrev pub departure : ℕ → ℕ → ℕ
departure number line = drawn number line % 16000

-- train F1 is sought from W to E, departing exactly then and arriving at any tick
-- of the horizon, without a stop
abbrev pub ask_text : ℕ → ℕ → List ℕ
ask_text line tick =
    codes "ask " ++ decimal line ++ codes " F1 W E " ++ decimal tick ++ codes " " ++ decimal tick
    ++ codes " 0 17280 0"

-- so many lines, from 1 on
unfoldable pub first_lines : ℕ → ℕ → List (List ℕ)
first_lines number zero = []
first_lines number (suc count) =
    first_lines number count ++ ask_text (suc count) (departure number (suc count)) ∷ []

-- the lines of the demo of a number
abbrev pub demo_lines : ℕ → List (List ℕ)
demo_lines number = first_lines number 1000
