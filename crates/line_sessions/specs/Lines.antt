-- How an input is cut into lines.
use Rattle.std.specs.Prelude.{ℕ, ◌≤◌, List, [], ◌∷◌, ◌++◌, length, nat_eq}
use Rattle.std.specs.List.{slice_split}
use Rattle.client_lines.specs.Cuts.{Lacks}
use Rattle.client_lines.specs.declared.lines.TheConstants.{MAX_LINE_BYTES}

-- the byte that ends a line
abbrev pub line_end : ℕ
line_end = 10

-- the part alone, and nothing where it is empty
abbrev pub unless_empty : List ℕ → List (List ℕ)
unless_empty [] = []
unless_empty (byte ∷ bytes) = (byte ∷ bytes) ∷ []

-- parts without the last one where that is empty
abbrev pub without_empty_last : List (List ℕ) → List (List ℕ)
without_empty_last [] = []
without_empty_last (part ∷ []) = unless_empty part
without_empty_last (part ∷ next ∷ parts) = part ∷ without_empty_last (next ∷ parts)

-- the lines of a whole input: each ends with the line end, and a last one without it
-- counts where it is not empty
abbrev pub lines_of : List ℕ → List (List ℕ)
lines_of input = without_empty_last (slice_split (λ byte. nat_eq byte line_end) input)

-- bytes of one line
abbrev pub HasNoEnd : List ℕ → Type 0
HasNoEnd bytes = Lacks line_end bytes

-- a line that is not too long
pub record IsLine (line : List ℕ) : Type 0 where
  pub one : HasNoEnd line
  pub short : length line ≤ MAX_LINE_BYTES

-- lines one behind the other, each with its end
abbrev pub ended : List (List ℕ) → List ℕ
ended [] = []
ended (line ∷ lines) = line ++ line_end ∷ ended lines
