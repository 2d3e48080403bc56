-- A text with its numbers between quotation marks, as a cut of the whole text into pieces.
use Rattle.std.specs.Prelude.{◌≡◌, ℕ, ◌+◌, ◌<◌, List, [], ◌∷◌, ◌++◌, length, flat_map, Bool, cond}
use Rattle.std.specs.Prelude.{if◌then◌else◌, ◌&&◌, ◌||◌, ◌==◌, not, true, false}
use Rattle.std.specs.List.{prefix_len, concat, list_all}
use Rattle.std.specs.Char.{is_ascii_digit}
use Rattle.decimal_quote.specs.Numbers.{is_number, is_short_whole}

abbrev pub mark : ℕ
mark = 34

abbrev pub backslash : ℕ
backslash = 92

-- the digits and + - . e E
abbrev pub is_number_byte : ℕ → Bool
is_number_byte b = is_ascii_digit b || b == 43 || b == 45 || b == 46 || b == 101 || b == 69

-- How many bytes a string takes behind its first mark: up to the next mark that no backslash takes
-- with it, or up to the text's end.
abbrev pub string_length : List ℕ → ℕ
string_length [] = 0
string_length (b ∷ []) = 1
string_length (b ∷ c ∷ rest) =
    if b == mark then 1
    else if b == backslash then 2 + string_length rest
    else 1 + string_length (c ∷ rest)

-- How many bytes the first piece takes: a string, the longest run of bytes
-- of numbers, or one other byte.
abbrev pub piece_length : List ℕ → ℕ
piece_length [] = 0
piece_length (b ∷ rest) =
    if b == mark then 1 + string_length rest
    else if is_number_byte b then 1 + prefix_len is_number_byte rest
    else 1

-- Each piece is the first one of the text from there on.
abbrev pub AreCut : List (List ℕ) → Type 0
AreCut [] = Unit {0}
AreCut (piece ∷ pieces) =
    (0 < length piece) × (length piece ≡ piece_length (piece ++ concat pieces)) × AreCut pieces

-- a number other than 0 and those of 1 to 18 digits, the first not 0, behind a minus or none
abbrev pub needs_marks : List ℕ → Bool
needs_marks piece = is_number piece && not (is_short_whole piece)

abbrev pub shown : List ℕ → List ℕ
shown piece = if needs_marks piece then mark ∷ (piece ++ mark ∷ []) else piece

-- The text is cut into pieces, and quoted has them in order, those that need marks between them.
abbrev pub IsQuoted : List ℕ → List ℕ → Type 0
IsQuoted text quoted =
    (pieces : List (List ℕ))
    × (text ≡ concat pieces) × AreCut pieces × (quoted ≡ flat_map shown pieces)

-- whether the text begins with a byte of numbers
abbrev pub begins_run : List ℕ → Bool
begins_run [] = false
begins_run (b ∷ _) = is_number_byte b

-- Each piece that begins with a byte of numbers has such bytes alone, and none stands behind it.
abbrev pub HaveLongestRuns : List (List ℕ) → Type 0
HaveLongestRuns [] = Unit {0}
HaveLongestRuns (piece ∷ pieces) =
    (begins_run piece ≡ true
    → (list_all is_number_byte piece ≡ true) × (begins_run (concat pieces) ≡ false))
    × HaveLongestRuns pieces
