-- How words spell options.
use Rattle.std.specs.Prelude.{◌≡◌, ◌≢◌, ◌⊎◌, ℕ, ◌<◌, Bool, List, [], ◌∷◌, ◌++◌, length, get_or}
use Rattle.std.specs.Prelude.{slice_get, Option, Some, None, if◌then◌else◌}
use Rattle.std.specs.List.{list_all, list_any}
use Rattle.std.specs.Str.{bytes_eq}

-- a word of a command line, by its bytes
abbrev pub Word : Type 0
Word = List ℕ

-- an option, without its dashes, and its value
pub record Setting : Type 0 where
  pub option : List ℕ
  pub value : List ℕ

-- an option with this value
abbrev pub setting : (option value : List ℕ) → Setting
setting option value = record { option = option; value = value }

-- the byte `-`
abbrev pub dash : ℕ
dash = 45

-- the byte `=`
abbrev pub equals_sign : ℕ
equals_sign = 61

-- an option as a word of its own
abbrev pub dashed : List ℕ → Word
dashed option = dash ∷ dash ∷ option

-- an option and its value in one word
abbrev pub joined : Setting → Word
joined setting = dashed (setting.option ++ equals_sign ∷ setting.value)

-- none of the bytes is this one
abbrev pub Lacks : ℕ → List ℕ → Type 0
Lacks byte bytes = (i : ℕ) → i < length bytes → get_or bytes i 0 ≢ byte

-- the whole is a front, then the first byte of its kind, and then a back
pub record IsCutAt (byte : ℕ) (whole front back : List ℕ) : Type 0 where
  pub parts : whole ≡ front ++ byte ∷ back
  pub first : Lacks byte front

-- a value is not empty and does not begin with `-`
pub record IsValue (value : List ℕ) : Type 0 where
  pub some : value ≢ []
  pub no_dash : slice_get value 0 ≢ Some dash

-- an option whose name has no `=`, with a value
pub record IsSetting (setting : Setting) : Type 0 where
  pub option : Lacks equals_sign setting.option
  pub value : IsValue setting.value

-- the words begin with this option, in two words or in one, and go on with the rest
abbrev pub Begins : Setting → List Word → List Word → Type 0
Begins setting words rest =
    (words ≡ dashed setting.option ∷ setting.value ∷ rest) ⊎ (words ≡ joined setting ∷ rest)

-- the words are these options in turn, each in one of its two forms
abbrev pub Spell : List Setting → List Word → Type 0
Spell [] words = words ≡ []
Spell (setting ∷ settings) words =
    (rest : List Word) × IsSetting setting × Begins setting words rest × Spell settings rest

-- the words are these options in turn, and no others
pub record AreReadAs (settings : List Setting) (words : List Word) : Type 0 where
  pub spelled : Spell settings words
  pub only : (others : List Setting) → Spell others words → others ≡ settings

-- the values under an option, in turn
abbrev pub values_under : List ℕ → List Setting → List (List ℕ)
values_under option [] = []
values_under option (setting ∷ settings) =
    if bytes_eq setting.option option then setting.value ∷ values_under option settings
    else values_under option settings

-- a value, or none, as a list
abbrev pub at_most_one : Option (List ℕ) → List (List ℕ)
at_most_one None = []
at_most_one (Some value) = value ∷ []

-- the option is one of these
abbrev pub is_among : List (List ℕ) → List ℕ → Bool
is_among options option = list_any (λ other. bytes_eq other option) options

-- each option is one of these
abbrev pub are_among : List (List ℕ) → List Setting → Bool
are_among options settings = list_all (λ setting. is_among options setting.option) settings
