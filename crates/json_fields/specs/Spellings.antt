-- The name that a text spells.
use Rattle.std.specs.Prelude.{◌≡◌, ℕ, ◌<◌, List, All, Option, Some, None}
use Rattle.json_fields.specs.Escapes.{escaped}

-- each is a byte
abbrev pub AreBytes : List ℕ → Type 0
AreBytes name = All (λ byte. byte < 256) name

-- the text is how this name is written, or no name is written so
abbrev pub Spells : List ℕ → Option (List ℕ) → Type 0
Spells text (Some name) = (text ≡ escaped name) × AreBytes name
Spells text None = (name : List ℕ) → AreBytes name → text ≡ escaped name → ⊥
