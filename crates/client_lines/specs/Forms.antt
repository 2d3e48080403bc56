-- The form of a line: which fields it has, one after another, and what they say together.
use Rattle.std.specs.Prelude.{◌≡◌, ℕ, ◌+◌, ◌^◌, ◌<◌, ◌≤◌, ◌⊎◌, ℤ, ◌<ℤ◌, List, [], ◌∷◌, ◌++◌, length}
use Rattle.std.specs.Prelude.{take, Option, Some, None, decimal}
use Rattle.std.specs.Fmt.{signed_decimal}
use Rattle.json_fields.specs.Escapes.{escaped}
use Rattle.json_fields.specs.Spellings.{AreBytes}
use Rattle.rail_types.specs.Limits.{IsTick}

-- The kinds of fields, by what a field of the kind says: a number of 64 bits, from the first of
-- two on and below the second; a tick, later than the one given where one is; what a text stands
-- for; what a name stands for.
pub data Kind : Type 0 → Type 1 where
  a_number : ℕ → ℕ → Kind ℕ
  a_tick : Option ℤ → Kind ℤ
  a_word : {A : Type 0} → (List ℕ → Option A) → Kind A
  a_name : {A : Type 0} → (List ℕ → Option A) → Kind A

-- The forms: no field at all; one field; one form, and behind it another that
-- depends on what the first said.
pub data Form : Type 0 → Type 1 where
  done : {A : Type 0} → A → Form A
  one : {A : Type 0} → Kind A → Form A
  chain : {A B : Type 0} → Form A → (A → Form B) → Form B

infixl 10 ◌>>=◌
abbrev pub ◌>>=◌ : {A B : Type 0} → Form A → (A → Form B) → Form B
form >>= next = chain form next

-- later than this tick, where one is given
abbrev pub IsAfter : Option ℤ → ℤ → Type 0
IsAfter None tick = Unit {0}
IsAfter (Some before) tick = before <ℤ tick

-- the bytes of a name, at least one
pub record IsName (bytes : List ℕ) : Type 0 where
  pub some : 1 ≤ length bytes
  pub fit : AreBytes bytes

-- the field says this
abbrev pub Says : {A : Type 0} → Kind A → List ℕ → A → Type 0
Says (a_number least end) field n =
    (field ≡ decimal n) × (n < 2 ^ 64) × (least ≤ n) × (n < end)
Says (a_tick before) field t = (field ≡ signed_decimal t) × IsTick t × IsAfter before t
Says (a_word find) field found = find field ≡ Some found
Says (a_name find) field found =
    (bytes : List ℕ) × (field ≡ escaped bytes) × IsName bytes × (find bytes ≡ Some found)

-- the fields are those of the form, and say this together
abbrev pub Spells : {A : Type 0} → Form A → List (List ℕ) → A → Type 0
Spells (done value) fields said = (fields ≡ []) × (said ≡ value)
Spells (one kind) fields said =
    (field : List ℕ) × (fields ≡ field ∷ []) × Says kind field said
Spells (chain {A} form next) fields said =
    (first : A) × (front : List (List ℕ)) × (back : List (List ℕ)) × (fields ≡ front ++ back)
    × Spells form front first × Spells (next first) back said

-- the fields are as the form wants them, as far as they go
abbrev pub Begins : {A : Type 0} → Form A → List (List ℕ) → Type 0
Begins (done value) fields = fields ≡ []
Begins (one {A} kind) fields = (fields ≡ []) ⊎ ((said : A) × Spells (one kind) fields said)
Begins (chain {A} form next) fields =
    Begins form fields
    ⊎ ((first : A) × (front : List (List ℕ)) × (back : List (List ℕ)) × (fields ≡ front ++ back)
    × Spells form front first × Begins (next first) back)

-- The first wrong field, counted from 1: those before it are as the form wants them; with it they
-- are not, or they end before it and say nothing yet.
pub record IsFirstWrong {A : Type 0} (form : Form A) (fields : List (List ℕ))
    (at : ℕ) : Type 0 where
  pub before : ℕ
  pub next : at ≡ before + 1
  pub there : before ≤ length fields
  pub right : Begins form (take before fields)
  pub wrong : before < length fields → ¬ Begins form (take at fields)
  pub short : before ≡ length fields → (said : A) → ¬ Spells form fields said
