-- Where lines are cut into fields.
use Rattle.std.specs.Prelude.{◌≡◌, ℕ, false, List, ◌∷◌, ◌++◌, All, nat_eq}
use Rattle.std.specs.List.{slice_split}

-- the fields of a line, which stand between its spaces
abbrev pub fields_of : List ℕ → List (List ℕ)
fields_of line = slice_split (λ byte. nat_eq byte 32) line

-- ---- inside

-- none of the bytes is this one
abbrev pub Lacks : ℕ → List ℕ → Type 0
Lacks byte bytes = All (λ other. nat_eq other byte ≡ false) bytes

-- the whole is a front, then the first byte of its kind, and then a back
pub record IsCutAt (byte : ℕ) (whole front back : List ℕ) : Type 0 where
  pub parts : whole ≡ front ++ byte ∷ back
  pub first : Lacks byte front
