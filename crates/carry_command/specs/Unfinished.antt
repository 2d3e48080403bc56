-- A file that counts only once it stands whole.
use Rattle.std.specs.Prelude.{◌≡◌, ◌≢◌, ◌⊎◌, ℕ, ◌≤◌, List, [], ◌∷◌, length, take}
use Rattle.outside_io.specs.Disks.{Torn}

-- a file of more than one byte, of which the first is not 0
pub record IsMarked (file : List ℕ) : Type 0 where
  pub first : ℕ
  pub rest : List ℕ
  pub split : file ≡ first ∷ rest
  pub mark : first ≢ 0
  pub more : rest ≢ []

-- bytes that are told from a file by their length or their first byte: at most one byte, or another
-- one first
abbrev pub IsUnfinished : List ℕ → List ℕ → Type 0
IsUnfinished file image = (length image ≤ 1) ⊎ (take 1 image ≢ take 1 file)

-- the whole file, or bytes that are told from it so
abbrev pub IsWholeOrUnfinished : List ℕ → List ℕ → Type 0
IsWholeOrUnfinished file image = (image ≡ file) ⊎ IsUnfinished file image

-- *inside*: an image that a write of so many bytes makes of one of these
abbrev pub IsTornFrom : ℕ → ℕ → (List ℕ → Type 0) → List ℕ → Type 0
IsTornFrom at count images image =
    (before : List ℕ) × images before × Torn at count before image
