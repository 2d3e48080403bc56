-- The fields of which lines are made, and how they stand behind one another.
use Rattle.std.specs.Prelude.{◌≡◌, ℕ, ◌+◌, ◌≤◌, Bool, true, false, List, [], ◌∷◌, ◌++◌, length}
use Rattle.std.specs.Prelude.{codes, decimal, Result, OnOk, IsOk}
use Rattle.std.specs.Io.{StartsWith}
use Rattle.std.specs.Fmt.{signed_decimal}
use Rattle.byte_fields.specs.Buffered.{Buffered}
use Rattle.rail_types.specs.declared.paths.Claim.{Claim}
use Rattle.rail_types.specs.declared.paths.Run.{Run}

-- fields, each behind a space
unfoldable pub spaced : List (List ℕ) → List ℕ
spaced [] = []
spaced (field ∷ fields) = 32 ∷ (field ++ spaced fields)

-- fields, one space between each two
abbrev pub line_of : List (List ℕ) → List ℕ
line_of [] = []
line_of (field ∷ fields) = field ++ spaced fields

-- a word and its number
abbrev pub said : List ℕ → ℕ → List (List ℕ)
said word number = word ∷ decimal number ∷ []

abbrev pub flag_field : Bool → List ℕ
flag_field true = codes "1"
flag_field false = codes "0"

-- ZONE FROM TO
abbrev pub claim_fields : Claim → List (List ℕ)
claim_fields claim =
    decimal claim.zone ∷ signed_decimal claim.span.from ∷ signed_decimal claim.span.to ∷ []

-- BLOCK ENTER LEAVE STOPS
abbrev pub run_fields : Run → List (List ℕ)
run_fields run =
    decimal run.block ∷ signed_decimal run.enter ∷ signed_decimal run.leave
    ∷ flag_field run.stops ∷ []

-- ---- inside

abbrev pub claim_text : Claim → List ℕ
claim_text claim = spaced (claim_fields claim)

abbrev pub run_text : Run → List ℕ
run_text run = spaced (run_fields run)

-- What writing a text does to what is written already: it stands behind that, or a part of it where
-- memory was wanted, which it is not where there is room.
pub record Writes {E : Type 0} (text : List ℕ) (old new : Buffered)
    (result : Result (Unit {0}) E) : Type 0 where
  pub ok : OnOk result (new.held ≡ old.held ++ text)
  pub kept : StartsWith new.held old.held
  pub room : length text ≤ old.spare → IsOk result
  pub spare : old.spare ≤ new.spare + length text
