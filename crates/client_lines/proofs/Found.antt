-- What was found among the things that lines may name.
use Rattle.std.proofs.Common.{◌≡◌, refl, subst, ◌<◌, ◌≤◌, ℕ, List, [], ◌∷◌, length, Option, Some, None, Bool, true, false, cond, find, nat_lt, nat_le, if◌then◌else◌, arith}
use Rattle.std.specs.List.{All, position_or_len}
use Rattle.std.specs.Str.{bytes_eq}
use Rattle.std.proofs.lemmas.Bool.Decides.{nat_tests}
use Rattle.std.proofs.lemmas.List.Elements.{All-head, All-tail}
use Rattle.rail_types.specs.IdLists.{number_of}
use Rattle.rail_types.specs.declared.limits.TheConstants.{MAX_REASON_BYTES}
use Rattle.client_lines.specs.Lines.{short_reason}

module _ {A : Type 0} (P : A → Type 0) (test : A → Bool) where
  found_by : (x y : A) (rest : Option A) (is : Bool) → P x → (rest ≡ Some y → P y) → cond is (Some x) rest ≡ Some y → P y
  found_by x y rest true here there e = let same : x ≡ y = cc in subst P same here
  found_by x y rest false here there e = there e

  -- what is found has what all have
  pub found_one : (items : List A) (y : A) → All P items → find test items ≡ Some y → P y
  found_one [] y all e = absurd cc
  found_one (x ∷ items) y all e = found_by x y (find test items) (test x) (All-head P x items all) (found_one items y (All-tail P x items all)) e

place_by : (place count n : ℕ) (within : Bool) → nat_lt place count ≡ within → cond within (Some place) None ≡ Some n → n < count
place_by place count n true is e = let same : place ≡ n = cc in grind (arith, nat_tests, is, same)
place_by place count n false is e = absurd cc

-- a place that is found is one of the list
pub place_within : (name : List ℕ) (names : List (List ℕ)) (n : ℕ) → number_of name names ≡ Some n → n < length names
place_within name names n e = place_by (position_or_len (bytes_eq name) names) (length names) n _ refl e

short_by : (bytes reason : List ℕ) (short : Bool) → nat_le (length bytes) MAX_REASON_BYTES ≡ short → (if short then Some bytes else None) ≡ Some reason → (bytes ≡ reason) × (length reason ≤ MAX_REASON_BYTES)
short_by bytes reason true is e = let same : bytes ≡ reason = cc in (same, subst (λ (one : List ℕ). length one ≤ MAX_REASON_BYTES) same (grind (arith, nat_tests, is)))
short_by bytes reason false is e = absurd cc

pub reason_short : (bytes reason : List ℕ) → short_reason bytes ≡ Some reason → (bytes ≡ reason) × (length reason ≤ MAX_REASON_BYTES)
reason_short bytes reason e = short_by bytes reason _ refl e
