-- The test of a text.
use Rattle.std.proofs.Common.{◌≡◌, ℕ, Bool, true, false, List, refl}
use Rattle.std.specs.Str.{IsUtf8, is_utf8}
use Rattle.std.proofs.lemmas.Str.{IsUtf8-from_is_utf8, is_utf8-from_IsUtf8}

pub text_passes : (bytes : List ℕ) → IsUtf8 bytes → is_utf8 bytes ≡ true
text_passes bytes h = is_utf8-from_IsUtf8 bytes h

false_else : (b : Bool) → (b ≡ true → ⊥) → b ≡ false
false_else true h = absurd (h refl)
false_else false h = refl

pub other_fails : (bytes : List ℕ) → ¬ (IsUtf8 bytes) → is_utf8 bytes ≡ false
other_fails bytes h = false_else (is_utf8 bytes) (λ e. h (IsUtf8-from_is_utf8 bytes e))
