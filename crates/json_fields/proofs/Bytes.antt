-- Bytes that are text, and others.
use Rattle.std.proofs.Common.{◌≡◌, ℕ, List, Option, None, Bool, true, false, cond, refl, ap}
use Rattle.std.proofs.lemmas.Str.{is_utf8-from_IsUtf8, IsUtf8-from_is_utf8}
use Rattle.std.specs.Str.{is_utf8, IsUtf8}
use Rattle.serde_json.specs.Data.{Data}
use Rattle.serde_json.specs.Read.{read}
use Rattle.json_fields.specs.Texts.{data_of}

pub data_of_text : (bytes : List ℕ) → IsUtf8 bytes → data_of bytes ≡ read bytes
data_of_text bytes h = ap (λ (b : Bool). cond b (read bytes) None) (is_utf8-from_IsUtf8 bytes h)

by_test : (b : Bool) (x : Option Data) → (b ≡ true → ⊥) → cond b x None ≡ None
by_test true x h = absurd (h refl)
by_test false x h = refl

pub data_of_other : (bytes : List ℕ) → (IsUtf8 bytes → ⊥) → data_of bytes ≡ None
data_of_other bytes h = by_test (is_utf8 bytes) (read bytes) (λ e. h (IsUtf8-from_is_utf8 bytes e))
