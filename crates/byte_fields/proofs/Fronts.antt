-- What stands at the front of a list, where it is known in two ways.
use Rattle.std.proofs.Common.{◌≡◌, ℕ, ◌<◌, ◌^◌, List, [], ◌∷◌, ◌++◌, length, get_or, take, drop, refl, sym, ap, ◌∙◌}
use Rattle.std.specs.Int.{w64, from_be_bytes, to_be_bytes}
use Rattle.std.proofs.lemmas.List.{take_at, drop_at}
use Rattle.std.proofs.lemmas.Nat.{from_be_bytes-to_be_bytes_8}

-- fronts of one length are one
pub same_fronts : (a b x y : List ℕ) → length a ≡ length b → a ++ x ≡ b ++ y → (a ≡ b) × (x ≡ y)
same_fronts a b x y len e = (
  sym (take_at a x (length b) len) ∙ ap (take (length b)) e ∙ take_at b y (length b) refl,
  sym (drop_at a x (length b) len) ∙ ap (drop (length b)) e ∙ drop_at b y (length b) refl,
)

pub byte_back : (bytes left rest : List ℕ) (v : ℕ) → length bytes ≡ 1 → v ∷ rest ≡ bytes ++ left → (get_or bytes 0 0 ≡ v) × (left ≡ rest)
byte_back bytes left rest v len e =
    let both = same_fronts (v ∷ []) bytes rest left (sym len) e in
    (ap (λ (b : List ℕ). get_or b 0 0) (sym both.0), sym both.1)

pub number_back : (bytes left rest : List ℕ) (v : ℕ) → v < 2 ^ 64 → length bytes ≡ 8 → to_be_bytes w64 v ++ rest ≡ bytes ++ left → (from_be_bytes w64 bytes ≡ v) × (left ≡ rest)
number_back bytes left rest v fits len e =
    let both = same_fronts (to_be_bytes w64 v) bytes rest left (sym len) e in
    (ap (from_be_bytes w64) (sym both.0) ∙ from_be_bytes-to_be_bytes_8 v fits, sym both.1)
