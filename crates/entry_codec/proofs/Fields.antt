-- What the calls of a reader of fields ensure is what a field gives.
use Rattle.std.proofs.Common.{◌≡◌, ℕ, ◌+◌, ◌^◌, ◌<◌, true, false, ltb, List, [], ◌∷◌, ◌++◌, length, take, drop, Result, Ok, Err, refl, ap, ◌∙◌, arith}
use Rattle.std.specs.Int.{w32, w64, from_be_bytes, to_be_bytes, cast_unsigned}
use Rattle.std.proofs.lemmas.Bool.{le-ltb, lt-ltb}
use Rattle.std.proofs.lemmas.List.{take_at, drop_at, length-append}
use Rattle.std.proofs.lemmas.Nat.{from_be_bytes-to_be_bytes_4, from_be_bytes-to_be_bytes_8}
use Rattle.std.specs.Prelude.{ℤ, FitsSigned}
use Rattle.std.proofs.lemmas.Int.{ints, to_z-of_z}
use Rattle.std.proofs.Math.Facts.{Fits-lt-pow, Fits-of_z}
use Rattle.byte_fields.specs.Unread.{Unread, end_of, signed_bytes}
use Rattle.entry_codec.specs.Reading.{go_on, done, bytes_field, byte_field, number_field, signed_field}

-- ---- what a field gives where its bytes are there

pub bytes_give : (old new : Unread) (bytes : List ℕ) (n : ℕ) → old.left ≡ bytes ++ new.left → length bytes ≡ n → new.at ≡ old.at + n → bytes_field n old ≡ Ok (bytes, new)
unfolding bytes_field
bytes_give old new bytes n parts len at =
    let long : ltb (length old.left) n ≡ false = le-ltb _ _ (omega (arith, ap length parts, length-append bytes new.left)) in
    let front : take n old.left ≡ bytes = ap (take n) parts ∙ take_at bytes new.left n len in
    let back : drop n old.left ≡ new.left = ap (drop n) parts ∙ drop_at bytes new.left n len in
    rw (long, front, back, ← at) refl

pub bytes_end : (old : Unread) (n : ℕ) → length old.left < n → bytes_field n old ≡ Err (end_of old)
unfolding bytes_field
bytes_end old n lt =
    let short : ltb (length old.left) n ≡ true = lt-ltb (length old.left) n lt in
    rw short refl

pub byte_gives : (old new : Unread) (v : ℕ) → old.left ≡ v ∷ new.left → new.at ≡ old.at + 1 → byte_field old ≡ Ok (v, new)
unfolding byte_field
byte_gives old new v parts at = rw (bytes_give old new (v ∷ []) 1 parts refl at) refl

pub byte_ends : (old : Unread) (at : ℕ) → length old.left < 1 → at ≡ end_of old → byte_field old ≡ Err at
unfolding byte_field
byte_ends old at lt e = rw (bytes_end old 1 lt, e) refl

pub four_give : (old new : Unread) (v : ℕ) → v < 2 ^ 32 → old.left ≡ to_be_bytes w32 v ++ new.left → new.at ≡ old.at + 4 → number_field w32 old ≡ Ok (v, new)
unfolding number_field
four_give old new v lt parts at =
    ap (λ (r : Result (List ℕ × Unread) ℕ). go_on r (λ bytes. done (from_be_bytes w32 bytes))) (bytes_give old new (to_be_bytes w32 v) 4 parts refl at)
    ∙ ap (λ (n : ℕ). Ok (n, new)) (from_be_bytes-to_be_bytes_4 v lt)

pub four_end : (old : Unread) (at : ℕ) → length old.left < 4 → at ≡ end_of old → number_field w32 old ≡ Err at
unfolding number_field
four_end old at lt e = rw (bytes_end old 4 lt, e) refl

pub eight_give : (old new : Unread) (v : ℕ) → v < 2 ^ 64 → old.left ≡ to_be_bytes w64 v ++ new.left → new.at ≡ old.at + 8 → number_field w64 old ≡ Ok (v, new)
unfolding number_field
eight_give old new v lt parts at =
    ap (λ (r : Result (List ℕ × Unread) ℕ). go_on r (λ bytes. done (from_be_bytes w64 bytes))) (bytes_give old new (to_be_bytes w64 v) 8 parts refl at)
    ∙ ap (λ (n : ℕ). Ok (n, new)) (from_be_bytes-to_be_bytes_8 v lt)

pub eight_end : (old : Unread) (at : ℕ) → length old.left < 8 → at ≡ end_of old → number_field w64 old ≡ Err at
unfolding number_field
eight_end old at lt e = rw (bytes_end old 8 lt, e) refl

pub signed_gives : (old new : Unread) (v : ℤ) → FitsSigned w64 v → old.left ≡ signed_bytes v ++ new.left → new.at ≡ old.at + 8 → signed_field old ≡ Ok (v, new)
unfolding signed_field
signed_gives old new v fits parts at =
    let eight = eight_give old new (cast_unsigned w64 v) (Fits-lt-pow (Fits-of_z fits)) parts at in
    rw (eight) (ap (λ (n : ℤ). Ok (n, new)) (to_z-of_z w64 v fits))

pub signed_ends : (old : Unread) (at : ℕ) → length old.left < 8 → at ≡ end_of old → signed_field old ≡ Err at
unfolding signed_field
signed_ends old at lt e = rw (eight_end old at lt e) refl

-- a signed number that was passed by value
pub ruleset passed = (to_z-of_z)
