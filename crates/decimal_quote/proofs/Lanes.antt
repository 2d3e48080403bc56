-- What a vector of sixteen bytes of a text tells: the digits at its front, and its first byte that passes a test.
use Rattle.std.proofs.Common.{◌≡◌, ℕ, suc, ◌+◌, ◌*◌, ◌%◌, ◌-◌, ◌^◌, ◌<◌, ◌≤◌, ltb, eqb, Bool, true, false, not, cond, List, [], ◌∷◌, map, length, drop, get_or, replicate, refl, sym, ap, ap₂, ◌∙◌, arith, w8, Fits}
use Rattle.std.proofs.lemmas.Simd.{run_in_chunk_fails, run_in_chunk_stops, trailing_mask_l, tops_compared, zip2_splat, zip2_splat_left, map-map, mask_l-mod, first_set_mask_l, chunk-drop, length-chunk}
use Rattle.std.proofs.lemmas.List.{length-map}
use Rattle.std.proofs.lemmas.List.Folds.{prefix_len-append}
use Rattle.std.proofs.lemmas.List.Sums.{prefix_len-le-length}
use Rattle.std.proofs.lemmas.Bool.{cond-true, cond-false, eq-eqb, ne_eqb}
use Rattle.std.proofs.lemmas.Bool.Decides.{nat_tests}
use Rattle.std.specs.List.{prefix_len}
use Rattle.std.specs.Char.{is_ascii_digit}
use lib.Lanes.{zip2, mask_l, top, Each1, chunk}
use lib.Count.{count_trailing_zeros}
use Rattle.decimal_quote.specs.Numbers.{is_no_digit}

-- ---- the mask

other_byte : (b : ℕ) → b < 256 → ltb 9 ((b + 208) % 256) ≡ is_no_digit b
other_byte b small = grind (arith, nat_tests)

other_bytes : (bytes : List ℕ) → Each1 (Fits w8) bytes
    → map (λ (b : ℕ). ltb 9 ((b + 208) % 256)) bytes ≡ map is_no_digit bytes
other_bytes [] fit = refl
other_bytes (b ∷ bytes) fit = ap₂ (λ (t : Bool) (ts : List Bool). t ∷ ts) (other_byte b fit.0.fits) (other_bytes bytes fit.1)

pub others : (bytes : List ℕ) → length bytes ≡ 16 → Each1 (Fits w8) bytes
    → mask_l (map (top 7) (zip2 (λ (a b : ℕ). cond (ltb a b) 255 0) (replicate 16 9)
    (zip2 (λ (a b : ℕ). (a + (256 - b)) % 256) bytes (replicate 16 48)))) % 2 ^ 64
    ≡ mask_l (map is_no_digit bytes)
others bytes long fit =
    let moved : List ℕ = map (λ (b : ℕ). (b + 208) % 256) bytes in
    let same : zip2 (λ (a b : ℕ). (a + (256 - b)) % 256) bytes (replicate 16 48) ≡ moved =
    zip2_splat (λ (a b : ℕ). (a + (256 - b)) % 256) bytes 16 48 long in
    ap (λ (xs : List ℕ). mask_l (map (top 7) (zip2 (λ (a b : ℕ). cond (ltb a b) 255 0) (replicate 16 9) xs)) % 2 ^ 64) same
    ∙ ap (λ (ts : List Bool). mask_l ts % 2 ^ 64)
    (tops_compared w8 ltb (replicate 16 9) moved
    ∙ zip2_splat_left ltb 9 16 moved (length-map bytes (λ (b : ℕ). (b + 208) % 256) ∙ long)
    ∙ map-map (ltb 9) (λ (b : ℕ). (b + 208) % 256) bytes
    ∙ other_bytes bytes fit)
    ∙ mask_l-mod (map is_no_digit bytes) 64 (omega (arith, length-map bytes is_no_digit, long))

-- ---- the run

not_not : (t : Bool) → not (not t) ≡ t
not_not true = refl
not_not false = refl

run : (bytes : List ℕ) → prefix_len (λ (b : ℕ). not (is_no_digit b)) bytes ≡ prefix_len is_ascii_digit bytes
run [] = refl
run (b ∷ bytes) = ap₂ (λ (t : Bool) (n : ℕ). cond t (1 + n) 0) (not_not (is_ascii_digit b)) (run bytes)

-- where none passes, the mask is empty
empty : (p : ℕ → Bool) (bytes : List ℕ) → prefix_len (λ (b : ℕ). not (p b)) bytes ≡ length bytes → mask_l (map p bytes) ≡ 0
empty p [] e = refl
empty p (b ∷ bytes) e = by (empty p bytes) (p b) refl e
  where
    by : (prefix_len (λ (b : ℕ). not (p b)) bytes ≡ length bytes → mask_l (map p bytes) ≡ 0)
        → (t : Bool) → p b ≡ t → cond (not t) (1 + prefix_len (λ (b : ℕ). not (p b)) bytes) 0 ≡ suc (length bytes)
        → mask_l (map p (b ∷ bytes)) ≡ 0
    by behind false is e =
        let rest = behind (omega (arith, e)) in
        let first : mask_l (map p (b ∷ bytes)) ≡ 0 + 2 * mask_l (map p bytes) =
        ap (λ (t : Bool). cond t 1 0 + 2 * mask_l (map p bytes)) is in
        omega (arith, rest, first)
    by behind true is e = absurd (omega (arith, e))

-- the first byte of a load that passes, where one does
pub first_there : (p : ℕ → Bool) (text : List ℕ) (at : ℕ) → at + 16 ≤ length text → 0 < mask_l (map p (chunk at 16 text))
    → (count_trailing_zeros 64 (mask_l (map p (chunk at 16 text))) < 16)
    × ((k : ℕ) → at ≤ k → k < at + count_trailing_zeros 64 (mask_l (map p (chunk at 16 text))) → p (get_or text k 0) ≡ false)
    × (p (get_or text (at + count_trailing_zeros 64 (mask_l (map p (chunk at 16 text)))) 0) ≡ true)
first_there p text at room some =
    let long = length-chunk at 16 text room in
    let counted = trailing_mask_l p 64 (chunk at 16 text) (omega (arith, long)) some in
    let within = prefix_len-le-length (λ (b : ℕ). not (p b)) (chunk at 16 text) in
    let less : count_trailing_zeros 64 (mask_l (map p (chunk at 16 text))) < 16 =
    less_than _ 16 (omega (arith, counted, within, long)) (λ e. let none = empty p (chunk at 16 text) (sym counted ∙ e ∙ sym long) in omega (arith, some, none)) in
    (less, run_in_chunk_fails p text at 16 _ 0 room counted, run_in_chunk_stops p text at 16 _ 0 room counted less)
  where
    less_than : (n m : ℕ) → n ≤ m → (n ≡ m → ⊥) → n < m
    less_than n m within other = grind (arith, nat_tests)

module _ (text : List ℕ) (at : ℕ) (room : at + 16 ≤ length text) where
  load : List ℕ
  load = chunk at 16 text

  long : length load ≡ 16
  unfolding load
  long = length-chunk at 16 text room

  over : prefix_len is_ascii_digit (drop at text)
      ≡ cond (eqb (prefix_len is_ascii_digit load) (length load)) (length load + prefix_len is_ascii_digit (drop (at + 16) text))
      (prefix_len is_ascii_digit load)
  unfolding load
  over = ap (prefix_len is_ascii_digit) (chunk-drop at 16 text) ∙ prefix_len-append is_ascii_digit load (drop (at + 16) text)

  pub all_digits : mask_l (map is_no_digit (chunk at 16 text)) ≡ 0
      → prefix_len is_ascii_digit (drop at text) ≡ 16 + prefix_len is_ascii_digit (drop (at + 16) text)
  unfolding load
  all_digits none =
      let counted : cond (eqb (mask_l (map is_no_digit load)) 0) 16 (count_trailing_zeros 64 (mask_l (map is_no_digit load))) ≡ prefix_len is_ascii_digit load =
      first_set_mask_l is_no_digit load 16 long (omega arith) ∙ run load in
      let all : prefix_len is_ascii_digit load ≡ length load =
      sym counted ∙ cond-true _ _ _ (eq-eqb _ _ none) ∙ sym long in
      over ∙ cond-true _ _ _ (eq-eqb _ _ all) ∙ ap (λ (n : ℕ). n + prefix_len is_ascii_digit (drop (at + 16) text)) long

  pub first_other : 0 < mask_l (map is_no_digit (chunk at 16 text))
      → prefix_len is_ascii_digit (drop at text) ≡ count_trailing_zeros 64 (mask_l (map is_no_digit (chunk at 16 text)))
  unfolding load
  first_other some =
      let counted : cond (eqb (mask_l (map is_no_digit load)) 0) 16 (count_trailing_zeros 64 (mask_l (map is_no_digit load))) ≡ prefix_len is_ascii_digit load =
      first_set_mask_l is_no_digit load 16 long (omega arith) ∙ run load in
      over
      ∙ cond-false _ _ _ (ne_eqb _ _ (λ (all : prefix_len is_ascii_digit load ≡ length load). let none = empty is_no_digit load (run load ∙ all) in omega (arith, some, none)))
      ∙ sym counted ∙ cond-false _ _ _ (ne_eqb _ _ (λ (none : mask_l (map is_no_digit load) ≡ 0). omega (arith, some, none)))
