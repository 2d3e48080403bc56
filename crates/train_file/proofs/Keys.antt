-- What a test finds among keys, and among what they show.
use Rattle.std.proofs.Common.{◌≡◌, ℕ, ◌+◌, List, [], ◌∷◌, ◌++◌, length, map, Bool, true, false, not, cond, ◌||◌, Option, refl, ap, ◌∙◌, sym, position}
use Rattle.std.proofs.lemmas.List.{length-map, map-append}
use Rattle.std.specs.List.{prefix_len, list_any, position_or_len}
use Rattle.std.specs.Prelude.{nat_lt, Some, None, find, slice_get}
use Rattle.std.proofs.Common.{arith}
use Rattle.std.proofs.lemmas.Bool.Decides.{nat_tests}
use Rattle.std.proofs.lemmas.List.Folds.{find_at}
use Rattle.std.proofs.lemmas.Option.{slice_get_past}

module _ {K X : Type 0} (see : K → X) (test : X → Bool) where
  front_seen : (keys : List K) → prefix_len (λ k. not (test (see k))) keys ≡ prefix_len (λ x. not (test x)) (map see keys)
  front_seen [] = refl
  front_seen (k ∷ keys) = ap (λ (n : ℕ). cond (not (test (see k))) (1 + n) 0) (front_seen keys)

  pub position_seen : (keys : List K) → position (λ k. test (see k)) keys ≡ position test (map see keys)
  position_seen keys =
      ap (λ (n : ℕ). cond (nat_lt n (length keys)) (Some n) None) (front_seen keys)
      ∙ ap (λ (n : ℕ). cond (nat_lt (prefix_len (λ x. not (test x)) (map see keys)) n) (Some (prefix_len (λ x. not (test x)) (map see keys))) None) (sym (length-map keys see))

  pub any_seen : (keys : List K) → list_any (λ k. test (see k)) keys ≡ list_any test (map see keys)
  any_seen [] = refl
  any_seen (k ∷ keys) = ap (λ (b : Bool). test (see k) || b) (any_seen keys)

  -- a key that is not among them goes behind the others
  pub pushed_seen : (keys new : List K) (k : K) → new ≡ cond (list_any (λ x. test (see x)) keys) keys (keys ++ k ∷ []) → list_any test (map see keys) ≡ false → map see new ≡ map see keys ++ see k ∷ []
  pushed_seen keys new k e fresh = rw (e, any_seen keys ∙ fresh) (map-append see keys (k ∷ []))

-- what is found is what stands at the first place
module _ {X : Type 0} (test : X → Bool) where
  none_by : (xs : List X) (n : ℕ) (b : Bool) → b ≡ nat_lt n (length xs) → ◌≡◌ {A = Option ℕ} None (cond b (Some n) None) → ◌≡◌ {A = Option X} None (slice_get xs n)
  none_by xs n true e h = absurd (let k = h in cc)
  none_by xs n false e h = sym (slice_get_past xs n (grind (arith, nat_tests)))

  pub found_none : (xs : List X) → ◌≡◌ {A = Option ℕ} None (position test xs) → ◌≡◌ {A = Option X} None (find test xs)
  found_none xs h = none_by xs (position_or_len test xs) (nat_lt (position_or_len test xs) (length xs)) refl h ∙ sym (find_at test xs)

  some_by : (n i : ℕ) (b : Bool) → ◌≡◌ {A = Option ℕ} (Some i) (cond b (Some n) None) → i ≡ n
  some_by n i true h = cc
  some_by n i false h = absurd (let k = h in cc)

  pub found_some : (xs : List X) (i : ℕ) → ◌≡◌ {A = Option ℕ} (Some i) (position test xs) → slice_get xs i ≡ find test xs
  found_some xs i h = ap (slice_get xs) (some_by (position_or_len test xs) i (nat_lt (position_or_len test xs) (length xs)) h) ∙ sym (find_at test xs)
