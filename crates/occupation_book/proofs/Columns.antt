-- What both columns of a zone say of its claims.
use Rattle.std.proofs.Common.{◌≡◌, ℕ, zero, suc, ◌+◌, ◌<◌, ◌≤◌, ◌≤ℤ◌, ℤ, pos, true, false, not, List, [], ◌∷◌, length, get_or, set, take, insert, sym, ap, subst, refl, arith, ◌∙◌, All, AllPairs, length-set, length-take, min}
use Rattle.std.specs.List.{AllWithin}
use Rattle.std.proofs.lemmas.Int.{ints}
use Rattle.std.proofs.lemmas.List.{get_or_default}
use Rattle.std.proofs.lemmas.List.Filters.{FiltersInPlace, FiltersInPlace-more_set, FiltersInPlace-more_no}
use Rattle.rail_types.specs.declared.entries.Owner.{Owner}
use Rattle.rail_types.specs.declared.paths.Claim.{Claim}
use Rattle.rail_types.specs.Occupation.{HeldClaim}
use Rattle.occupation_book.specs.declared.zones.Rest.{Rest}
use Rattle.occupation_book.specs.Columns.{begin_of, owner_of, row_of, rows_of}
use Rattle.occupation_book.specs.Held.{AreInOrder, is_same_owner}

-- a row that was made of a claim and its owner tells them again
pub of_claim : (claim : Claim) (owner : Owner) (row : Rest) → begin_of row ≡ claim.span.from → owner_of row ≡ owner → row_of claim.zone claim.span.to row ≡ (claim, owner)
of_claim claim owner row is_from is_owner = λ j. (record { zone = claim.zone; span = record { from = is_from j; to = claim.span.to } }, is_owner j)

module _ (number : ℕ) where
  pub length_rows : (ends : List ℤ) (rests : List Rest) → length ends ≡ length rests → length (rows_of number ends rests) ≡ length ends
  length_rows [] rests level = refl
  length_rows (end ∷ ends) [] level = absurd (omega arith)
  length_rows (end ∷ ends) (rest ∷ rests) level = ap suc (length_rows ends rests (omega arith))

  -- the claim at a place is that of the row there
  pub row_at : (ends : List ℤ) (rests : List Rest) (at : ℕ) (end : ℤ) (rest : Rest) (one : HeldClaim) → length ends ≡ length rests → at < length ends → get_or (rows_of number ends rests) at one ≡ row_of number (get_or ends at end) (get_or rests at rest)
  row_at [] rests at end rest one level within = absurd (omega arith)
  row_at (first ∷ ends) [] at end rest one level within = absurd (omega arith)
  row_at (first ∷ ends) (other ∷ rests) zero end rest one level within = refl
  row_at (first ∷ ends) (other ∷ rests) (suc at) end rest one level within = row_at ends rests at end rest one (omega arith) (omega arith)

  -- the same of what was read of both columns
  pub row_read : (ends : List ℤ) (rests : List Rest) (at : ℕ) (end : ℤ) (rest : Rest) (one : HeldClaim) → length ends ≡ length rests → at < length ends → end ≡ get_or ends at end → rest ≡ get_or rests at rest → row_of number end rest ≡ get_or (rows_of number ends rests) at one
  row_read ends rests at end rest one level within is_end is_rest =
      ap (λ (e : ℤ). row_of number e rest) is_end
      ∙ (ap (λ (r : Rest). row_of number (get_or ends at end) r) is_rest ∙ sym (row_at ends rests at end rest one level within))

  pub rows_insert : (ends : List ℤ) (rests : List Rest) (at : ℕ) (end : ℤ) (rest : Rest) → length ends ≡ length rests → rows_of number (insert ends at end) (insert rests at rest) ≡ insert (rows_of number ends rests) at (row_of number end rest)
  rows_insert ends rests zero end rest level = refl
  rows_insert [] [] (suc at) end rest level = refl
  rows_insert [] (other ∷ rests) (suc at) end rest level = absurd (omega arith)
  rows_insert (first ∷ ends) [] (suc at) end rest level = absurd (omega arith)
  rows_insert (first ∷ ends) (other ∷ rests) (suc at) end rest level = ap (λ rows. row_of number first other ∷ rows) (rows_insert ends rests at end rest (omega arith))

  pub rows_set : (ends : List ℤ) (rests : List Rest) (at : ℕ) (end : ℤ) (rest : Rest) → length ends ≡ length rests → rows_of number (set ends at end) (set rests at rest) ≡ set (rows_of number ends rests) at (row_of number end rest)
  rows_set [] rests at end rest level = refl
  rows_set (first ∷ ends) [] at end rest level = absurd (omega arith)
  rows_set (first ∷ ends) (other ∷ rests) zero end rest level = refl
  rows_set (first ∷ ends) (other ∷ rests) (suc at) end rest level = ap (λ rows. row_of number first other ∷ rows) (rows_set ends rests at end rest (omega arith))

  pub rows_take : (n : ℕ) (ends : List ℤ) (rests : List Rest) → rows_of number (take n ends) (take n rests) ≡ take n (rows_of number ends rests)
  rows_take zero ends rests = refl
  rows_take (suc n) [] rests = refl
  rows_take (suc n) (first ∷ ends) [] = refl
  rows_take (suc n) (first ∷ ends) (other ∷ rests) = ap (λ rows. row_of number first other ∷ rows) (rows_take n ends rests)

  -- claims of another zone's number are on that zone, where all of them say so
  pub rows_on : (old : ℕ) (ends : List ℤ) (rests : List Rest) → All (λ one. one.0.zone ≡ number) (rows_of old ends rests) → rows_of old ends rests ≡ rows_of number ends rests
  rows_on old [] rests on = refl
  rows_on old (first ∷ ends) [] on = refl
  rows_on old (first ∷ ends) (other ∷ rests) on =
      let here : old ≡ number = on 0 (row_of old first other) (omega arith) in
      ap (λ n. rows_of n (first ∷ ends) (other ∷ rests)) here

  -- what both columns say once a claim was put in
  pub rows_with : (old : ℕ) (ends : List ℤ) (rests : List Rest) (new_ends : List ℤ) (new_rests : List Rest) (claims : List HeldClaim) (at : ℕ) (end : ℤ) (rest : Rest) → length ends ≡ length rests → rows_of old ends rests ≡ claims → All (λ one. one.0.zone ≡ number) claims → new_ends ≡ insert ends at end → new_rests ≡ insert rests at rest → rows_of number new_ends new_rests ≡ insert claims at (row_of number end rest)
  rows_with old ends rests new_ends new_rests claims at end rest level same on with_end with_rest =
      let here : rows_of number ends rests ≡ claims = sym (rows_on old ends rests (subst (All (λ (one : HeldClaim). one.0.zone ≡ number)) (sym same) on)) ∙ same in
      ap (λ (all : List ℤ). rows_of number all new_rests) with_end
      ∙ (ap (λ (all : List Rest). rows_of number (insert ends at end) all) with_rest
      ∙ (rows_insert ends rests at end rest level ∙ ap (λ (all : List HeldClaim). insert all at (row_of number end rest)) here))

  -- the ends of claims in order are in order
  pub ends_in_order : (zone : ℕ) (ends : List ℤ) (rests : List Rest) → length ends ≡ length rests → AreInOrder zone (rows_of number ends rests) → AllPairs (λ one later. one ≤ℤ later) ends
  ends_in_order zone ends rests level order i j d before within =
      let rest : Rest = record { written = d; holder = 0 } in
      let other : HeldClaim = row_of number d rest in
      let long = length_rows ends rests level in
      let one : (get_or (rows_of number ends rests) i other).0.span.to ≡ get_or ends i d = ap (λ (held : HeldClaim). held.0.span.to) (row_at ends rests i d rest other level (omega arith)) in
      let later : (get_or (rows_of number ends rests) j other).0.span.to ≡ get_or ends j d = ap (λ (held : HeldClaim). held.0.span.to) (row_at ends rests j d rest other level within) in
      let apart = order.sorted i j other before (omega arith) in
      let lasts = order.ticks j other (omega arith) in
      omega (arith, ints)

  -- what holds of ends holds of the claims that have them
  pub of_ends : (P : ℤ → Type 0) (ends : List ℤ) (rests : List Rest) (low high : ℕ) → length ends ≡ length rests → high ≤ length ends → AllWithin P ends low high → AllWithin (λ one. P one.0.span.to) (rows_of number ends rests) low high
  of_ends P ends rests low high level most holds k other from below =
      let rest : Rest = record { written = other.0.span.from; holder = 0 } in
      let end : (get_or (rows_of number ends rests) k other).0.span.to ≡ get_or ends k other.0.span.to = ap (λ (held : HeldClaim). held.0.span.to) (row_at ends rests k other.0.span.to rest other level (omega arith)) in
      subst P (sym end) (holds k other.0.span.to from below)

  pub of_last_ends : (P : ℤ → Type 0) (ends : List ℤ) (rests : List Rest) (low : ℕ) → length ends ≡ length rests → AllWithin P ends low (length ends) → AllWithin (λ one. P one.0.span.to) (rows_of number ends rests) low (length (rows_of number ends rests))
  of_last_ends P ends rests low level holds =
      subst (λ high. AllWithin (λ one. P one.0.span.to) (rows_of number ends rests) low high) (sym (length_rows ends rests level))
      (of_ends P ends rests low (length ends) level (omega arith) holds)

-- both columns stay as long as one another
pub level_set : (ends : List ℤ) (rests : List Rest) (at : ℕ) (end : ℤ) (rest : Rest) → length ends ≡ length rests → length (set ends at end) ≡ length (set rests at rest)
level_set ends rests at end rest level = length-set ends at end ∙ (level ∙ sym (length-set rests at rest))

pub level_take : (n : ℕ) (ends : List ℤ) (rests : List Rest) → length ends ≡ length rests → length (take n ends) ≡ length (take n rests)
level_take n ends rests level = length-take n ends ∙ (ap (min n) level ∙ sym (length-take n rests))

-- of the first rows those that others hold stand first, and the rest is as it was
module _ (owner : Owner) (number : ℕ) (old_ends : List ℤ) (old_rests : List Rest) where
  abbrev pub AreKept : List ℤ → List Rest → ℕ → ℕ → Type 0
  AreKept ends rests kept at = FiltersInPlace (λ one. not (is_same_owner one.1 owner)) (rows_of number old_ends old_rests) (rows_of number ends rests) kept at

  -- a row that stays goes to the place behind those that stay
  pub kept_more : (ends : List ℤ) (rests : List Rest) (kept at : ℕ) (end : ℤ) (rest : Rest) → length ends ≡ length rests → at < length ends → end ≡ get_or ends at end → rest ≡ get_or rests at rest → not (is_same_owner (owner_of rest) owner) ≡ true → AreKept ends rests kept at → AreKept (set ends kept end) (set rests kept rest) (kept + 1) (at + 1)
  kept_more ends rests kept at end rest level within is_end is_rest stays before =
      let long = length_rows number ends rests level in
      let inside : at < length (rows_of number ends rests) = omega arith in
      let read : row_of number end rest ≡ get_or (rows_of number ends rests) at (row_of number end rest) = row_read number ends rests at end rest (row_of number end rest) level within is_end is_rest in
      let was : FiltersInPlace (λ one. not (is_same_owner one.1 owner)) (rows_of number old_ends old_rests) (rows_of number ends rests) kept at = before in
      subst (λ (rows : List HeldClaim). FiltersInPlace (λ one. not (is_same_owner one.1 owner)) (rows_of number old_ends old_rests) rows (kept + 1) (at + 1)) (sym (rows_set number ends rests kept end rest level))
      (FiltersInPlace-more_set {x = row_of number end rest} was inside stays read)

  pub left_out : (ends : List ℤ) (rests : List Rest) (kept at : ℕ) (rest : Rest) → length ends ≡ length rests → at < length ends → rest ≡ get_or rests at rest → not (is_same_owner (owner_of rest) owner) ≡ false → AreKept ends rests kept at → AreKept ends rests kept (at + 1)
  left_out ends rests kept at rest level within is_rest goes before =
      let long = length_rows number ends rests level in
      let inside : at < length (rows_of number ends rests) = omega arith in
      let end : ℤ = get_or ends at (pos 0) in
      let is_end : end ≡ get_or ends at end = get_or_default ends at (pos 0) end within in
      let read : row_of number end rest ≡ get_or (rows_of number ends rests) at (row_of number end rest) = row_read number ends rests at end rest (row_of number end rest) level within is_end is_rest in
      let was : FiltersInPlace (λ one. not (is_same_owner one.1 owner)) (rows_of number old_ends old_rests) (rows_of number ends rests) kept at = before in
      FiltersInPlace-more_no {x = row_of number end rest} was inside goes read
