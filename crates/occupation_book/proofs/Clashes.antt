-- What the claims of a zone, in order, say about the first that ends after a new claim begins.
use Rattle.std.proofs.Common.{◌≡◌, ℕ, ◌<◌, ◌≤◌, ◌<ℤ◌, ◌≤ℤ◌, ℤ, int_le, true, false, zero, suc, List, [], ◌∷◌, length, get_or, sym, subst, inl, inr, refl, arith}
use borrow.Author.Differences.{le-true, le-false}
use Rattle.std.specs.List.{AllWithin}
use Rattle.std.proofs.lemmas.Bool.{cases_order}
use Rattle.std.proofs.lemmas.Int.{by_lt_z, ints}
use Rattle.rail_types.specs.declared.paths.Claim.{Claim}
use Rattle.rail_types.specs.Occupation.{Clash, HeldClaim}
use Rattle.rail_types.specs.FirstClash.{ClashesWith, IsBefore, IsFirstClash}
use Rattle.occupation_book.specs.Held.{AreInOrder, IsFree}

-- a test of two ticks, as a fact
pub ended : (a b : ℤ) → int_le a b ≡ true → a ≤ℤ b
ended a b test = let fact = le-true a b test in omega (arith, ints)

pub not_ended : (a b : ℤ) → int_le a b ≡ false → b <ℤ a
not_ended a b test = let fact = le-false a b test in omega (arith, ints)

module _ (claims : List HeldClaim) (claim : Claim) (at : ℕ) (order : AreInOrder claim.zone claims) (before : AllWithin (λ one. one.0.span.to ≤ℤ claim.span.from) claims 0 at) (after : AllWithin (λ one. claim.span.from <ℤ one.0.span.to) claims at (length claims)) where
  -- a claim behind the place begins when the one at the place has ended
  begins_later : (k : ℕ) (other : HeldClaim) → at < k → k < length claims → (get_or claims at other).0.span.from <ℤ (get_or claims k other).0.span.from
  begins_later k other behind within =
      let ends = order.sorted at k other behind within in
      let lasts = order.ticks at other (omega arith) in
      omega (arith, ints)

  -- a claim before the place does not clash
  ends_before : (k : ℕ) (other : HeldClaim) → k < at → ¬ Clash (get_or claims k other).0 claim
  ends_before k other ahead clash =
      let ends = before k other (omega arith) ahead in
      let overlaps = clash.1.1 in
      omega (arith, ints)

  pub free_past_the_end : length claims ≤ at → IsFree claims claim
  free_past_the_end end k other within = ends_before k other (omega arith)

  -- the claim at the place, if it doesn't clash, begins when the new one has ended
  next_is_late : (other : HeldClaim) → at < length claims → ¬ Clash (get_or claims at other).0 claim → claim.span.to ≤ℤ (get_or claims at other).0.span.from
  next_is_late other within apart = by_lt_z (get_or claims at other).0.span.from claim.span.to (λ early. absurd (apart (order.on_zone at other within, (early, after at other (omega arith) within)))) (λ late. late)

  -- so do those behind it
  pub free_before_the_next : at < length claims → ((other : HeldClaim) → ¬ Clash (get_or claims at other).0 claim) → IsFree claims claim
  free_before_the_next within apart k other in_range clash = elim (cases_order k at) [
    | inl same ↦ apart other (subst (λ q. Clash (get_or claims q other).0 claim) same clash)
    | inr differs ↦ elim differs [
      | inl ahead ↦ ends_before k other ahead clash
      | inr behind ↦
          let later = begins_later k other behind in_range in
          let begins = next_is_late other within (apart other) in
          let begun = clash.1.0 in
          omega (arith, ints)
    ]
  ]

  -- a claim that clashes with the list of one clashes with that one
  clash_of_one : (one : HeldClaim) → ClashesWith (claim ∷ []) one → Clash one.0 claim
  clash_of_one one (zero, other, within, same, clash) = subst (λ claim. Clash one.0 claim) (sym same) clash
  clash_of_one one (suc k, other, within, same, clash) = absurd (omega arith)

  pub first_clash_here : (found : HeldClaim) → at < length claims → ((other : HeldClaim) → get_or claims at other ≡ found) → Clash found.0 claim → IsFirstClash claims (claim ∷ []) found
  first_clash_here found within here clash = record {
    is_held = (at, within, here found);
    clashes = (0, claim, omega arith, refl, clash);
    others = λ k other in_range clashes before. elim (cases_order k at) [
      | inl same ↦ not_before_itself found (subst (λ one. IsBefore one.0 found.0) (subst (λ q. get_or claims q other ≡ found) (sym same) (here other)) before)
      | inr differs ↦ elim differs [
        | inl ahead ↦ ends_before k other ahead (clash_of_one (get_or claims k other) clashes)
        | inr behind ↦ not_behind other k within in_range (subst (λ one. one.0.span.from <ℤ (get_or claims k other).0.span.from) (here other) (begins_later k other behind in_range)) (subst (λ one. one.0.zone ≡ claim.zone) (here other) (order.on_zone at other within)) before
      ]
    ];
  }
    where
      not_before_itself : (one : HeldClaim) → ¬ IsBefore one.0 one.0
      not_before_itself one (inl lower) = omega arith
      not_before_itself one (inr same) = let begins = same.1 in omega (arith, ints)

      not_behind : (other : HeldClaim) (k : ℕ) → at < length claims → k < length claims → found.0.span.from <ℤ (get_or claims k other).0.span.from → found.0.zone ≡ claim.zone → ¬ IsBefore (get_or claims k other).0 found.0
      not_behind other k _ in_range later zone (inl lower) = let level = order.on_zone k other in_range in omega arith
      not_behind other k _ in_range later zone (inr same) = let begins = same.1 in omega (arith, ints)
