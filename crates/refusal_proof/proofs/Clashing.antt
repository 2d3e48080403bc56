-- Claims that are free at a tick, and claims that clash before it.
use Rattle.std.proofs.Common.{◌≡◌, ◌∙◌, sym, refl, subst, ℕ, suc, zero, ◌<◌, List, [], ◌∷◌, length, get_or, arith, inr}
use Rattle.std.specs.Prelude.{ℤ, pos, negsuc, ◌+ℤ◌, ◌-ℤ◌, ◌<ℤ◌, ◌≤ℤ◌, ◌↔◌, Any}
use Rattle.std.specs.Int.{int_gap, int_max}
use Rattle.std.proofs.lemmas.Int.{ints, by_lt_z, clamps}
use Rattle.rail_types.specs.declared.paths.Claim.{Claim}
use Rattle.rail_types.specs.declared.paths.Window.{Window}
use Rattle.rail_types.specs.Occupation.{Clash, HeldClaim}
use Rattle.rail_types.specs.FirstClash.{IsFirstClash}
use Rattle.occupation_book.specs.Held.{IsFree}
use Rattle.refusal_proof.specs.Inside.{IsBehind, later, stay}

only_one : (P : Claim → Type 0) (claim : Claim) → Any P (claim ∷ []) → P claim
only_one P claim (zero, one, within, is, holds) = subst P (sym is) holds
only_one P claim (suc n, one, within, is, holds) = absurd (omega (arith, within))

-- what the first clash is to the claim that it clashes with
pub record Meets (kept : List HeldClaim) (claim : Claim) (first : HeldClaim) : Type 0 where
  pub at : ℕ
  pub within : at < length kept
  pub is : get_or kept at first ≡ first
  pub clash : Clash first.0 claim
  pub others : (k : ℕ) (d : HeldClaim) → k < length kept → Clash (get_or kept k d).0 claim
      → ¬ (((get_or kept k d).0.zone ≡ first.0.zone) × ((get_or kept k d).0.span.from <ℤ first.0.span.from))

pub meets : (kept : List HeldClaim) (claim : Claim) (first : HeldClaim) → IsFirstClash kept (claim ∷ []) first → Meets kept claim first
meets kept claim first is = record {
  at = is.is_held.0;
  within = is.is_held.1;
  is = is.is_held.2;
  clash = only_one (Clash first.0) claim is.clashes;
  others = λ k d inside clash sooner. is.others k d inside (0, claim, omega arith, refl, clash) (inr sooner);
}

-- a claim that clashes at the first tick does so until the other ends
pub behind_other_one : (kept : List HeldClaim) (claim at : Claim) (first : HeldClaim) (window rest : Window) → at.zone ≡ claim.zone → at.span.from ≡ (claim.span.from +ℤ window.from) → at.span.to ≡ (claim.span.to +ℤ window.from)
    → Meets kept at first → rest.from ≡ (first.0.span.to -ℤ claim.span.from) → rest.to ≡ window.to → IsBehind (λ tick. IsFree kept (later tick claim)) window rest
behind_other_one kept claim at first window rest zone from to meet begins ends =
    let left = meet.clash.1.0 in
    let right = meet.clash.1.1 in
    record {
      from = omega (arith, ints, from, to, left, right, begins);
      to = ends;
      before = λ tick low high free. free meet.at first meet.within
          (subst (λ (one : HeldClaim). Clash one.0 (later tick claim)) (sym meet.is)
          (meet.clash.0 ∙ zone, (omega (arith, ints, from, to, left, right, begins, low, high), omega (arith, ints, from, to, left, right, begins, low, high))));
    }

-- a zone stays free until the first claim that clashes
pub stays_until_first : (kept : List HeldClaim) (zone : ℕ) (window : Window) (at : Claim) (first : HeldClaim) (to : ℤ) → at.zone ≡ zone → at.span.from ≡ window.from → at.span.to ≡ window.to → Meets kept at first → to ≡ int_max first.0.span.from window.from
    → (enter : ℤ) → window.from <ℤ enter → enter ≤ℤ window.to → IsFree kept (stay window.from enter zone) ↔ (enter ≤ℤ to)
stays_until_first kept zone window at first to zone_is begins ends meet is enter late most = (
  (λ free. by_lt_z to enter
      (λ longer. absurd (free meet.at first meet.within (subst (λ (one : HeldClaim). Clash one.0 (stay window.from enter zone)) (sym meet.is) (meet.clash.0 ∙ zone_is, ((omega (arith, ints, clamps, is, longer)), let right = meet.clash.1.1 in omega (arith, ints, right, begins))))))
      (λ by. by)),
  λ by k d inside clash.
      let left = clash.1.0 in
      let right = clash.1.1 in
      meet.others k d inside (clash.0 ∙ sym zone_is, (omega (arith, ints, left, most, ends), omega (arith, ints, right, begins)))
      (clash.0 ∙ sym zone_is ∙ sym meet.clash.0, omega (arith, ints, clamps, is, by, left, late)),
)

-- a zone that is free is so for a shorter time
pub stays_to_end : (kept : List HeldClaim) (zone : ℕ) (window : Window) (at : Claim) (to : ℤ) → at.zone ≡ zone → at.span.from ≡ window.from → at.span.to ≡ window.to → IsFree kept at → to ≡ window.to
    → (enter : ℤ) → window.from <ℤ enter → enter ≤ℤ window.to → IsFree kept (stay window.from enter zone) ↔ (enter ≤ℤ to)
stays_to_end kept zone window at to zone_is begins ends free is enter late most = (
  (λ _. omega (arith, ints, is, most)),
  λ by k d inside clash.
      let left = clash.1.0 in
      let right = clash.1.1 in
      free k d inside (clash.0 ∙ sym zone_is, (omega (arith, ints, left, most, ends), omega (arith, ints, right, begins))),
)

-- what is left of ticks gets less
pub gap_smaller : (a b end : ℤ) → a <ℤ b → a <ℤ end → int_gap b end < int_gap a end
gap_smaller (pos a) (pos b) (pos end) less within = omega (arith, ints)
gap_smaller (pos a) (pos b) (negsuc end) less within = omega (arith, ints)
gap_smaller (pos a) (negsuc b) end less within = absurd (omega (arith, ints))
gap_smaller (negsuc a) (pos b) (pos end) less within = omega (arith, ints)
gap_smaller (negsuc a) (pos b) (negsuc end) less within = omega (arith, ints)
gap_smaller (negsuc a) (negsuc b) (pos end) less within = omega (arith, ints)
gap_smaller (negsuc a) (negsuc b) (negsuc end) less within = omega (arith, ints)
