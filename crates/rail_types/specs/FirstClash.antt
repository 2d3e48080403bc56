-- The first of held claims that clashes with new ones, by zone, then by begin.
use Rattle.std.specs.Prelude.{◌≡◌, ◌↔◌, ◌⊎◌, ◌<◌, ◌<ℤ◌, Bool, ◌&&◌, ◌||◌, not, List, Option, find}
use Rattle.std.specs.Prelude.{filter, nat_eq, nat_lt, int_lt, All, AllPairs, Any, Contains}
use Rattle.std.specs.List.{list_any, list_all}
use Rattle.rail_types.specs.declared.paths.Claim.{Claim}
use Rattle.rail_types.specs.Occupation.{Clash, HasTicks, HeldClaim}

-- whether two claims are on one zone and each begins before the other ends
abbrev pub clashes : Claim → Claim → Bool
clashes a b =
    nat_eq a.zone b.zone && (int_lt a.span.from b.span.to && int_lt b.span.from a.span.to)

-- whether a claim is on a lower zone than another, or on the same one and begins before it
abbrev pub is_before : Claim → Claim → Bool
is_before a b =
    nat_lt a.zone b.zone || (nat_eq a.zone b.zone && int_lt a.span.from b.span.from)

-- the held claims that clash with a claim of this list
abbrev pub clashing : List HeldClaim → List Claim → List HeldClaim
clashing held claims = filter (λ one. list_any (clashes one.0) claims) held

-- of these, the first that none of them is before
abbrev pub first_clash : List HeldClaim → List Claim → Option HeldClaim
first_clash held claims =
    find (λ one. list_all (λ other. not (is_before other.0 one.0)) (clashing held claims))
    (clashing held claims)

-- a held claim clashes with one of these
abbrev pub ClashesWith : List Claim → HeldClaim → Type 0
ClashesWith claims one = Any (λ claim. Clash one.0 claim) claims

-- a claim is on a lower zone than another, or on the same one and begins before it
abbrev pub IsBefore : Claim → Claim → Type 0
IsBefore a b = (a.zone < b.zone) ⊎ ((a.zone ≡ b.zone) × (a.span.from <ℤ b.span.from))

-- a held claim that clashes with one of these, and before which no other that clashes comes
pub record IsFirstClash (held : List HeldClaim) (claims : List Claim)
    (first : HeldClaim) : Type 0 where
  pub is_held : Contains held first
  pub clashes : ClashesWith claims first
  pub others : All (λ other. ClashesWith claims other → ¬ IsBefore other.0 first.0) held

-- each other held claim that clashes with one of these comes after this one
abbrev pub IsBeforeOthers : List HeldClaim → List Claim → HeldClaim → Type 0
IsBeforeOthers held claims first =
    All (λ other. ClashesWith claims other → (other ≡ first) ⊎ IsBefore first.0 other.0) held

-- held claims that have ticks, of which no two clash
pub record AreApart (held : List HeldClaim) : Type 0 where
  pub ticks : All (λ one. HasTicks one.0.span) held
  pub apart : AllPairs (λ one other. ¬ Clash one.0 other.0) held

-- two lists with the same members
abbrev pub HoldAlike : List HeldClaim → List HeldClaim → Type 0
HoldAlike held others = (one : HeldClaim) → Contains held one ↔ Contains others one
