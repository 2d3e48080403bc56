-- The order of owners.
use Rattle.std.proofs.Common.{◌≢◌, ◌∙◌, inl, inr, arith, sym, subst}
use Rattle.rail_types.specs.declared.entries.Owner.{Owner}
use Rattle.rail_types.specs.declared.entries.Owner.TheVariants.{Base, Entry}
use Rattle.rail_types.specs.Occupation.{HeldClaim}
use Rattle.capacity_406.specs.Selecting.{OwnerBefore}
use Rattle.capacity_406.specs.InsideStretch.{OwnerNoLater}

pub owner_then : (a b c : Owner) → OwnerBefore a b → OwnerBefore b c → OwnerBefore a c
owner_then (Base a) (Base b) (Base c) ab bc = omega arith
owner_then (Base a) (Base b) (Entry c) ab bc = tt
owner_then (Base a) (Entry b) (Base c) ab bc = absurd bc
owner_then (Base a) (Entry b) (Entry c) ab bc = tt
owner_then (Entry a) (Base b) c ab bc = absurd ab
owner_then (Entry a) (Entry b) (Base c) ab bc = absurd bc
owner_then (Entry a) (Entry b) (Entry c) ab bc = omega arith

pub owner_itself : (a : Owner) → ¬ OwnerBefore a a
owner_itself (Base a) before = omega arith
owner_itself (Entry a) before = omega arith

pub owner_apart : (a b : Owner) → OwnerBefore a b → a ≢ b
owner_apart a b before same = owner_itself b (subst (λ o. OwnerBefore o b) same before)

-- behind a claim of another owner that comes no earlier than the owner's, there is none of the owner
pub owner_passed : (owner : Owner) (one other : HeldClaim) → OwnerBefore owner one.1 → OwnerNoLater one other → other.1 ≢ owner
owner_passed owner one other before (inl further) same = owner_itself owner (subst (OwnerBefore owner) same (owner_then owner one.1 other.1 before further))
owner_passed owner one other before (inr equal) same = owner_apart owner one.1 before (sym (equal ∙ same))
