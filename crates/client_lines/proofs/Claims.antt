-- Claims that stand behind one another.
use Rattle.std.proofs.Common.{◌≡◌, ◌∙◌, sym, refl, subst, ℕ, zero, suc, ◌≤◌, inl, inr, ◌<ℤ◌, ℤ, List, [], ◌∷◌, Option, Some, None, Bool, true, false, nat_eq, if◌then◌else◌, arith}
use Rattle.std.specs.List.{All, AllPairs}
use Rattle.std.proofs.lemmas.Bool.Decides.{nat_tests}
use Rattle.std.proofs.lemmas.Int.{ints}
use Rattle.std.proofs.lemmas.List.Elements.{All-cons, All-head, All-nil, All-tail}
use Rattle.std.proofs.lemmas.List.Kept.{AllPairs-cons}
use Rattle.rail_types.specs.declared.paths.Claim.{Claim}
use Rattle.rail_types.specs.Occupation.{EndsBefore, HasTicks}
use Rattle.client_lines.specs.Forms.{IsAfter, Spells}
use Rattle.client_lines.specs.Lines.{a_claim, end_before, groups, least_zone}
use Rattle.client_lines.specs.Names.{Names}

-- a claim behind another, where there is another
abbrev pub Behind : Option Claim → Claim → Type 0
Behind None claim = Unit {0}
Behind (Some before) claim = EndsBefore before claim

same_zone : (a b : ℕ) → nat_eq a b ≡ true → a ≡ b
same_zone a b is = grind (arith, nat_tests, is)

behind_by : (before claim : Claim) (same : Bool) → nat_eq before.zone claim.zone ≡ same → before.zone ≤ claim.zone
    → IsAfter (if same then Some before.span.to else None) claim.span.from → EndsBefore before claim
behind_by before claim true is zones after = inr (same_zone before.zone claim.zone is, after)
behind_by before claim false is zones after = inl (grind (arith, nat_tests, is, zones))

behind : (before : Option Claim) (claim : Claim) → least_zone before ≤ claim.zone → IsAfter (end_before before claim.zone) claim.span.from → Behind before claim
behind None claim zones after = tt
behind (Some before) claim zones after = behind_by before claim (nat_eq before.zone claim.zone) refl zones after

later : (a b c : ℤ) → a <ℤ b → b <ℤ c → a <ℤ c
later a b c p q = omega (arith, ints, p, q)

still : (one two three : Claim) → HasTicks two.span → EndsBefore one two → EndsBefore two three → EndsBefore one three
still one two three ticks (inl a) (inl b) = inl (omega (arith, a, b))
still one two three ticks (inl a) (inr b) = inl (omega (arith, a, b.0))
still one two three ticks (inr a) (inl b) = inl (omega (arith, a.0, b))
still one two three ticks (inr a) (inr b) = inr (a.0 ∙ b.0, later _ _ _ a.1 (later _ _ _ ticks b.1))

behind_too : (before : Option Claim) (claim other : Claim) → HasTicks claim.span → Behind before claim → EndsBefore claim other → Behind before other
behind_too None claim other ticks is after = tt
behind_too (Some before) claim other ticks is after = still before claim other ticks is after

all_behind : (before : Option Claim) (claim : Claim) (others : List Claim) → HasTicks claim.span → Behind before claim → All (EndsBefore claim) others → All (Behind before) others
all_behind before claim [] ticks is all = All-nil (Behind before)
all_behind before claim (other ∷ others) ticks is all =
    All-cons (Behind before) other others (behind_too before claim other ticks is (All-head (EndsBefore claim) other others all))
    (all_behind before claim others ticks is (All-tail (EndsBefore claim) other others all))

pub none_apart : AllPairs EndsBefore []
none_apart = λ i j d less within. absurd (omega (arith, less, within))

-- all are behind the one before, and each is behind those before it
abbrev pub Apart : Option Claim → List Claim → Type 0
Apart before claims = All (Behind before) claims × AllPairs EndsBefore claims

-- claims of groups come one behind the other
pub groups_apart : (known : Names) (count : ℕ) (before : Option Claim) (fields : List (List ℕ)) (claims : List Claim) → Spells (groups (a_claim known) before count) fields claims
    → Apart before claims
unfolding groups a_claim
groups_apart known zero before fields claims s = subst (Apart before) (sym s.1) (All-nil (Behind before), none_apart)
groups_apart known (suc count) before fields claims s =
    let one = s.4 in
    let on = groups_apart known count (Some s.0) s.5.1 s.5.0 s.5.4 in
    let here : Claim = record { zone = one.0; span = record { from = one.5.0; to = one.5.5.0 } } in
    let is : here ≡ s.0 = sym one.5.5.5.1 in
    let first : Behind before s.0 = subst (Behind before) is (behind before here one.4.2.2 one.5.4.2.2) in
    let ticks : HasTicks s.0.span = subst (λ (claim : Claim). HasTicks claim.span) is one.5.5.4.2.2 in
    subst (Apart before) (sym s.5.5.1) (All-cons (Behind before) s.0 s.5.0 first (all_behind before s.0 s.5.0 ticks first on.0), AllPairs-cons EndsBefore s.0 s.5.0 on.0 on.1)
