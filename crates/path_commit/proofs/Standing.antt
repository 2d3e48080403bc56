-- Which entries hold a live claim that clashes.
use Rattle.std.proofs.Common.{◌≡◌, ◌↔◌, ℕ, ◌+◌, ◌<◌, ◌≤◌, List, [], length, Option, Some, None, Any, Contains, slice_get, is_some, false, inl, inr, sym, ap, subst, refl, arith}
use Rattle.std.proofs.lemmas.Bool.{cases_lt}
use Rattle.std.proofs.lemmas.Option.{slice_get_within}
use Rattle.rail_types.specs.declared.paths.Claim.{Claim}
use Rattle.rail_types.specs.declared.entries.Entry.{Entry}
use Rattle.rail_types.specs.declared.entries.Owner.TheVariants.{Entry as of_entry}
use Rattle.rail_types.specs.Occupation.{Clash, HeldClaim}
use Rattle.rail_types.specs.Timetables.{Timetable}
use Rattle.grant_log.specs.Live.{claims_of, freed_by, live_claims}
use Rattle.grant_log.specs.Since.{claims_at, claims_of_some}
use Rattle.grant_log.specs.declared.verdicts.Verdict.{Verdict}
use Rattle.grant_log.specs.declared.verdicts.Verdict.TheVariants.{Kept, Gone, Other, BreaksRequest, Taken, Unknown, NotYours, AlreadyFreed, Fresh}
use Rattle.grant_log.specs.Meanings.{Says}
use Rattle.grant_log.specs.Verdict.{breaks}
use Rattle.path_commit.specs.Answers.{IsTaken}
use Rattle.path_commit.specs.Clashes.{EntryClashes, EntryClashesFrom, IsGreatest, IsLastClash, NoneClashesFrom}

-- what the law of live claims says of an entry
abbrev pub Unfreed : Timetable → List Entry → Type 0
Unfreed timetable entries =
    (claim : Claim) (at : ℕ) → Contains (live_claims timetable entries) (claim, of_entry at)
    ↔ ((entry : Entry) × (slice_get entries at ≡ Some entry) × Contains (claims_of timetable entry.deed) claim × (freed_by entries at ≡ None))

abbrev pub ClashesOwn : List Claim → List Claim → Type 0
ClashesOwn own claims = Any (λ mine. Any (λ claim. Clash mine claim) claims) own

no_claim : (claims : List Claim) → ClashesOwn [] claims → ⊥
no_claim claims (k, mine, within, is, clash) = absurd (omega arith)

module _ (timetable : Timetable) (entries : List Entry) (claims : List Claim) (law : Unfreed timetable entries) (at : ℕ) where
  pub clash_own : EntryClashes (live_claims timetable entries) claims at → (freed_by entries at ≡ None) × ClashesOwn (claims_at timetable entries at) claims
  clash_own (claim, live, clash) =
      let found = (law claim at).0 live in
      let own : claims_at timetable entries at ≡ claims_of timetable found.0.deed = ap (claims_of_some timetable) found.1 in
      (found.3, subst (λ l. ClashesOwn l claims) (sym own) (found.2.0, claim, found.2.1, found.2.2, clash))

  pub own_clash : freed_by entries at ≡ None → ClashesOwn (claims_at timetable entries at) claims → EntryClashes (live_claims timetable entries) claims at
  own_clash none own = go (slice_get entries at) refl own
    where
      go : (here : Option Entry) → slice_get entries at ≡ here → ClashesOwn (claims_of_some timetable here) claims → EntryClashes (live_claims timetable entries) claims at
      go None is clashes = absurd (no_claim claims clashes)
      go (Some entry) is (k, mine, within, read, clash) = (mine, (law mine at).1 (entry, is, (k, within, read), none), clash)

  pub clash_within : EntryClashes (live_claims timetable entries) claims at → at < length entries
  clash_within (claim, live, clash) = let found = (law claim at).0 live in slice_get_within entries at found.0 found.1

-- ---- the last so far

abbrev pub LastBelow : List HeldClaim → List Claim → ℕ → ℕ → Option ℕ → Type 0
LastBelow held claims from below last = IsGreatest (λ at. (at < below) × EntryClashesFrom held claims from at) last

pub last_none : (held : List HeldClaim) (claims : List Claim) (from : ℕ) → LastBelow held claims from from None
last_none held claims from at both = absurd (let less = both.0 in let more = both.1.0 in omega (arith, less, more))

pub last_here : (held : List HeldClaim) (claims : List Claim) (from at : ℕ) → from ≤ at → EntryClashes held claims at → LastBelow held claims from (at + 1) (Some at)
last_here held claims from at behind clashes = ((omega arith, (behind, clashes)), λ later more both. absurd (let less = both.0 in omega (arith, less, more)))

pub last_not : (held : List HeldClaim) (claims : List Claim) (from at : ℕ) (last : Option ℕ) → ¬ EntryClashes held claims at → LastBelow held claims from at last → LastBelow held claims from (at + 1) last
last_not held claims from at None not known = λ k both. elim (cases_lt k at) [
  | inl less ↦ known k (less, both.1)
  | inr more ↦ not (subst (EntryClashes held claims) (let less = both.0 in omega (arith, less, more)) both.1.1)
]
last_not held claims from at (Some last) not known = (
  (let less = known.0.0 in omega (arith, less), known.0.1),
  λ k later both. elim (cases_lt k at) [
    | inl less ↦ known.1 k later (less, both.1)
    | inr more ↦ not (subst (EntryClashes held claims) (let less = both.0 in omega (arith, less, more)) both.1.1)
  ],
)

pub last_of_all : (held : List HeldClaim) (claims : List Claim) (from count : ℕ) (last : Option ℕ) → ((at : ℕ) → EntryClashes held claims at → at < count) → LastBelow held claims from count last → IsGreatest (EntryClashesFrom held claims from) last
last_of_all held claims from count None all known = λ at both. known at (all at both.1, both)
last_of_all held claims from count (Some last) all known = (known.0.1, λ later more both. known.1 later more (all later both.1, both))

pub is_none : (freer : Option ℕ) → is_some freer ≡ false → freer ≡ None
is_none None test = refl
is_none (Some by) test = cc

pub is_last : (held : List HeldClaim) (claims : List Claim) (from at : ℕ) → IsGreatest (EntryClashesFrom held claims from) (Some at) → IsLastClash held claims from at
is_last held claims from at greatest = record { behind = greatest.0.0; clashes = greatest.0.1; last = λ later more clashes. greatest.1 later more ((let behind = greatest.0.0 in omega (arith, behind, more)), clashes) }

pub is_no_last : (held : List HeldClaim) (claims : List Claim) (from : ℕ) → IsGreatest (EntryClashesFrom held claims from) None → NoneClashesFrom held claims from
is_no_last held claims from none at behind clashes = none at (behind, clashes)

-- where a claim is taken no rule is broken
pub taken_keeps : (timetable : Timetable) (entries : List Entry) (entry : Entry) (verdict : Verdict) → IsTaken verdict → Says timetable entries entry verdict → breaks timetable entry.deed ≡ None
taken_keeps timetable entries entry (Taken claim owner) is says = says.1.keeps
taken_keeps timetable entries entry (Kept at) is says = absurd is
taken_keeps timetable entries entry (Gone at by) is says = absurd is
taken_keeps timetable entries entry (Other at) is says = absurd is
taken_keeps timetable entries entry (BreaksRequest rule) is says = absurd is
taken_keeps timetable entries entry Unknown is says = absurd is
taken_keeps timetable entries entry (NotYours owner) is says = absurd is
taken_keeps timetable entries entry (AlreadyFreed by) is says = absurd is
taken_keeps timetable entries entry Fresh is says = absurd is
