-- Limits beyond the horizon leave out nothing.
use Rattle.std.proofs.Common.{◌≡◌, ℕ, List, [], sym, subst, refl, arith}
use Rattle.std.specs.Prelude.{ℤ, pos, ◌<ℤ◌}
use Rattle.std.proofs.lemmas.Int.{ints}
use Rattle.label_search.specs.declared.plans.Target.{Target}
use Rattle.label_search.specs.declared.plans.Target.TheVariants.{Place as To, End}
use Rattle.label_search.specs.declared.plans.Plan.{Plan}
use Rattle.label_search.specs.declared.plans.Trip.{Trip}
use Rattle.label_search.specs.declared.plans.Member.{Member}
use Rattle.label_search.specs.declared.limits.Limits.{Limits}
use Rattle.label_search.specs.Free.{Book}
use Rattle.label_search.specs.Limits.{IsUnlimited, ahead_of}
use Rattle.label_search.specs.Closed.{IsClosed, IsClosedBelow, IsHeld, Admits}

pub admits_same : (trip : Trip) (Held Other : ℕ → ℤ → Type 0) → ((place : ℕ) (tick : ℤ) → Held place tick → Other place tick) → (target : Target) (leave : ℤ) → Admits trip Held target leave → Admits trip Other target leave
admits_same trip Held Other more (To place) leave admitted = more place leave admitted
admits_same trip Held Other more End leave admitted = admitted

module _ (plan : Plan) (limits : Limits) (trip : Trip) (book : Book) (members : List Member) where
  pub closed_of_unlimited : IsUnlimited plan limits → IsClosedBelow plan limits trip book (IsHeld members) → IsClosed plan trip book members
  closed_of_unlimited all closed = record {
    start = λ step departs free. closed.start step departs free (all _ _ free.0.2);
    moves = λ place tick step member enters fits free. closed.moves place tick step member enters fits free (all _ _ free.0.2);
  }

  pub closed_held : (Held : ℕ → ℤ → Type 0) → ((place : ℕ) (tick : ℤ) → Held place tick → IsHeld members place tick) → ((place : ℕ) (tick : ℤ) → IsHeld members place tick → Held place tick) → IsClosedBelow plan limits trip book Held → IsClosedBelow plan limits trip book (IsHeld members)
  closed_held Held held reached closed = record {
    start = λ step departs free low. admits_same trip Held (IsHeld members) held _ _ (closed.start step departs free low);
    moves = λ place tick step member enters fits free low. admits_same trip Held (IsHeld members) held _ _ (closed.moves place tick step (reached place tick member) enters fits free low);
  }

  pub below_of_closed : IsClosed plan trip book members → IsClosedBelow plan limits trip book (IsHeld members)
  below_of_closed closed = record {
    start = λ step departs free low. closed.start step departs free;
    moves = λ place tick step member enters fits free low. closed.moves place tick step member enters fits free;
  }

nothing_ahead : (target : Target) → ahead_of [] target ≡ pos 0
nothing_ahead (To place) = refl
nothing_ahead End = refl

pub unlimited_none : (plan : Plan) (limits : Limits) → limits.ahead ≡ [] → plan.horizon <ℤ limits.below → IsUnlimited plan limits
unlimited_none plan limits none behind target leave soon =
    let ahead : ahead_of limits.ahead target ≡ pos 0 = subst (λ xs. ahead_of xs target ≡ pos 0) (sym none) (nothing_ahead target) in
    omega (arith, ints)
