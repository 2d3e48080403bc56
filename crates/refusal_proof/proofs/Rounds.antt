-- Ticks at which claims are free, for one claim after another, and behind the last for the first again.
use Rattle.std.proofs.Common.{◌≡◌, ◌⊎◌, ℕ, ◌+◌, ◌*◌, ◌-◌, ◌<◌, ◌≤◌, List, length, get_or, sym, subst, ◌∙◌, inl, inr, arith}
use Rattle.std.specs.Prelude.{ℤ, ◌<ℤ◌, ◌≤ℤ◌}
use Rattle.std.specs.Int.{int_gap}
use Rattle.std.proofs.Math.Nat.{mul_comm}
use Rattle.std.proofs.lemmas.Bool.{cases_lt, cases_eq}
use Rattle.std.proofs.lemmas.Int.{ints, by_lt_z}
use Rattle.std.proofs.lemmas.List.{get_or_default}
use Rattle.std.proofs.lemmas.Nat.{mul-add-lt}
use Rattle.rail_types.specs.declared.paths.Claim.{Claim}
use Rattle.rail_types.specs.declared.paths.Window.{Window}
use Rattle.rail_types.specs.Occupation.{HeldClaim}
use Rattle.occupation_book.specs.Held.{IsFree}
use Rattle.stair_pieces.specs.Moves.{IsInside}
use Rattle.refusal_proof.proofs.Clashing.{gap_smaller}
use Rattle.refusal_proof.specs.Inside.{AreFreeAt, IsFromFirst, later}

-- a place is one of so many in a row, the last of them before `at`, where behind the last of `count`
-- the first follows
abbrev pub IsAmong : ℕ → ℕ → ℕ → ℕ → Type 0
IsAmong count known at k = ((k < at) × (at ≤ k + known)) ⊎ ((at + count) ≤ (k + known))

-- `rest` is left of the window behind ticks at which not all claims are free, and at its first so many in a row are, the
-- last of them before `at`
pub record IsRound (kept : List HeldClaim) (claims : List Claim) (window rest : Window) (known at : ℕ) : Type 0 where
  pub from : window.from ≤ℤ rest.from
  pub some : rest.from ≤ℤ rest.to
  pub to : rest.to ≡ window.to
  pub before : (tick : ℤ) → window.from ≤ℤ tick → tick <ℤ rest.from → ¬ AreFreeAt kept claims tick
  pub free : (k : ℕ) (d : Claim) → k < length claims → IsAmong (length claims) known at k → IsFree kept (later rest.from (get_or claims k d))
  pub count : known ≤ length claims
  pub place : 0 < length claims → at < length claims

-- a place that is among those up to the next one is `at` itself, or was among those before
among_before : (count known at next k : ℕ) → at < count → k < count → (k ≡ at → ⊥) → (at + 1 < count → next ≡ at + 1) → (at + 1 ≡ count → next ≡ 0) → IsAmong count (known + 1) next k → IsAmong count known at k
among_before count known at next k inside is_in other on back among = elim (cases_lt (at + 1) count) [
  | inl more ↦ let same : next ≡ at + 1 = on more in elim among [
    | inl here ↦ let low = here.0 in let high = here.1 in inl (omega arith, omega arith)
    | inr past ↦ inr (omega arith)
  ]
  | inr none ↦ let start : next ≡ 0 = back (omega arith) in elim among [
    | inl here ↦ let low = here.0 in absurd (omega arith)
    | inr past ↦ inl (omega arith, omega arith)
  ]
]

next_inside : (count at next : ℕ) → at < count → (at + 1 < count → next ≡ at + 1) → (at + 1 ≡ count → next ≡ 0) → next < count
next_inside count at next inside on back = elim (cases_lt (at + 1) count) [
  | inl more ↦ let same : next ≡ at + 1 = on more in omega arith
  | inr none ↦ let start : next ≡ 0 = back (omega arith) in omega arith
]

module _ (kept : List HeldClaim) (claims : List Claim) (window rest : Window) (known at : ℕ) (more : known < length claims) (round : IsRound kept claims window rest known at)
    (other : Claim) where
  -- the claim at the place
  abbrev claim : Claim
  claim = get_or claims at other

  here : (d : Claim) → get_or claims at d ≡ claim
  here d = get_or_default claims at d other (round.place (omega arith))

  -- where the claim at the place is not free, not all are
  not_all : (tick : ℤ) → ¬ IsFree kept (later tick claim) → ¬ AreFreeAt kept claims tick
  not_all tick clashes all = clashes (subst (λ one. IsFree kept (later tick one)) (here claim) (all at claim (round.place (omega arith))))

  -- at no tick of the window all are free where at none that is left the claim at the place is
  pub none_left : ((tick : ℤ) → IsInside rest tick → ¬ IsFree kept (later tick claim)) → (tick : ℤ) → IsInside window tick → ¬ AreFreeAt kept claims tick
  none_left none tick inside =
      let low = inside.0 in let high = inside.1 in let whole = round.to in
      by_lt_z tick rest.from
      (λ early. round.before tick low early)
      (λ late. not_all tick (none tick (late, omega (arith, ints))))

  module _ (left : Window) (next : ℕ) (first : IsFromFirst (λ tick. IsFree kept (later tick claim)) rest left) (on : at + 1 < length claims → next ≡ at + 1) (back : at + 1 ≡ length claims → next ≡ 0) where
    before_left : (tick : ℤ) → window.from ≤ℤ tick → tick <ℤ left.from → ¬ AreFreeAt kept claims tick
    before_left tick low high = by_lt_z tick rest.from
        (λ early. round.before tick low early)
        (λ late. not_all tick (first.before tick late high))

    free_here : (k : ℕ) (d : Claim) → k ≡ at → IsFree kept (later left.from (get_or claims k d))
    free_here k d same = subst (λ n. IsFree kept (later left.from (get_or claims n d))) (sym same) (subst (λ one. IsFree kept (later left.from one)) (sym (here d)) first.first)

    -- the claim is free at the first tick that is left
    pub round_more : left.from ≤ℤ rest.from → IsRound kept claims window left (known + 1) next
    round_more no_later =
        let inside : at < length claims = round.place (omega arith) in
        let low = round.from in let begin = first.from in
        let same : left.from ≡ rest.from = omega (arith, ints) in
        record {
          from = omega (arith, ints);
          some = first.some;
          to = first.to ∙ round.to;
          before = before_left;
          free = λ k d is_in among. elim (cases_eq k at) [
            | inl is_here ↦ free_here k d is_here
            | inr other ↦ subst (λ tick. IsFree kept (later tick (get_or claims k d))) (sym same) (round.free k d is_in (among_before (length claims) known at next k inside is_in other on back among))
          ];
          count = omega arith;
          place = λ any. next_inside (length claims) at next inside on back;
        }

    -- it is free behind that, and the round begins with it
    pub round_anew : IsRound kept claims window left 1 next
    round_anew =
        let inside : at < length claims = round.place (omega arith) in
        let low = round.from in let begin = first.from in
        record {
          from = omega (arith, ints);
          some = first.some;
          to = first.to ∙ round.to;
          before = before_left;
          free = λ k d is_in among. elim (cases_eq k at) [
            | inl is_here ↦ free_here k d is_here
            | inr other ↦ elim (among_before (length claims) 0 at next k inside is_in other on back among) [
              | inl so ↦ let below = so.0 in let above = so.1 in absurd (omega arith)
              | inr past ↦ absurd (omega arith)
            ]
          ];
          count = omega arith;
          place = λ any. next_inside (length claims) at next inside on back;
        }

    -- less is left of the ticks, or of the claims at the first of them
    pub less_more : (end : ℤ) → left.from ≤ℤ rest.from → int_gap left.from end * (length claims + 1) + (length claims - (known + 1)) < int_gap rest.from end * (length claims + 1) + (length claims - known)
    less_more end no_later =
        let begin = first.from in
        let same : left.from ≡ rest.from = omega (arith, ints) in
        subst (λ from. int_gap from end * (length claims + 1) + (length claims - (known + 1)) < int_gap rest.from end * (length claims + 1) + (length claims - known)) (sym same) (omega arith)

    pub less_anew : (end : ℤ) → rest.from <ℤ left.from → rest.from <ℤ end → int_gap left.from end * (length claims + 1) + (length claims - 1) < int_gap rest.from end * (length claims + 1) + (length claims - known)
    less_anew end later within =
        let gap = int_gap left.from end in
        let width = length claims + 1 in
        let fewer : gap < int_gap rest.from end = gap_smaller rest.from left.from end later within in
        let step : gap * width + (length claims - 1) < int_gap rest.from end * width = subst (λ n. gap * width + (length claims - 1) < n) (mul_comm width (int_gap rest.from end)) (mul-add-lt gap width (length claims - 1) (int_gap rest.from end) fewer (omega arith)) in
        omega arith

-- where as many are free as there are, all are
pub round_ends : (kept : List HeldClaim) (claims : List Claim) (window rest : Window) (known at : ℕ) → ¬ (known < length claims) → IsRound kept claims window rest known at → IsFromFirst (AreFreeAt kept claims) window rest
round_ends kept claims window rest known at all round = record {
  from = round.from;
  some = round.some;
  to = round.to;
  before = round.before;
  first = λ k d inside. round.free k d inside (elim (cases_lt k at) [
    | inl below ↦ let few = round.count in inl (below, omega arith)
    | inr past ↦ let few = round.count in inr (omega arith)
  ]);
}
