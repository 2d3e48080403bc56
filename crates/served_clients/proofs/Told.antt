-- Entries that are not settled.
use Rattle.std.proofs.Common.{◌≡◌, ◌⊎◌, ℕ, suc, ◌+◌, ◌≤◌, All, Contains, List, [], ◌∷◌, ap, sym}
use Rattle.std.proofs.Common.{◌∙◌, subst, arith}
use mathlib.Core.Logic.{⊎_elim, inl, inr}
use Rattle.std.proofs.lemmas.List.Elements.{All-cons, All-head, All-nil, All-tail}
use Rattle.line_answers.specs.gate.declared.views.Mark.{Mark}
use Rattle.line_answers.specs.gate.declared.views.Turn.{Turn}
use Rattle.line_answers.specs.gate.Views.{IsChain, Rises}
use Rattle.line_answers.specs.Calls.{IsToldIn}
use Rattle.served_clients.specs.Talks.{AreSettledWithin}

-- what is told in some positions is told in more
pub told_more : (few many : List ℕ) (t : Turn) → ((n : ℕ) → Contains few n → Contains many n) → IsToldIn few t → IsToldIn many t
told_more few many t more = ⊎_elim (λ e. inl e) (⊎_elim (λ e. inr (inl e)) (λ e. inr (inr (e.0, e.1, more t.found.entries e.2))))

-- all is settled at the mark, or the one that is not stands at one of these positions
abbrev pub IsToldAt : List ℕ → Mark → Type 0
IsToldAt unsettled m = (m.settled ≡ m.entries) ⊎ ((m.settled + 1 ≡ m.entries) × Contains unsettled m.settled)

after : (unsettled : List ℕ) (t : Turn) → IsToldAt unsettled t.found → IsToldIn unsettled t → IsToldAt unsettled t.left
after unsettled t before = ⊎_elim (λ e. inl e)
    (⊎_elim
    (λ e. ⊎_elim (λ all. inl (e.0 ∙ all ∙ sym e.1)) (λ one. inr (ap (λ n. n + 1) e.0 ∙ one.0 ∙ sym e.1, subst (Contains unsettled) (sym e.0) one.1)) before)
    (λ e. inr (ap (λ n. n + 1) e.0 ∙ sym e.1, subst (Contains unsettled) (sym e.0) e.2)))

pub told_at_end : (unsettled : List ℕ) (n : ℕ) (first last : Mark) (turns : List Turn) → IsChain n first turns last → IsToldAt unsettled first → All (IsToldIn unsettled) turns → IsToldAt unsettled last
told_at_end unsettled n first last [] c at all = subst (IsToldAt unsettled) c at
told_at_end unsettled n first last (t ∷ ts) c at all =
    told_at_end unsettled (suc n) t.left last ts c.3 (after unsettled t (subst (IsToldAt unsettled) (sym c.1) at) (All-head (IsToldIn unsettled) t ts all)) (All-tail (IsToldIn unsettled) t ts all)

-- no turn takes down how many entries are settled
keeps_settled : (unsettled : List ℕ) (t : Turn) → IsToldAt unsettled t.found → Rises t → IsToldIn unsettled t → t.found.settled ≤ t.left.settled
keeps_settled unsettled t before rises told =
    let longer = rises.0 in
    let within : t.found.settled ≤ t.found.entries = ⊎_elim (λ all. omega arith) (λ one. let next = one.0 in omega arith) before in
    ⊎_elim (λ all. omega arith) (⊎_elim (λ same. let is = same.0 in omega arith) (λ one. let is = one.0 in omega arith)) told

-- so each turn left at most as many settled as the last one
pub settled_by_end : (unsettled : List ℕ) (n : ℕ) (first last : Mark) (turns : List Turn) → IsChain n first turns last → IsToldAt unsettled first
    → All (IsToldIn unsettled) turns → (first.settled ≤ last.settled) × AreSettledWithin turns last.settled
settled_by_end unsettled n first last [] c at all =
    let same = ap (λ (m : Mark). m.settled) c in
    (omega arith, All-nil (λ (t : Turn). t.left.settled ≤ last.settled))
settled_by_end unsettled n first last (t ∷ ts) c at all =
    let here = subst (IsToldAt unsettled) (sym c.1) at in
    let told = All-head (IsToldIn unsettled) t ts all in
    let rest = settled_by_end unsettled (suc n) t.left last ts c.3 (after unsettled t here told) (All-tail (IsToldIn unsettled) t ts all) in
    let later = rest.0 in
    let found = ap (λ (m : Mark). m.settled) c.1 in
    let kept = keeps_settled unsettled t here c.2 told in
    (omega arith, All-cons (λ (u : Turn). u.left.settled ≤ last.settled) t ts later rest.1)
