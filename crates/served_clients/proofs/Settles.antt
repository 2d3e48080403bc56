-- What a reply says is settled, a turn of its call left settled.
use Rattle.std.proofs.Common.{◌≡◌, ◌≢◌, ◌⊎◌, ℕ, zero, suc, ◌+◌, ◌-◌, ◌≤◌, All, Contains, List, []}
use Rattle.std.proofs.Common.{◌∷◌, ◌++◌, Some, length, ap, ◌∙◌, subst, refl, arith}
use mathlib.Core.Logic.{⊎_elim, inl, inr}
use Rattle.std.proofs.lemmas.List.Elements.{All-head, All-tail}
use Rattle.line_answers.specs.gate.declared.views.Turn.{Turn}
use Rattle.line_answers.specs.gate.Views.{own, positions}
use Rattle.line_answers.specs.Answers.{Caller, Leaves}
use Rattle.line_answers.specs.Calls.{Answers, IsSettled, IsToldIn, IsTurnOf, LastFound}
use Rattle.line_answers.specs.Points.{added, unsettled_by}
use Rattle.rail_types.specs.declared.entries.Entry.{Entry}
use Rattle.client_lines.specs.declared.reply_texts.replies.Reply.{Reply}
use Rattle.client_lines.specs.declared.reply_texts.replies.Reply.TheVariants as reply
use Rattle.served_clients.specs.Talks.{AreSettledWithin, settled_point}

positions_first : (n m at : ℕ) (rest : List ℕ) → positions n m ++ rest ≡ at ∷ [] → (rest ≡ at ∷ []) ⊎ ((n ≡ at) × (1 ≤ m))
positions_first n zero at rest e = inl e
positions_first n (suc m) at rest e = let here : n ≡ at = cc in inr (here, omega arith)

-- the turn that added the entry left it settled, or it stands at one of these positions and what is before it was left
-- settled
entered : (few : List ℕ) (turns : List Turn) (settled at : ℕ) → own turns ≡ at ∷ [] → All (IsToldIn few) turns → AreSettledWithin turns settled
    → (at + 1 ≤ settled) ⊎ (Contains few at × (at ≤ settled))
entered few [] settled at e told within = let long = ap length e in absurd (omega arith)
entered few (t ∷ ts) settled at e told within = ⊎_elim
    (λ rest. entered few ts settled at rest (All-tail (IsToldIn few) t ts told) (All-tail (λ (u : Turn). u.left.settled ≤ settled) t ts within))
    (λ here.
    let n : t.found.entries ≡ at = here.0 in let some : 1 ≤ t.left.entries - t.found.entries = here.1 in
    let below : t.left.settled ≤ settled = All-head (λ (u : Turn). u.left.settled ≤ settled) t ts within in
    ⊎_elim (λ all. inl (omega arith))
    (⊎_elim (λ same. let left = same.1 in absurd (omega arith))
    (λ one. let left = one.0 in inr (subst (Contains few) n one.2, omega arith)))
    (All-head (IsToldIn few) t ts told))
    (positions_first t.found.entries (t.left.entries - t.found.entries) at (own ts) e)

-- a call whose turns all settled, and the last of which found so many entries, left as many settled
looked : (caller : Caller) (bytes : List ℕ) (history : List Entry) (turns : List Turn) (n settled : ℕ) → turns ≢ [] → LastFound turns n → All IsSettled turns
    → All (IsTurnOf caller bytes history) turns → AreSettledWithin turns settled → n ≤ settled
looked caller bytes history [] n settled some last all events within = absurd (some refl)
looked caller bytes history (t ∷ []) n settled some last all events within =
    let found : t.found.entries ≡ n = last in
    let here : t.left.settled ≡ t.left.entries = All-head IsSettled t [] all in
    let event : IsTurnOf caller bytes history t = All-head (IsTurnOf caller bytes history) t [] events in
    let grows = event.grows in
    let below : t.left.settled ≤ settled = All-head (λ (u : Turn). u.left.settled ≤ settled) t [] within in
    omega arith
looked caller bytes history (t ∷ u ∷ us) n settled some last all events within =
    looked caller bytes history (u ∷ us) n settled (λ none. let long = ap length none in omega arith) last (All-tail IsSettled t (u ∷ us) all)
    (All-tail (IsTurnOf caller bytes history) t (u ∷ us) events) (All-tail (λ (v : Turn). v.left.settled ≤ settled) t (u ∷ us) within)

module _ (caller : Caller) (bytes : List ℕ) (turns : List Turn) (h g left : List Entry) (settled : ℕ) (within : AreSettledWithin turns settled) where
  leaves : (r : Reply) (front k : ℕ) → Answers caller bytes r turns h g left → Leaves g left front → turns ≢ [] → All IsSettled turns
      → Some front ≡ Some k → k ≤ settled
  leaves r front k a told some all e =
      let same : front ≡ k = cc in
      let here = told.front_is in
      let below = looked caller bytes left turns (length g) settled some a.last all a.events within in
      omega arith

  adds : (r : Reply) (at front k : ℕ) → Answers caller bytes r turns h g left → added r ≡ at ∷ [] → unsettled_by r ≡ [] → front ≡ at + 1
      → Some front ≡ Some k → k ≤ settled
  adds r at front k a is none behind e =
      let same : front ≡ k = cc in
      ⊎_elim (λ below. omega arith)
      (λ there. let at_none : Contains [] at = subst (λ l. Contains l at) none there.0 in absurd (omega (arith, at_none.1)))
      (entered (unsettled_by r) turns settled at (a.own_entries ∙ is) a.in_step within)

  told_unsettled : (r : Reply) (at k : ℕ) → Answers caller bytes r turns h g left → added r ≡ at ∷ [] → Some at ≡ Some k → k ≤ settled
  told_unsettled r at k a is e =
      let same : at ≡ k = cc in
      ⊎_elim (λ below. omega arith) (λ there. let below = there.1 in omega arith)
      (entered (unsettled_by r) turns settled at (a.own_entries ∙ is) a.in_step within)

  pub reply_within : (r : Reply) (k : ℕ) → Answers caller bytes r turns h g left → settled_point r ≡ Some k → k ≤ settled
  reply_within (reply.Held number at front) k a e = adds (reply.Held number at front) at front k a refl refl a.gives.2.2.1.front_is e
  reply_within (reply.Pinned number at front) k a e = adds (reply.Pinned number at front) at front k a refl refl a.gives.2.3.1.front_is e
  reply_within (reply.Granted number at front runs) k a e = adds (reply.Granted number at front runs) at front k a refl refl a.gives.2.5.front_is e
  reply_within (reply.Freed number at freed front) k a e = adds (reply.Freed number at freed front) at front k a refl refl a.gives.2.2.1.front_is e
  reply_within (reply.Kept number at front deed) k a e = leaves (reply.Kept number at front deed) front k a a.gives.2.4 a.turns_are a.settle e
  reply_within (reply.Shown at front entry freer) k a e = leaves (reply.Shown at front entry freer) front k a a.gives.2.4 a.turns_are a.settle e
  reply_within (reply.Front front) k a e = leaves (reply.Front front) front k a a.gives.2.2 a.turns_are a.settle e
  reply_within (reply.Bad field) k a e = cc
  reply_within (reply.Denied number rule front) k a e = leaves (reply.Denied number rule front) front k a a.gives.2.5 a.turns_are a.settle e
  reply_within (reply.Ahead after front) k a e = leaves (reply.Ahead after front) front k a a.gives.2.3 a.turns_are a.settle e
  reply_within (reply.Other number at front) k a e = leaves (reply.Other number at front) front k a a.gives.2.3 a.turns_are a.settle e
  reply_within (reply.Gone number at freer front) k a e = leaves (reply.Gone number at freer front) front k a a.gives.2.3 a.turns_are a.settle e
  reply_within (reply.Taken number zone owner front) k a e = leaves (reply.Taken number zone owner front) front k a a.gives.2.5 a.turns_are a.settle e
  reply_within (reply.Breaks number run rule front) k a e = leaves (reply.Breaks number run rule front) front k a a.gives.2.5 a.turns_are a.settle e
  reply_within (reply.NoPath number front) k a e = leaves (reply.NoPath number front) front k a a.gives.2.3 a.turns_are a.settle e
  reply_within (reply.Again number at searched front) k a e = leaves (reply.Again number at searched front) front k a a.gives.2.3 a.turns_are a.settle e
  reply_within (reply.Unknown at front) k a e = leaves (reply.Unknown at front) front k a a.gives.2.1 a.turns_are a.settle e
  reply_within (reply.NotYours number at owner front) k a e = leaves (reply.NotYours number at owner front) front k a a.gives.2.3 a.turns_are a.settle e
  reply_within (reply.AlreadyFreed number at freer front) k a e = leaves (reply.AlreadyFreed number at freer front) front k a a.gives.2.3 a.turns_are a.settle e
  reply_within (reply.Wide number front) k a e = leaves (reply.Wide number front) front k a a.gives.2.7 a.turns_are a.settle e
  reply_within (reply.Full number front) k a e = leaves (reply.Full number front) front k a a.gives.2.5 a.turns_are a.settle e
  reply_within (reply.Unsettled number at front) k a e = told_unsettled (reply.Unsettled number at front) at k a refl e
  reply_within reply.DiskFault k a e = cc
  reply_within reply.NoMemory k a e = cc
