-- Pieces have their zones in one way.
use Rattle.std.proofs.Common.{◌≡◌, ℕ, ◌<◌, ◌≤◌, List, get_or, zero, suc, sym, ◌∙◌, inl, inr, arith}
use Rattle.std.proofs.lemmas.Bool.{cases_eq, cases_order}
use Rattle.std.proofs.lemmas.List.{ext_get_or}
use Rattle.track_graph.specs.Zones.{AreZones}

-- no piece has a lesser zone than in another numbering
not_less : (joined : ℕ → ℕ → Type 0) (pieces one other : ℕ) (zones others : List ℕ) → AreZones joined pieces one zones → AreZones joined pieces other others → (b : ℕ) → b < pieces → ((a : ℕ) → a < b → get_or zones a 0 ≡ get_or others a 0) → get_or zones b 0 < get_or others b 0 → ⊥
not_less joined pieces one other zones others z o b h before less =
    let it = o.order b (get_or zones b 0) h less in
    let within : it.0 < pieces = (let early = it.1 in omega arith) in
    let agrees = before it.0 it.1 in
    let linked = (z.same it.0 b within h).0 (agrees ∙ it.2) in
    let same = (o.same it.0 b within h).1 linked in
    let e = it.2 in omega arith

same_below : (joined : ℕ → ℕ → Type 0) (pieces one other : ℕ) (zones others : List ℕ) → AreZones joined pieces one zones → AreZones joined pieces other others → (n : ℕ) → n ≤ pieces → (b : ℕ) → b < n → get_or zones b 0 ≡ get_or others b 0
same_below joined pieces one other zones others z o zero few b h = absurd (omega arith)
same_below joined pieces one other zones others z o (suc n) few b h =
    let before : (a : ℕ) → a < n → get_or zones a 0 ≡ get_or others a 0 = same_below joined pieces one other zones others z o n (omega arith) in
    let back : (a : ℕ) → a < n → get_or others a 0 ≡ get_or zones a 0 = λ a k. sym (before a k) in
    elim (cases_eq b n) [
      | inr e ↦ before b (omega arith)
      | inl e ↦ elim (cases_order (get_or zones b 0) (get_or others b 0)) [
        | inl same ↦ same
        | inr differ ↦ elim differ [
          | inl less ↦ absurd (not_less joined pieces one other zones others z o b (omega arith) (λ a k. before a (omega arith)) less)
          | inr more ↦ absurd (not_less joined pieces other one others zones o z b (omega arith) (λ a k. back a (omega arith)) more)
        ]
      ]
    ]

pub one_zones : (joined : ℕ → ℕ → Type 0) (pieces one other : ℕ) (zones others : List ℕ) → AreZones joined pieces one zones → AreZones joined pieces other others → zones ≡ others
one_zones joined pieces one other zones others z o =
    let long = z.long in
    ext_get_or 0 zones others (z.long ∙ sym o.long) (λ i h. same_below joined pieces one other zones others z o pieces (omega arith) i (omega arith))
