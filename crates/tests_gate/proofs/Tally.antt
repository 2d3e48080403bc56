use Rattle.std.proofs.Common.{◌≡◌, ℕ, suc, ◌+◌, ◌-◌, ◌^◌, ◌≤◌, ◌<◌, List, [], ◌∷◌, All, length, ap, arith}
use Rattle.std.proofs.lemmas.List.Elements.{All-head, All-tail}
use Rattle.book_gate.specs.declared.views.Mark.{Mark}
use Rattle.book_gate.specs.declared.views.Turn.{Turn}
use Rattle.book_gate.specs.Views.{IsChain}
use Rattle.tests_gate.specs.Books.{AddsOne}

-- A chain of turns that add one each adds as many as they are, where the count can't come to its end.
pub chain_adds : (n : ℕ) (a z : Mark) (ts : List Turn) → IsChain n a ts z → All AddsOne ts → a.count + length ts ≤ 2 ^ 64 - 1 → z.entries + z.count ≡ a.entries + a.count + length ts
chain_adds n a z [] c h few = let e = ap (λ (m : Mark). m.entries) c in let k = ap (λ (m : Mark). m.count) c in omega arith
chain_adds n a z (t ∷ ts) c h few = let e = ap (λ (m : Mark). m.entries) c.1 in let k = ap (λ (m : Mark). m.count) c.1 in let up = c.2.0 in
    let low : t.found.count < 2 ^ 64 - 1 = omega arith in
    let one = All-head AddsOne t ts h low in let still : t.left.count + length ts ≤ 2 ^ 64 - 1 = omega arith in
    let rest = chain_adds (suc n) t.left z ts c.3 (All-tail AddsOne t ts h) still in omega arith
