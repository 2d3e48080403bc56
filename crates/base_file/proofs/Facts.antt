-- One overlap at most is the first, and a base has none.
use Rattle.std.proofs.Common.{◌≡◌, ◌∙◌, inl, inr, ℕ, List, get_or, sym, ap, arith, AllPairs}
use Rattle.std.proofs.lemmas.Bool.{cases_lt}
use Rattle.std.proofs.lemmas.Int.{ints}
use Rattle.std.proofs.lemmas.List.{get_or_default}
use Rattle.rail_types.specs.declared.bases.BaseClaim.{BaseClaim}
use Rattle.rail_types.specs.Occupation.{Clash}
use Rattle.base_file.specs.Laws.{FirstOverlapsAreOne}
use Rattle.base_file.specs.Overlaps.{Apart, AreOverlapping, IsFirstOverlap, IsNoLater}

same_told : (one other x y : BaseClaim) → IsNoLater one other x y → IsNoLater x y one other → (one.claim.zone ≡ x.claim.zone) × (one.train ≡ x.train) × (other.train ≡ y.train)
same_told one other x y (inl a) (inl b) = absurd (omega arith)
same_told one other x y (inl a) (inr (b, c)) = absurd (omega arith)
same_told one other x y (inr (a, c)) (inl b) = absurd (omega arith)
same_told one other x y (inr (z, inl a)) (inr (w, inl b)) = absurd (omega (arith, ints))
same_told one other x y (inr (z, inl a)) (inr (w, inr (b, c))) = absurd (omega (arith, ints))
same_told one other x y (inr (z, inr (a, c))) (inr (w, inl b)) = absurd (omega (arith, ints))
same_told one other x y (inr (z, inr (a, inl c))) (inr (w, inr (b, inl e))) = absurd (omega arith)
same_told one other x y (inr (z, inr (a, inl c))) (inr (w, inr (b, inr (e, f)))) = absurd (omega arith)
same_told one other x y (inr (z, inr (a, inr (c, g)))) (inr (w, inr (b, inl e))) = absurd (omega arith)
same_told one other x y (inr (z, inr (a, inr (c, g)))) (inr (w, inr (b, inr (e, f)))) = (z, c, omega arith)

same_first : (claims : List BaseClaim) (zone a b other c d : ℕ) (f : IsFirstOverlap claims zone a b) (g : IsFirstOverlap claims other c d) → (f.one.claim.zone ≡ g.one.claim.zone) × (f.one.train ≡ g.one.train) × (f.other.train ≡ g.other.train)
same_first claims zone a b other c d f g = same_told f.one f.other g.one g.other (f.pair.first g.one g.other g.pair.overlapping) (g.pair.first f.one f.other f.pair.overlapping)

clash_back : (x y : BaseClaim) → Clash x.claim y.claim → Clash y.claim x.claim
clash_back x y clash = (sym clash.0, (clash.1.1, clash.1.0))

none_over : (claims : List BaseClaim) (x y : BaseClaim) → AllPairs Apart claims → AreOverlapping claims x y → ⊥
none_over claims x y apart over =
    let (m, within, is) = over.one_stands in
    let (n, inside, also) = over.other_stands in
    let b : get_or claims n x ≡ y = get_or_default claims n x y inside ∙ also in
    elim (cases_lt m n) [
      | inl before ↦ apart m n x before inside (rw (is, b) over.clash)
      | inr behind ↦ elim (cases_lt n m) [
        | inl before ↦ apart n m x before within (rw (is, b) (clash_back x y over.clash))
        | inr same ↦
            let alike : m ≡ n = omega arith in
            let one_claim : x ≡ y = sym is ∙ (ap (λ k. get_or claims k x) alike ∙ b) in
            let low = over.trains in
            let trains_same : x.train ≡ y.train = ap (λ (c : BaseClaim). c.train) one_claim in
            absurd (omega arith)
      ]
    ]

pub first_overlaps_are_one : FirstOverlapsAreOne
first_overlaps_are_one = record {
  zone = λ claims zone a b other c d f g. sym f.zone_is ∙ ((same_first claims zone a b other c d f g).0 ∙ g.zone_is);
  one = λ claims zone a b other c d f g. sym f.a_is ∙ ((same_first claims zone a b other c d f g).1 ∙ g.a_is);
  two = λ claims zone a b other c d f g. sym f.b_is ∙ ((same_first claims zone a b other c d f g).2 ∙ g.b_is);
  none = λ zones base x y is over. none_over base.claims x y is.apart over;
}
