-- Claims put into a book one by one.
use Rattle.std.proofs.Common.{◌≡◌, ◌+◌, ◌<◌, ℕ, List, [], ◌∷◌, ◌++◌, length, take, get_or, Contains, inl, inr, sym, ap, subst, ◌∙◌}
use Rattle.std.specs.Prelude.{IsPermutation}
use Rattle.std.proofs.lemmas.List.{take_more}
use Rattle.std.proofs.lemmas.List.Elements.{Contains-append_left, Contains-append_right, Contains-append_cases}
use Rattle.std.proofs.lemmas.List.Sorted.{Contains-permutation, IsPermutation-sym}
use Rattle.rail_types.specs.Occupation.{HeldClaim}
use Rattle.rail_types.specs.FirstClash.{HoldAlike}

-- with the next of a list put in, a book holds one more of its claims
pub alike_more : (at : ℕ) (next : HeldClaim) (live old new : List HeldClaim) → at < length live → get_or live at next ≡ next → IsPermutation (next ∷ old) new → HoldAlike old (take at live) → HoldAlike new (take (at + 1) live)
alike_more at next live old new within here gained alike one =
    let more : take (at + 1) live ≡ take at live ++ next ∷ [] = take_more live at next within ∙ ap (λ (it : HeldClaim). take at live ++ it ∷ []) here in (
      (λ contains. subst (λ (all : List HeldClaim). Contains all one) (sym more) (elim (Contains-append_cases (next ∷ []) old one (Contains-permutation new (next ∷ old) one (IsPermutation-sym (next ∷ old) new gained) contains)) [
        | inl last ↦ Contains-append_right (take at live) (next ∷ []) one last
        | inr before ↦ Contains-append_left (take at live) (next ∷ []) one ((alike one).0 before)
      ])),
      (λ contains. elim (Contains-append_cases (take at live) (next ∷ []) one (subst (λ (all : List HeldClaim). Contains all one) more contains)) [
        | inl before ↦ Contains-permutation (next ∷ old) new one gained (Contains-append_right (next ∷ []) old one ((alike one).1 before))
        | inr last ↦ Contains-permutation (next ∷ old) new one gained (Contains-append_left (next ∷ []) old one last)
      ]),
    )
