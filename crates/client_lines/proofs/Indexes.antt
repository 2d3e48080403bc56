-- An index of names that is built from the last place to the first.
use Rattle.std.proofs.Common.{◌≡◌, ◌∙◌, ap, sym, refl, ℕ, ◌+◌, List, ◌∷◌, Bool, true, false, cond, Some}
use Rattle.std.specs.Map.{lookup, KeepsOthers}
use Rattle.std.specs.Str.{bytes_eq}
use Rattle.std.proofs.lemmas.Slice.Eq.{bytes_eq-Decides}
use Rattle.client_lines.specs.Names.{HavePlaces, place_from}

module _ {K : Type 0} (see : K → List ℕ) (eq : K → K → Bool) (same : (x y : K) → eq x y ≡ bytes_eq (see x) (see y)) where
  by : (key : K) (at : ℕ) (names : List (List ℕ)) (old new : List (K × ℕ)) (name : List ℕ) (is_it : Bool) → bytes_eq name (see key) ≡ is_it
      → HavePlaces see (at + 1) names old → KeepsOthers eq (eq key) old new → lookup (eq key) new ≡ Some at
      → lookup (λ other. bytes_eq name (see other)) new ≡ cond is_it (Some at) (place_from (at + 1) name names)
  unfolding KeepsOthers
  by key at names old new name true is before others put =
      let named : name ≡ see key = (bytes_eq-Decides name (see key)).0 is in
      ap (λ (test : K → Bool). lookup test new) (λ i other. (ap (λ (bytes : List ℕ). bytes_eq bytes (see other)) named ∙ sym (same key other)) i) ∙ put
  by key at names old new name false is before others put =
      others (λ other. bytes_eq name (see other))
      (λ x y found. ap (λ (bytes : List ℕ). bytes_eq bytes (see y)) ((bytes_eq-Decides name (see x)).0 found) ∙ sym (same x y))
      (λ other found. ap (bytes_eq name) (sym ((bytes_eq-Decides (see key) (see other)).0 (sym (same key other) ∙ found))) ∙ is)
      ∙ before.each name

  -- one more name before the others
  pub one_before : (key : K) (at : ℕ) (names : List (List ℕ)) (old new : List (K × ℕ)) → HavePlaces see (at + 1) names old → KeepsOthers eq (eq key) old new → lookup (eq key) new ≡ Some at
      → HavePlaces see at (see key ∷ names) new
  one_before key at names old new before others put = record {
    each = λ name. by key at names old new name (bytes_eq name (see key)) refl before others put;
  }
