-- Groups of fields one behind the other are their texts one behind the other.
use Rattle.std.proofs.Common.{◌≡◌, ◌∙◌, ap, sym, refl, ℕ, List, [], ◌∷◌, ◌++◌, append_assoc}
use Rattle.std.specs.List.{flat_map}
use Rattle.client_lines.specs.Fields.{spaced}

pub spaced-append : (a b : List (List ℕ)) → spaced (a ++ b) ≡ spaced a ++ spaced b
unfolding spaced
spaced-append [] b = refl
spaced-append (field ∷ a) b =
    ap (λ (rest : List ℕ). 32 ∷ rest)
    (ap (λ (rest : List ℕ). field ++ rest) (spaced-append a b) ∙ sym (append_assoc field (spaced a) (spaced b)))

pub spaced-flat_map : {A : Type 0} (group : A → List (List ℕ)) (items : List A) → spaced (flat_map group items) ≡ flat_map (λ item. spaced (group item)) items
unfolding spaced
spaced-flat_map group [] = refl
spaced-flat_map group (item ∷ items) =
    spaced-append (group item) (flat_map group items)
    ∙ ap (λ (rest : List ℕ). spaced (group item) ++ rest) (spaced-flat_map group items)

pub ruleset grouped = (spaced-flat_map, spaced-append)
