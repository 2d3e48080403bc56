-- The lines of blocks, one after another.
use Rattle.std.proofs.Common.{◌≡◌, ◌∙◌, sym, refl, ℕ, ◌+◌, ◌<◌, ◌≤◌, List, ◌∷◌, ◌++◌, length, drop, get_or, Some, None, append_assoc, add-one, drop-cons, inl, inr}
use Rattle.std.specs.Prelude.{slice_get}
use Rattle.std.proofs.lemmas.List.{append-nil, drop_all}
use Rattle.std.proofs.lemmas.Option.{get_or_from_slice_get, slice_get_cases, slice_get_within}
use Rattle.rail_types.specs.declared.tracks.Block.{Block}
use Rattle.rail_types.specs.declared.named_network.BlockName.{BlockName}
use Rattle.stairway_print.specs.Networks.{block_line, block_lines}

at : {X : Type 0} (xs : List X) (i : ℕ) (x : X) → i < length xs → x ≡ get_or xs i x → drop i xs ≡ x ∷ drop (i + 1) xs
at xs i x within is = drop-cons xs i x within ∙ (rw (← is, add-one) refl)

past : {X : Type 0} (xs : List X) (i : ℕ) → None ≡ slice_get xs i → length xs ≤ i
past xs i none = elim ((slice_get_cases xs i).1) [
  | inl here ↦ let (x, within, some, is) = here in absurd (let e : None ≡ Some x = none ∙ some in cc)
  | inr there ↦ there.0
]

module _ (stops : List (List ℕ)) (blocks : List Block) (names : List BlockName) (i : ℕ) (text all : List ℕ) where
  pub goes_on : (block : Block) (name : BlockName) → i < length blocks → block ≡ get_or blocks i block → Some name ≡ slice_get names i
      → text ++ block_lines stops i (drop i blocks) (drop i names) ≡ all
      → (text ++ block_line stops i block name) ++ block_lines stops (i + 1) (drop (i + 1) blocks) (drop (i + 1) names) ≡ all
  goes_on block name within is got so_far =
      let there : i < length names = slice_get_within names i name (sym got) in
      let also : name ≡ get_or names i name = sym (get_or_from_slice_get names i name name (sym got)) in
      append_assoc text (block_line stops i block name) (block_lines stops (i + 1) (drop (i + 1) blocks) (drop (i + 1) names))
      ∙ (rw (at blocks i block within is, at names i name there also) at so_far)

  pub ends_names : (block : Block) → i < length blocks → block ≡ get_or blocks i block → None ≡ slice_get names i → text ++ block_lines stops i (drop i blocks) (drop i names) ≡ all → text ≡ all
  ends_names block within is none so_far = sym (append-nil text) ∙ (rw (at blocks i block within is, drop_all i names (past names i none)) at so_far)

  pub ends_blocks : length blocks ≤ i → text ++ block_lines stops i (drop i blocks) (drop i names) ≡ all → text ≡ all
  ends_blocks none so_far = sym (append-nil text) ∙ (rw (drop_all i blocks none) at so_far)
