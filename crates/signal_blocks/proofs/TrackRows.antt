-- Rows by track.
use Rattle.std.proofs.Common.{◌≡◌, ℕ, ◌+◌, ◌<◌, Bool, true, false, cond, ◌&&◌, List, [], ◌∷◌, ◌++◌, length, take, get_or, set, filter, nat_eq, refl, ap, arith, map}
use native.Mathlib.Decide.{ℕ_discrete}
use Rattle.std.proofs.lemmas.List.{get_or-set_same, get_or-set_other, append-nil}
use Rattle.std.proofs.lemmas.List.Elements.{filter_more}
use Rattle.signal_blocks.specs.Rows.{AreRows, is_in, row_of}
use Rattle.signal_blocks.specs.Served.{lies_on, stops_in}
use Rattle.signal_blocks.specs.Speeds.{holds_on, limits_in}
use Rattle.signal_blocks.specs.declared.block_cuts.lines.SpeedRange.{SpeedRange}
use Rattle.signal_blocks.specs.declared.block_cuts.lines.StopPart.{StopPart}
use Rattle.route_walk.specs.declared.walks.Stretch.{Stretch}

module _ {X : Type 0} (key : X → ℕ) (all : List X) (rows : List (List X)) (i track : ℕ) (item : X) (lt : i < length all) (here : get_or all i item ≡ item) where
  hit_row : key item < length rows → track ≡ key item → row_of rows (key item) ≡ filter (is_in key (key item)) (take i all)
      → row_of (set rows (key item) (row_of rows (key item) ++ item ∷ [])) track ≡ filter (is_in key track) (take (i + 1) all)
  hit_row within hit each =
      let yes : nat_eq (key item) (key item) ≡ true = grind arith in
      rw (hit, filter_more (is_in key (key item)) all i item lt, here, yes, get_or-set_same rows (key item) (row_of rows (key item) ++ item ∷ []) [] within) (ap (λ row. row ++ item ∷ []) each)

  missed_row : (track ≡ key item → ⊥) → row_of rows track ≡ filter (is_in key track) (take i all)
      → row_of (set rows (key item) (row_of rows (key item) ++ item ∷ [])) track ≡ filter (is_in key track) (take (i + 1) all)
  missed_row miss each =
      let no_match : nat_eq (key item) track ≡ false = grind (arith, miss) in
      rw (filter_more (is_in key track) all i item lt, here, no_match, append-nil (filter (is_in key track) (take i all)), get_or-set_other rows (key item) track (row_of rows (key item) ++ item ∷ []) [] miss) each

pub item_added : {X : Type 0} (key : X → ℕ) (all : List X) (rows : List (List X)) (i : ℕ) (item : X) → i < length all → get_or all i item ≡ item → key item < length rows
    → AreRows key (take i all) rows → AreRows key (take (i + 1) all) (set rows (key item) (row_of rows (key item) ++ item ∷ []))
item_added key all rows i item lt here within is = record {
  each = λ track. elim (ℕ_discrete track (key item)) [
    | yes hit ↦ hit_row key all rows i track item lt here within hit (is.each (key item))
    | no miss ↦ missed_row key all rows i track item lt here miss (is.each track)
  ];
}

both_if : (a b : Bool) → (a && b) ≡ true → a ≡ true
both_if true b e = refl
both_if false b e = e

-- of those that pass a test the ones that pass a stronger one
filter_if : {X : Type 0} (x : X) (one two : Bool) (xs ys : List X) → (two ≡ true → one ≡ true) → (q : X → Bool) → q x ≡ two → filter q ys ≡ xs → filter q (cond one (x ∷ ys) ys) ≡ cond two (x ∷ xs) xs
filter_if x true two xs ys up q e rest = rw (e, rest) refl
filter_if x false true xs ys up q e rest = absurd (cc (up refl))
filter_if x false false xs ys up q e rest = rest

filter_within : {X : Type 0} (p q : X → Bool) (xs : List X) → ((x : X) → q x ≡ true → p x ≡ true) → filter q (filter p xs) ≡ filter q xs
filter_within p q [] up = refl
filter_within p q (x ∷ xs) up = filter_if x (p x) (q x) (filter q xs) (filter p xs) (up x) q refl (filter_within p q xs up)

pub limits_of_row : (ranges : List SpeedRange) (stretch : Stretch) → limits_in (filter (is_in (λ range. range.range.track) stretch.track) ranges) stretch ≡ limits_in ranges stretch
limits_of_row ranges stretch = ap (map (λ (range : SpeedRange). range.limit)) (filter_within (is_in (λ range. range.range.track) stretch.track) (holds_on stretch) ranges (λ range e. both_if _ _ e))

pub stops_of_row : (parts : List StopPart) (stretch : Stretch) → stops_in (filter (is_in (λ part. part.part.track) stretch.track) parts) stretch ≡ stops_in parts stretch
stops_of_row parts stretch = ap (map (λ (part : StopPart). part.stop)) (filter_within (is_in (λ part. part.part.track) stretch.track) (lies_on stretch) parts (λ part e. both_if _ _ e))
