-- When two places are the same, as a table of places asks.
use mathlib.Core.Bool.{beq}
use Rattle.std.proofs.Common.{◌≡◌, ap, refl, arith, ℕ, ◌+◌, ◌*◌, ◌%◌, ◌^◌, fold, Bool, nat_eq}
use Rattle.std.specs.Bool.{Decides}
use Rattle.std.specs.Cmp.{IsEquivalence, bool_eq_equiv, booleans_Decides}
use Rattle.std.specs.Cmp.Lexicographic.{pointwise, bytes_decides}
use Rattle.std.specs.Hash as fed
use Rattle.std.specs.Hash.{HashWrites}
use Rattle.std.specs.Ordering.{on, eq_of_both}
use Rattle.std.proofs.lemmas.Bool.Decides.{Decides-and, Decides-eqb, Decides-like}
use Rattle.std.proofs.lemmas.Cmp.{on_equiv, and_equiv, nat_eq_equiv, nat_list_eq_equiv}
use Rattle.running_time.specs.declared.edges.Enter.{Enter}
use Rattle.running_time.specs.declared.edges.Enter.TheVariants.{Still, From}
use Rattle.stair_pieces.specs.declared.places.TheConstants.{SPREAD}
use Rattle.stair_pieces.specs.declared.places.Place.{Place}

-- a number for each way to enter a block
abbrev pub entry_number : Enter → ℕ
entry_number Still = 0
entry_number (From speed) = speed + 1

-- whether two places are the same, field by field
abbrev pub same_place : Place → Place → Bool
same_place =
    eq_of_both
    (on (λ place. place.tail) (pointwise nat_eq))
    (eq_of_both
    (on (λ place. entry_number place.entered) nat_eq)
    (eq_of_both (on (λ place. place.standing) beq) (on (λ place. place.made) nat_eq)))

-- the word of all numbers so far and this one
abbrev pub word_with : ℕ → ℕ → ℕ
word_with word number = (word * SPREAD + number) % 2 ^ 64

-- what of a place is hashed: one number of 64 bits for the stops that it has made, how the block of
-- its head was entered, and the blocks under the train
abbrev pub hash_words : Place → HashWrites
hash_words place =
    fed.u64 (fold word_with (word_with place.made (entry_number place.entered)) place.tail)

pub same_place-equiv : IsEquivalence same_place
same_place-equiv =
    and_equiv
    (on_equiv (λ (place : Place). place.tail) nat_list_eq_equiv)
    (and_equiv
    (on_equiv (λ (place : Place). entry_number place.entered) nat_eq_equiv)
    (and_equiv
    (on_equiv (λ (place : Place). place.standing) bool_eq_equiv)
    (on_equiv (λ (place : Place). place.made) nat_eq_equiv)))

entries_are_one : (a b : Enter) → entry_number a ≡ entry_number b → a ≡ b
entries_are_one Still Still same = refl
entries_are_one Still (From v) same = absurd (omega (arith, same))
entries_are_one (From u) Still same = absurd (omega (arith, same))
entries_are_one (From u) (From v) same = let one : u ≡ v = omega (arith, same) in ap From one

abbrev pub FieldsAlike : Place → Place → Type 0
FieldsAlike a b =
    (a.tail ≡ b.tail) × ((entry_number a.entered ≡ entry_number b.entered)
    × ((a.standing ≡ b.standing) × (a.made ≡ b.made)))

equal_places : (a b : Place) → FieldsAlike a b → a ≡ b
equal_places a b parts =
    let entered = entries_are_one a.entered b.entered parts.1.0 in
    λ j. record {
      tail = parts.0 j;
      entered = entered j;
      standing = parts.1.1.0 j;
      made = parts.1.1.1 j;
    }

fields_of_equal : (a b : Place) → a ≡ b → FieldsAlike a b
fields_of_equal a b same = (
  ap (λ (p : Place). p.tail) same,
  (
    ap (λ (p : Place). entry_number p.entered) same,
    (ap (λ (p : Place). p.standing) same, ap (λ (p : Place). p.made) same),
  ),
)

-- two places are the same exactly where they are equal
pub same_place-Decides : (a b : Place) → Decides (same_place a b) (a ≡ b)
same_place-Decides a b =
    Decides-like _ (equal_places a b) (fields_of_equal a b)
    (Decides-and _ _
    (bytes_decides a.tail b.tail)
    (Decides-and _ _
    (Decides-eqb (entry_number a.entered) (entry_number b.entered))
    (Decides-and _ _
    (booleans_Decides a.standing b.standing)
    (Decides-eqb a.made b.made))))
