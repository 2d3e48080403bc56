-- A file reads as one history at most.
use Rattle.std.proofs.Common.{◌≡◌, ◌≢◌, ℕ, ◌<◌, ◌^◌, List, [], ◌∷◌, ◌++◌, length, take, drop, refl, sym, ap, ◌∙◌, append_assoc}
use Rattle.std.specs.Prelude.{All}
use Rattle.std.specs.Int.{w32, to_be_bytes}
use Rattle.std.proofs.lemmas.List.{take_at, drop_at}
use Rattle.std.proofs.lemmas.List.Elements.{All-head, All-tail}
use Rattle.grant_journal.specs.Histories.{counted, opened, ReadsAs}
use Rattle.path_recover.specs.Walks.{BeginsShut, BeginsWhole}

abbrev pub IsShort : List ℕ → Type 0
IsShort body = length body < 2 ^ 32

-- equal lists have equal heads and tails
head_of : ℕ → List ℕ → ℕ
head_of d [] = d
head_of d (x ∷ xs) = x

same_heads : (x y : ℕ) (xs ys : List ℕ) → x ∷ xs ≡ y ∷ ys → x ≡ y
same_heads x y xs ys e = cc

same_tails : (x y : ℕ) (xs ys : List ℕ) → x ∷ xs ≡ y ∷ ys → xs ≡ ys
same_tails x y xs ys e = cc

pub not_empty : (xs ys : List ℕ) (y : ℕ) → xs ++ (y ∷ ys) ≢ []
not_empty [] ys y e = absurd (cc)
not_empty (x ∷ xs) ys y e = absurd (cc)

-- where a whole record stands, no gate stands that isn't open
pub not_shut : (left body rest : List ℕ) → BeginsWhole left body rest → BeginsShut left → ⊥
not_shut left body rest whole shut = shut.closed (sym (same_heads 1 shut.gate (counted body ++ rest) shut.rest (sym whole.split ∙ shut.split)))

module _ (one_form : (v w : ℕ) (x y : List ℕ) → v < 2 ^ 32 → w < 2 ^ 32 → to_be_bytes w32 v ++ x ≡ to_be_bytes w32 w ++ y → (v ≡ w) × (x ≡ y)) where
  -- what follows two bodies that spell the same bytes is the same, and so are the bodies
  pub same_entries : (x y left right : List ℕ) → IsShort x → IsShort y → counted x ++ left ≡ counted y ++ right → (x ≡ y) × (left ≡ right)
  same_entries x y left right short other e =
      let numbers = one_form (length x) (length y) (x ++ left) (y ++ right) short other (sym (append_assoc (to_be_bytes w32 (length x)) x left) ∙ e ∙ append_assoc (to_be_bytes w32 (length y)) y right) in (
        sym (take_at x left (length y) numbers.0) ∙ ap (take (length y)) numbers.1 ∙ take_at y right (length y) refl,
        sym (drop_at x left (length y) numbers.0) ∙ ap (drop (length y)) numbers.1 ∙ drop_at y right (length y) refl,
      )

  pub same_bodies : (left x right y other : List ℕ) → BeginsWhole left x right → BeginsWhole left y other → x ≡ y
  same_bodies left x right y other one two = (same_entries x y right other one.short two.short (same_tails 1 1 (counted x ++ right) (counted y ++ other) (sym one.split ∙ two.split))).0

  -- entries up to a gate that isn't open
  same_histories : (a b : List (List ℕ)) (gate other : ℕ) (rest more : List ℕ) → All IsShort a → All IsShort b → gate ≢ 1 → other ≢ 1 → opened a ++ (gate ∷ rest) ≡ opened b ++ (other ∷ more) → a ≡ b
  same_histories [] [] gate other rest more short_a short_b shut closed e = refl
  same_histories [] (y ∷ b) gate other rest more short_a short_b shut closed e = absurd (shut (same_heads gate 1 rest ((counted y ++ opened b) ++ (other ∷ more)) e))
  same_histories (x ∷ a) [] gate other rest more short_a short_b shut closed e = absurd (closed (sym (same_heads 1 other ((counted x ++ opened a) ++ (gate ∷ rest)) more e)))
  same_histories (x ∷ a) (y ∷ b) gate other rest more short_a short_b shut closed e =
      let behind = same_tails 1 1 ((counted x ++ opened a) ++ (gate ∷ rest)) ((counted y ++ opened b) ++ (other ∷ more)) e in
      let parts = same_entries x y (opened a ++ (gate ∷ rest)) (opened b ++ (other ∷ more)) (All-head IsShort x a short_a) (All-head IsShort y b short_b) (sym (append_assoc (counted x) (opened a) (gate ∷ rest)) ∙ behind ∙ append_assoc (counted y) (opened b) (other ∷ more)) in
      let others = same_histories a b gate other rest more (All-tail IsShort x a short_a) (All-tail IsShort y b short_b) shut closed parts.1 in
      λ i. parts.0 i ∷ others i

  -- behind one header
  behind_header : (header left right : List ℕ) → header ++ left ≡ header ++ right → left ≡ right
  behind_header header left right e = sym (drop_at header left (length header) refl) ∙ ap (drop (length header)) e ∙ drop_at header right (length header) refl

  pub reads-once : (header file : List ℕ) (a b : List (List ℕ)) → All IsShort a → All IsShort b → ReadsAs header a file → ReadsAs header b file → a ≡ b
  reads-once header file a b short_a short_b one other =
      let left : file ≡ header ++ (opened a ++ (one.gate ∷ one.rest)) = one.split ∙ append_assoc header (opened a) (one.gate ∷ one.rest) in
      let right : file ≡ header ++ (opened b ++ (other.gate ∷ other.rest)) = other.split ∙ append_assoc header (opened b) (other.gate ∷ other.rest) in
      same_histories a b one.gate other.gate one.rest other.rest short_a short_b one.closed other.closed (behind_header header (opened a ++ (one.gate ∷ one.rest)) (opened b ++ (other.gate ∷ other.rest)) (sym left ∙ right))
