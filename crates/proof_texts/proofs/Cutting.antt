-- Texts cut into lines, and lines into fields.
use Rattle.std.proofs.Common.{◌≡◌, ◌∙◌, ap, refl, subst, ℕ, ◌+◌, ◌≤◌, suc, List, [], ◌∷◌, ◌++◌, length, Bool, true, false, Some, None, nat_eq, option_map, if◌then◌else◌, arith, length-append}
use Rattle.std.specs.List.{join_with_byte}
use Rattle.std.proofs.lemmas.Bool.Decides.{nat_tests}
use Rattle.std.proofs.lemmas.List.{append-nil}
use Rattle.std.proofs.lemmas.List.Elements.{All-append, All-cons, All-head, All-nil, All-tail}
use Rattle.std.proofs.lemmas.List.Splits.{join_with_byte-slice_split, slice_split_at, slice_split_none}
use Rattle.client_lines.specs.Cuts.{fields_of, IsCutAt, Lacks}
use Rattle.client_lines.specs.Fields.{line_of, spaced}
use Rattle.proof_texts.specs.Lines.{Beginning, line_at, with_byte}
use Rattle.proof_texts.proofs.Visible.{AllVisible, AreVisible, visible_lacks}

abbrev IsOther : ℕ → Type 0
IsOther other = nat_eq other 10 ≡ false

-- ---- lines

pub line_at-ended : (line rest : List ℕ) → Lacks 10 line → line_at (line ++ 10 ∷ rest) ≡ Some (line, rest)
unfolding line_at
line_at-ended [] rest lacks = refl
line_at-ended (byte ∷ line) rest lacks =
    let other : nat_eq byte 10 ≡ false = All-head IsOther byte line lacks in
    let on = line_at-ended line rest (All-tail IsOther byte line lacks) in
    rw (other, on) refl

pub line_at-none : (text : List ℕ) → Lacks 10 text → line_at text ≡ None
unfolding line_at
line_at-none [] lacks = refl
line_at-none (byte ∷ text) lacks =
    let other : nat_eq byte 10 ≡ false = All-head IsOther byte text lacks in
    let on = line_at-none text (All-tail IsOther byte text lacks) in
    rw (other, on) refl

-- the first line, and the text behind its end
pub record IsLineOf (text line rest : List ℕ) : Type 0 where
  pub parts : text ≡ line ++ 10 ∷ rest
  pub one : Lacks 10 line

found_is : (p q : List ℕ × List ℕ) → ◌≡◌ {A = Beginning (List ℕ)} (Some p) (Some q) → p ≡ q
found_is p q e = cc

abbrev empty_line : List ℕ → Beginning (List ℕ)
empty_line bytes = Some ([], bytes)

line_longer : (byte : ℕ) (bytes line rest : List ℕ) (found : Beginning (List ℕ)) → nat_eq byte 10 ≡ false → ((l r : List ℕ) → found ≡ Some (l, r) → IsLineOf bytes l r)
    → option_map (with_byte byte) found ≡ Some (line, rest) → IsLineOf (byte ∷ bytes) line rest
line_longer byte bytes line rest None other on is = absurd cc
line_longer byte bytes line rest (Some p) other on is =
    let it = on p.0 p.1 refl in
    subst (λ (q : List ℕ × List ℕ). IsLineOf (byte ∷ bytes) q.0 q.1) (found_is (byte ∷ p.0, p.1) (line, rest) is)
    (record { parts = ap (λ (bs : List ℕ). byte ∷ bs) it.parts; one = All-cons IsOther byte p.0 other it.one })

line_by : (byte : ℕ) (bytes line rest : List ℕ) (is_end : Bool) → nat_eq byte 10 ≡ is_end → ((l r : List ℕ) → line_at bytes ≡ Some (l, r) → IsLineOf bytes l r)
    → (if is_end then empty_line bytes else option_map (with_byte byte) (line_at bytes)) ≡ Some (line, rest) → IsLineOf (byte ∷ bytes) line rest
line_by byte bytes line rest true ends on is =
    let here : byte ≡ 10 = grind (arith, nat_tests, ends) in
    subst (λ (q : List ℕ × List ℕ). IsLineOf (byte ∷ bytes) q.0 q.1) (found_is ([], bytes) (line, rest) is)
    (record { parts = ap (λ (b : ℕ). b ∷ bytes) here; one = All-nil IsOther })
line_by byte bytes line rest false other on is = line_longer byte bytes line rest (line_at bytes) other on is

pub line_at-parts : (text line rest : List ℕ) → line_at text ≡ Some (line, rest) → IsLineOf text line rest
unfolding line_at
line_at-parts [] line rest is = absurd cc
line_at-parts (byte ∷ bytes) line rest is = line_by byte bytes line rest (nat_eq byte 10) refl (line_at-parts bytes) is

pub line_at-cut : (text line rest : List ℕ) → IsCutAt 10 text line rest → line_at text ≡ Some (line, rest)
line_at-cut text line rest cut = ap line_at cut.parts ∙ line_at-ended line rest cut.first

pub cut_short : (text line rest : List ℕ) → IsCutAt 10 text line rest → (length line ≤ length text) × (length rest ≤ length text)
cut_short text line rest cut =
    let all : length text ≡ length line + suc (length rest) = ap length cut.parts ∙ length-append line (10 ∷ rest) in
    (omega (arith, all), omega (arith, all))

-- ---- fields

joined : (fields : List (List ℕ)) → line_of fields ≡ join_with_byte 32 fields
unfolding spaced
joined [] = refl
joined (field ∷ []) = append-nil field
joined (field ∷ (next ∷ fields)) = ap (λ (rest : List ℕ). field ++ 32 ∷ rest) (joined (next ∷ fields))

-- a line is its fields with a space between each two
pub line_of-fields_of : (line : List ℕ) → line_of (fields_of line) ≡ line
line_of-fields_of line = joined (fields_of line) ∙ join_with_byte-slice_split 32 line

pub fields_of-spaced : (field : List ℕ) (fields : List (List ℕ)) → AreVisible field → AllVisible fields → fields_of (field ++ spaced fields) ≡ field ∷ fields
unfolding spaced
fields_of-spaced field [] seen all = ap fields_of (append-nil field) ∙ slice_split_none (λ byte. nat_eq byte 32) field (visible_lacks 32 field (omega arith) seen)
fields_of-spaced field (next ∷ fields) seen all =
    slice_split_at (λ byte. nat_eq byte 32) field 32 (next ++ spaced fields) (visible_lacks 32 field (omega arith) seen) refl
    ∙ ap (λ (others : List (List ℕ)). field ∷ others) (fields_of-spaced next fields all.0 all.1)

spaced_whole : (fields : List (List ℕ)) → AllVisible fields → Lacks 10 (spaced fields)
unfolding spaced
spaced_whole [] all = All-nil IsOther
spaced_whole (field ∷ fields) all = All-cons IsOther 32 (field ++ spaced fields) refl (All-append IsOther field (spaced fields) (visible_lacks 10 field (omega arith) all.0) (spaced_whole fields all.1))

-- visible fields make one line
pub line_whole : (field : List ℕ) (fields : List (List ℕ)) → AreVisible field → AllVisible fields → Lacks 10 (field ++ spaced fields)
line_whole field fields seen all = All-append IsOther field (spaced fields) (visible_lacks 10 field (omega arith) seen) (spaced_whole fields all)
