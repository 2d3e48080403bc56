-- Pieces written one behind the other.
use Rattle.std.proofs.Common.{◌≡◌, ℕ, ◌+◌, List, [], ◌++◌, length, take, drop, refl, sym, ◌∙◌, ap, arith, length-append, length-drop}
use Rattle.std.proofs.lemmas.List.{take_at, drop_at, drop-drop, append-nil, drop_all}

-- a piece behind what was written is written behind it
pub over : (bytes new front rest piece : List ℕ) (at : ℕ) → new ≡ take at bytes ++ piece ++ drop (at + length piece) bytes → bytes ≡ front ++ rest → length front ≡ at → new ≡ (front ++ piece) ++ drop (length piece) rest
over bytes new front rest piece at is split size =
    let begins : take at bytes ≡ front = ap (take at) split ∙ take_at front rest at size in
    let ends : drop (at + length piece) bytes ≡ drop (length piece) rest = sym (drop-drop (length piece) at bytes) ∙ ap (λ (l : List ℕ). drop (length piece) (drop at l)) split ∙ ap (drop (length piece)) (drop_at front rest at size) in
    is ∙ (λ i. (begins i ++ piece) ++ ends i)

-- four pieces that fill the bytes
pub filled : (zeros first second third bytes letters version network base : List ℕ) → length zeros ≡ 76 → length letters ≡ 8 → length version ≡ 4 → length network ≡ 32 → length base ≡ 32
    → first ≡ take 0 zeros ++ letters ++ drop (0 + length letters) zeros
    → second ≡ take 8 first ++ version ++ drop (8 + length version) first
    → third ≡ take 12 second ++ network ++ drop (12 + length network) second
    → bytes ≡ take 44 third ++ base ++ drop (44 + length base) third
    → bytes ≡ ((letters ++ version) ++ network) ++ base
filled zeros first second third bytes letters version network base size l v n b is-1 is-2 is-3 is-4 =
    let one = over zeros first [] zeros letters 0 is-1 refl refl in
    let two = over first second letters (drop (length letters) zeros) version 8 is-2 one l in
    let size-2 : length (letters ++ version) ≡ 12 = omega (arith, length-append letters version) in
    let three = over second third (letters ++ version) (drop (length version) (drop (length letters) zeros)) network 12 is-3 two size-2 in
    let size-3 : length ((letters ++ version) ++ network) ≡ 44 = omega (arith, length-append (letters ++ version) network) in
    let last = drop (length network) (drop (length version) (drop (length letters) zeros)) in
    let four = over third bytes ((letters ++ version) ++ network) last base 44 is-4 three size-3 in
    let rest : drop (length base) last ≡ [] = drop_all (length base) last (omega (arith, length-drop (length network) (drop (length version) (drop (length letters) zeros)), length-drop (length version) (drop (length letters) zeros), length-drop (length letters) zeros)) in
    four ∙ ap (λ (l : List ℕ). (((letters ++ version) ++ network) ++ base) ++ l) rest ∙ append-nil (((letters ++ version) ++ network) ++ base)
