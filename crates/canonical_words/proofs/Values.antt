-- Values that come back from what `clap` found.
use Rattle.std.proofs.Common.{◌≡◌, ◌∙◌, ◌<◌, ℕ, zero, suc, List, [], ◌∷◌, Option, Some, true, arith, length, get_or, map, ap, is_some}
use Rattle.command_line.specs.Spelling.{Setting}
use Rattle.clap.specs.Words.{Row, first_of}

-- two functions that give the same list give the same at each of its places
same_at : {X Y : Type 0} (f g : X → Y) (xs : List X) (i : ℕ) (x : X) → i < length xs → x ≡ get_or xs i x → map f xs ≡ map g xs → f x ≡ g x
same_at f g [] i x below at same = absurd (omega arith)
same_at f g (y ∷ ys) zero x below at same = cc
same_at f g (y ∷ ys) (suc i) x below at same =
    let rest : map f ys ≡ map g ys = cc in
    same_at f g ys i x (omega arith) at rest

-- what is found under the option of a setting, where each setting is found
pub value_at : (rows : List Row) (settings : List Setting) (i : ℕ) (s : Setting) (option : List ℕ) → i < length settings → s ≡ get_or settings i s
    → map (λ t. first_of t.option rows) settings ≡ map (λ t. Some t.value) settings → option ≡ s.option → first_of option rows ≡ Some s.value
value_at rows settings i s option below at found is =
    ap (λ o. first_of o rows) is ∙ same_at (λ (t : Setting). first_of t.option rows) (λ (t : Setting). Some t.value) settings i s below at found

-- a value that is known is there
pub some_is_some : (found : Option (List ℕ)) (value : List ℕ) → found ≡ Some value → is_some found ≡ true
some_is_some found value is = ap is_some is

-- two values that are known of one option are one
pub same_value : (found : Option (List ℕ)) (a b : List ℕ) → found ≡ Some a → found ≡ Some b → a ≡ b
same_value found a b is also = cc
