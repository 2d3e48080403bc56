-- The values under an option, along a list.
use Rattle.std.proofs.Common.{◌≡◌, ◌∙◌, ℕ, ◌<◌, ◌+◌, Bool, true, false, Bor, map, List, [], ◌∷◌, ◌++◌, length, get_or, take, refl, sym, ap, if◌then◌else◌}
use Rattle.std.proofs.lemmas.List.{append-nil, take_more}
use Rattle.std.specs.List.{list_any}
use Rattle.std.specs.Str.{bytes_eq}
use Rattle.command_line.specs.Spelling.{Setting, values_under}

under_if : (is : Bool) (value : List ℕ) (before behind : List (List ℕ)) → (if is then value ∷ (before ++ behind) else (before ++ behind)) ≡ (if is then value ∷ before else before) ++ behind
under_if true value before behind = refl
under_if false value before behind = refl

pub values_under-append : (option : List ℕ) (xs ys : List Setting) → values_under option (xs ++ ys) ≡ values_under option xs ++ values_under option ys
values_under-append option [] ys = refl
values_under-append option (x ∷ xs) ys =
    rw (values_under-append option xs ys) (under_if (bytes_eq x.option option) x.value (values_under option xs) (values_under option ys))

-- a test of an image is a test of what it is made of
pub any_map : (test : List ℕ → Bool) (texts : List (Bor (List ℕ))) → list_any (λ (text : Bor (List ℕ)). test text.now) texts ≡ list_any test (map (λ (text : Bor (List ℕ)). text.now) texts)
any_map test [] = refl
any_map test (text ∷ texts) = rw (any_map test texts) refl

-- the values under an option, one element on
under_more : (option : List ℕ) (settings : List Setting) (i : ℕ) (x : Setting) (is : Bool) → i < length settings → x ≡ get_or settings i x → bytes_eq x.option option ≡ is
    → values_under option (take (i + 1) settings) ≡ values_under option (take i settings) ++ (if is then x.value ∷ [] else [])
under_more option settings i x is within at tested =
    ap (values_under option) (take_more settings i x within ∙ ap (λ (y : Setting). take i settings ++ y ∷ []) (sym at))
    ∙ (values_under-append option (take i settings) (x ∷ []) ∙ ap (λ (b : Bool). values_under option (take i settings) ++ (if b then x.value ∷ [] else [])) tested)

pub under_hit : (option : List ℕ) (settings : List Setting) (i : ℕ) (x : Setting) → i < length settings → x ≡ get_or settings i x → bytes_eq x.option option ≡ true
    → values_under option (take (i + 1) settings) ≡ values_under option (take i settings) ++ x.value ∷ []
under_hit option settings i x within at hit = under_more option settings i x true within at hit

pub under_miss : (option : List ℕ) (settings : List Setting) (i : ℕ) (x : Setting) → i < length settings → x ≡ get_or settings i x → bytes_eq x.option option ≡ false
    → values_under option (take (i + 1) settings) ≡ values_under option (take i settings)
under_miss option settings i x within at miss = under_more option settings i x false within at miss ∙ append-nil (values_under option (take i settings))
