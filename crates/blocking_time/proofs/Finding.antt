-- Searches through lists, and through rows of lists.
use Rattle.std.proofs.Common.{◌≡◌, ◌∙◌, sym, ap, refl, ℕ, zero, suc, ◌+◌, ◌-◌, ◌<◌, ◌≤◌, Bool, true, false, cond, List, [], ◌∷◌, ◌++◌, length, get_or, map, find, flat_map, Option, Some, None, arith}
use Rattle.std.specs.List.{range_with_len}

-- where the one list has none, the next is searched
pub find_on : {X : Type 0} (p : X → Bool) (xs ys : List X) → find p xs ≡ None → find p (xs ++ ys) ≡ find p ys
find_on p [] ys none = refl
find_on p (x ∷ xs) ys none = go (p x) refl none (find_on p xs ys)
  where
    go : (b : Bool) → p x ≡ b → cond b (Some x) (find p xs) ≡ None → (find p xs ≡ None → find p (xs ++ ys) ≡ find p ys) → cond (p x) (Some x) (find p (xs ++ ys)) ≡ find p ys
    go true is none again = cc
    go false is none again = rw is (again none)

pub find_here : {X : Type 0} (p : X → Bool) (xs ys : List X) (x : X) → find p xs ≡ Some x → find p (xs ++ ys) ≡ Some x
find_here p [] ys x some = cc
find_here p (y ∷ xs) ys x some = go (p y) refl some (find_here p xs ys x)
  where
    go : (b : Bool) → p y ≡ b → cond b (Some y) (find p xs) ≡ Some x → (find p xs ≡ Some x → find p (xs ++ ys) ≡ Some x) → cond (p y) (Some y) (find p (xs ++ ys)) ≡ Some x
    go true is some again = rw is some
    go false is some again = rw is (again some)

-- among images, those are found whose source is
pub find_none : {X Y : Type 0} (p : Y → Bool) (g : X → Y) (xs : List X) → find (λ x. p (g x)) xs ≡ None → find p (map g xs) ≡ None
find_none p g [] none = refl
find_none p g (x ∷ xs) none = go (p (g x)) refl none (find_none p g xs)
  where
    go : (b : Bool) → p (g x) ≡ b → cond b (Some x) (find (λ x. p (g x)) xs) ≡ None → (find (λ x. p (g x)) xs ≡ None → find p (map g xs) ≡ None) → cond (p (g x)) (Some (g x)) (find p (map g xs)) ≡ None
    go true is none again = cc
    go false is none again = rw is (again none)

pub find_some : {X Y : Type 0} (p : Y → Bool) (g : X → Y) (xs : List X) (x : X) → find (λ x. p (g x)) xs ≡ Some x → find p (map g xs) ≡ Some (g x)
find_some p g [] x some = cc
find_some p g (y ∷ xs) x some = go (p (g y)) refl some (find_some p g xs x)
  where
    go : (b : Bool) → p (g y) ≡ b → cond b (Some y) (find (λ x. p (g x)) xs) ≡ Some x → (find (λ x. p (g x)) xs ≡ Some x → find p (map g xs) ≡ Some (g x)) → cond (p (g y)) (Some (g y)) (find p (map g xs)) ≡ Some (g x)
    go true is some again = rw is (let same : y ≡ x = cc in ap (λ one. Some (g one)) same)
    go false is some again = rw is (again some)

-- the numbers from one on
pub range_on : (k n : ℕ) → k < n → range_with_len k (n - k) ≡ k ∷ range_with_len (k + 1) (n - (k + 1))
range_on k n within = let more : n - k ≡ suc (n - (k + 1)) = omega arith in rw more refl

pub range_end : (k n : ℕ) → n ≤ k → range_with_len k (n - k) ≡ []
range_end k n past = let none : n - k ≡ 0 = omega arith in rw none refl

-- what was found is the first that passes
pub record FirstAt {X : Type 0} (p : X → Bool) (xs : List X) (x : X) : Type 0 where
  pub place : ℕ
  pub within : place < length xs
  pub here : (d : X) → get_or xs place d ≡ x
  pub passes : p x ≡ true
  pub before : (j : ℕ) (d : X) → j < place → p (get_or xs j d) ≡ false

later_at : {X : Type 0} (p : X → Bool) (y : X) (xs : List X) (x : X) → p y ≡ false → FirstAt p xs x → FirstAt p (y ∷ xs) x
later_at {X = X} p y xs x fails later = record {
  place = suc later.place;
  within = omega (arith, later.within);
  here = λ d. later.here d;
  passes = later.passes;
  before = early;
}
  where
    early : (j : ℕ) (d : X) → j < suc later.place → p (get_or (y ∷ xs) j d) ≡ false
    early zero d less = fails
    early (suc j) d less = later.before j d (omega arith)

pub find_first : {X : Type 0} (p : X → Bool) (xs : List X) (x : X) → find p xs ≡ Some x → FirstAt p xs x
find_first p [] x some = cc
find_first p (y ∷ xs) x some = go (p y) refl some (find_first p xs x)
  where
    go : (b : Bool) → p y ≡ b → cond b (Some y) (find p xs) ≡ Some x → (find p xs ≡ Some x → FirstAt p xs x) → FirstAt p (y ∷ xs) x
    go true is some again = let same : y ≡ x = cc in record {
      place = 0;
      within = omega arith;
      here = λ d. same;
      passes = rw (sym same) is;
      before = λ j d less. absurd (omega arith);
    }
    go false is some again = later_at p y xs x is (again some)

pub find_fails : {X : Type 0} (p : X → Bool) (xs : List X) → find p xs ≡ None → (j : ℕ) (d : X) → j < length xs → p (get_or xs j d) ≡ false
find_fails p [] none j d within = absurd (omega arith)
find_fails p (y ∷ xs) none j d within = go (p y) refl none j within (λ none i. find_fails p xs none i d)
  where
    go : (b : Bool) → p y ≡ b → cond b (Some y) (find p xs) ≡ None → (j : ℕ) → j < length (y ∷ xs) → (find p xs ≡ None → (i : ℕ) → i < length xs → p (get_or xs i d) ≡ false) → p (get_or (y ∷ xs) j d) ≡ false
    go true is none j within again = cc
    go false is none zero within again = is
    go false is none (suc j) within again = again none j (omega arith)

-- a search through rows, each of the same length
module _ {X Y Z : Type 0} (p : Z → Bool) (g : X → Y → Z) (ys : List Y) where
  abbrev pub rows : List X → List Z
  rows xs = flat_map (λ x. map (g x) ys) xs

  pub record FirstIn (xs : List X) (z : Z) : Type 0 where
    pub x : X
    pub y : Y
    pub row : ℕ
    pub column : ℕ
    pub in_rows : row < length xs
    pub in_columns : column < length ys
    pub of_row : (d : X) → get_or xs row d ≡ x
    pub of_column : (d : Y) → get_or ys column d ≡ y
    pub here : z ≡ g x y
    pub passes : p z ≡ true
    pub rows_before : (i j : ℕ) (dx : X) (dy : Y) → i < row → j < length ys → p (g (get_or xs i dx) (get_or ys j dy)) ≡ false
    pub columns_before : (j : ℕ) (dy : Y) → j < column → p (g x (get_or ys j dy)) ≡ false

  pub rows_none : (xs : List X) → find p (rows xs) ≡ None → (i j : ℕ) (dx : X) (dy : Y) → i < length xs → j < length ys → p (g (get_or xs i dx) (get_or ys j dy)) ≡ false
  rows_none [] none i j dx dy in_rows in_columns = absurd (omega arith)
  rows_none (x ∷ xs) none i j dx dy in_rows in_columns = go (find (λ y. p (g x y)) ys) refl i in_rows (λ none i inside. rows_none xs none i j dx dy inside in_columns)
    where
      go : (found : Option Y) → find (λ y. p (g x y)) ys ≡ found → (i : ℕ) → i < length (x ∷ xs)
          → (find p (rows xs) ≡ None → (i : ℕ) → i < length xs → p (g (get_or xs i dx) (get_or ys j dy)) ≡ false) → p (g (get_or (x ∷ xs) i dx) (get_or ys j dy)) ≡ false
      go (Some y) is i in_rows again = let told = find_here p (map (g x) ys) (rows xs) (g x y) (find_some p (g x) ys y is) in cc
      go None is zero in_rows again = find_fails (λ y. p (g x y)) ys is j dy in_columns
      go None is (suc i) in_rows again = again (sym (find_on p (map (g x) ys) (rows xs) (find_none p (g x) ys is)) ∙ none) i (omega arith)

  later_in : (x : X) (xs : List X) (z : Z) → find (λ y. p (g x y)) ys ≡ None → FirstIn xs z → FirstIn (x ∷ xs) z
  later_in x xs z is later = record {
    x = later.x;
    y = later.y;
    row = suc later.row;
    column = later.column;
    in_rows = omega (arith, later.in_rows);
    in_columns = later.in_columns;
    of_row = λ d. later.of_row d;
    of_column = later.of_column;
    here = later.here;
    passes = later.passes;
    rows_before = early;
    columns_before = later.columns_before;
  }
    where
      early : (i j : ℕ) (dx : X) (dy : Y) → i < suc later.row → j < length ys → p (g (get_or (x ∷ xs) i dx) (get_or ys j dy)) ≡ false
      early zero j dx dy less inside = find_fails (λ y. p (g x y)) ys is j dy inside
      early (suc i) j dx dy less inside = later.rows_before i j dx dy (omega arith) inside

  pub rows_first : (xs : List X) (z : Z) → find p (rows xs) ≡ Some z → FirstIn xs z
  rows_first [] z some = cc
  rows_first (x ∷ xs) z some = go (find (λ y. p (g x y)) ys) refl (rows_first xs z)
    where
      go : (found : Option Y) → find (λ y. p (g x y)) ys ≡ found → (find p (rows xs) ≡ Some z → FirstIn xs z) → FirstIn (x ∷ xs) z
      go (Some y) is again =
          let told = find_here p (map (g x) ys) (rows xs) (g x y) (find_some p (g x) ys y is) in
          let same : z ≡ g x y = cc in
          let first = find_first (λ y. p (g x y)) ys y is in
          record {
            x = x;
            y = y;
            row = 0;
            column = first.place;
            in_rows = omega arith;
            in_columns = first.within;
            of_row = λ d. refl;
            of_column = first.here;
            here = same;
            passes = rw same first.passes;
            rows_before = λ i j dx dy less inside. absurd (omega arith);
            columns_before = first.before;
          }
      go None is again = later_in x xs z is (again (sym (find_on p (map (g x) ys) (rows xs) (find_none p (g x) ys is)) ∙ some))
