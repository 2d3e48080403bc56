-- Elements of lists and of filtered lists.
use Rattle.std.proofs.Common.{◌≡◌, ◌≢◌, ◌↔◌, ◌⊎◌, ℕ, zero, suc, Bool, true, false, not, nat_eq, List, [], ◌∷◌, filter, length, get_or, All, Contains, inl, inr, sym, ap, subst, refl, ◌∙◌, arith, cond}
use Rattle.std.proofs.lemmas.Bool.Decides.{nat_tests}
use Rattle.std.proofs.lemmas.List.Elements.{All-contains, All-contains_itself, All-filter, filter_passes}
use Rattle.rail_types.specs.declared.entries.Owner.{Owner}
use Rattle.rail_types.specs.declared.entries.Owner.TheVariants.{Base, Entry}
use Rattle.rail_types.specs.Occupation.{HeldClaim}
use Rattle.occupation_book.specs.Held.{claims_of_others, is_same_owner}

-- what each element has all have
pub all_by : {X : Type 0} (P : X → Type 0) (xs : List X) → ((x : X) → Contains xs x → P x) → All P xs
all_by P xs each k d within = each (get_or xs k d) (All-contains_itself xs k d within)

pub contains_head : {X : Type 0} (x : X) (xs : List X) → Contains (x ∷ xs) x
contains_head x xs = (0, omega arith, refl)

pub contains_tail : {X : Type 0} (y x : X) (xs : List X) → Contains xs x → Contains (y ∷ xs) x
contains_tail y x xs (k, within, here) = (suc k, omega arith, here)

pub contains_cases : {X : Type 0} (y x : X) (xs : List X) → Contains (y ∷ xs) x → (x ≡ y) ⊎ Contains xs x
contains_cases y x xs (zero, within, here) = inl (sym here)
contains_cases y x xs (suc k, within, here) = inr (k, omega arith, here)

pub no_element : {X : Type 0} (x : X) → Contains [] x → ⊥
no_element x (k, within, here) = absurd (omega arith)

-- a list of one element is its first
pub only_one : {X : Type 0} (xs : List X) (other : X) → length xs ≡ 1 → xs ≡ get_or xs 0 other ∷ []
only_one [] other one = absurd (omega (arith, one))
only_one (x ∷ []) other one = refl
only_one (x ∷ y ∷ xs) other one = absurd (omega (arith, one))

module _ {X : Type 0} (p : X → Bool) where
  pub filter_from : (xs : List X) (x : X) → Contains (filter p xs) x → Contains xs x × (p x ≡ true)
  filter_from xs x contains = (All-contains (Contains xs) (filter p xs) x (All-filter p (Contains xs) xs (All-contains_itself xs)) contains, All-contains (λ y. p y ≡ true) (filter p xs) x (filter_passes p xs) contains)

  pub filter_to : (xs : List X) (x : X) → Contains xs x → p x ≡ true → Contains (filter p xs) x
  filter_to [] x contains passes = contains
  filter_to (y ∷ xs) x contains passes = go (p y) refl (contains_cases y x xs contains) (λ other. filter_to xs x other passes)
    where
      go : (b : Bool) → p y ≡ b → (x ≡ y) ⊎ Contains xs x → (Contains xs x → Contains (filter p xs) x) → Contains (cond b (y ∷ filter p xs) (filter p xs)) x
      go true is (inl same) rest = subst (λ it. Contains (y ∷ filter p xs) it) (sym same) (contains_head y (filter p xs))
      go true is (inr other) rest = contains_tail y x (filter p xs) (rest other)
      go false is (inl same) rest = absurd (let wrong : true ≡ false = sym passes ∙ ap p same ∙ is in cc)
      go false is (inr other) rest = rest other

same_number : (a b : ℕ) → nat_eq a b ≡ true → a ≡ b
same_number a b test = grind (arith, nat_tests)

own_number : (a : ℕ) → nat_eq a a ≡ true
own_number a = grind (arith, nat_tests)

same_owner : (a b : Owner) → is_same_owner a b ≡ true → a ≡ b
same_owner (Base a) (Base b) test = ap Base (same_number a b test)
same_owner (Entry a) (Entry b) test = ap Entry (same_number a b test)
same_owner (Base a) (Entry b) test = cc
same_owner (Entry a) (Base b) test = cc

is_own : (a : Owner) → is_same_owner a a ≡ true
is_own (Base a) = own_number a
is_own (Entry a) = own_number a

not_same : (a b : Owner) → a ≢ b → not (is_same_owner a b) ≡ true
not_same a b apart = go (is_same_owner a b) refl
  where
    go : (test : Bool) → is_same_owner a b ≡ test → not test ≡ true
    go true is = absurd (apart (same_owner a b is))
    go false is = refl

-- the claims that others hold
pub of_others : (owner : Owner) (held : List HeldClaim) (one : HeldClaim) → Contains (claims_of_others owner held) one ↔ (Contains held one × (one.1 ≢ owner))
of_others owner held one = (
  (λ contains.
      let found = filter_from (λ (it : HeldClaim). not (is_same_owner it.1 owner)) held one contains in
      (found.0, λ same. absurd (let own : not (is_same_owner owner owner) ≡ true = subst (λ o. not (is_same_owner o owner) ≡ true) same found.1 in let wrong : false ≡ true = rw (is_own owner) at own in cc))),
  (λ both. filter_to (λ (it : HeldClaim). not (is_same_owner it.1 owner)) held one both.0 (not_same one.1 owner both.1)),
)
