-- An entry is found by its key.
use Rattle.std.proofs.Common.{◌≡◌, ℕ, suc, ◌+◌, ◌++◌, ◌∷◌, [], Bool, true, false, not, cond, List, length, take, drop, replicate, map, nat_lt, inl, inr, position, Some, None, nat_eq, sym, ap, refl, arith, ◌∙◌}
use Rattle.std.specs.List.{prefix_len, position_or_len, list_any}
use Rattle.std.specs.Cmp.Lexicographic.{bytes_decides}
use Rattle.std.specs.Str.{bytes_eq}
use Rattle.std.proofs.lemmas.Bool.Decides.{nat_tests, Decides-and, Decides-like, Decides-eqb, same_from_decides}
use Rattle.std.proofs.lemmas.List.{take_at, length-map, map-append}
use Rattle.std.proofs.lemmas.Bool.{cases_Bool}
use Rattle.indexmap.specs.IndexSet.{insert_key}
use Rattle.rail_types.specs.declared.entries.Entry.{Entry}
use Rattle.grant_log.specs.declared.keys.EntryKey.{EntryKey}
use Rattle.grant_log.specs.contracts.keys.EntryKeyPartialEq.TheImpl.{eq-value}
use Rattle.grant_log.specs.Verdict.{bears, place_of}
use Rattle.grant_log.specs.Inside.{key_for, key_of}

-- whether two keys are equal, as the table of keys asks
abbrev pub same_key : EntryKey → EntryKey → Bool
same_key = eq-value.it

-- a name with zeros behind it, of a length that is known, is that name
unpadded : (a b zeros others : List ℕ) → length a ≡ length b → a ++ zeros ≡ b ++ others → a ≡ b
unpadded a b zeros others long same = sym (take_at a zeros (length a) refl) ∙ (ap (take (length a)) same ∙ take_at b others (length a) (sym long))

-- two keys are equal exactly where the name and the number are
pub same_key_bears : (owner : List ℕ) (number : ℕ) (entry : Entry) → same_key (key_for owner number) (key_of entry) ≡ bears owner number entry
same_key_bears owner number entry =
    let pad = λ (name : List ℕ). name ++ drop (length name) (replicate 32 0) in
    let keys = Decides-and (bytes_eq (pad owner) (pad entry.owner)) _ (bytes_decides (pad owner) (pad entry.owner)) (Decides-and (nat_eq (length owner) (length entry.owner)) (nat_eq number entry.number) (Decides-eqb (length owner) (length entry.owner)) (Decides-eqb number entry.number)) in
    let names = Decides-and (bytes_eq entry.owner owner) (nat_eq entry.number number) (bytes_decides entry.owner owner) (Decides-eqb entry.number number) in
    same_from_decides _ _ (Decides-like _
    (λ parts. (sym (unpadded owner entry.owner _ _ parts.1.0 parts.0), sym parts.1.1))
    (λ parts. (ap pad (sym parts.0), (ap length (sym parts.0), sym parts.1)))
    keys) names

-- a test of keys and a test of entries that agree
module _ {X Y : Type 0} (p : Y → Bool) (q : X → Bool) (f : X → Y) (agree : (x : X) → p (f x) ≡ q x) where
  prefix_map : (xs : List X) → prefix_len (λ y. not (p y)) (map f xs) ≡ prefix_len (λ x. not (q x)) xs
  prefix_map [] = refl
  prefix_map (x ∷ xs) = rw (agree x, prefix_map xs) refl

  pub position_map : (xs : List X) → position p (map f xs) ≡ position q xs
  position_map xs = rw (prefix_map xs, length-map xs f) refl

  any_map : (xs : List X) → list_any p (map f xs) ≡ list_any q xs
  any_map [] = refl
  any_map (x ∷ xs) = rw (agree x, any_map xs) refl

nat_lt_suc : (a b : ℕ) → nat_lt a b ≡ nat_lt (1 + a) (suc b)
nat_lt_suc a b = grind (arith, nat_tests)

-- where no element has a position, none passes
any_is_within : {X : Type 0} (p : X → Bool) (xs : List X) → list_any p xs ≡ nat_lt (position_or_len p xs) (length xs)
any_is_within p [] = refl
any_is_within p (x ∷ xs) = elim (cases_Bool (p x)) [
  | inl passes ↦ let first : nat_lt 0 (suc (length xs)) ≡ true = grind (arith, nat_tests) in rw passes (sym first)
  | inr fails ↦ let shift : nat_lt (position_or_len p xs) (length xs) ≡ nat_lt (1 + position_or_len p xs) (suc (length xs)) = nat_lt_suc (position_or_len p xs) (length xs) in rw fails (any_is_within p xs ∙ shift)
]

not_within : {X : Type 0} (test : Bool) (x : X) → cond test (Some x) None ≡ None → test ≡ false
not_within true x none = let wrong : Some x ≡ None = none in cc
not_within false x none = refl

pub none_passes : {X : Type 0} (p : X → Bool) (xs : List X) → position p xs ≡ None → list_any p xs ≡ false
none_passes p xs none = any_is_within p xs ∙ not_within (nat_lt (position_or_len p xs) (length xs)) (position_or_len p xs) none

module _ (entries : List Entry) (owner : List ℕ) (number : ℕ) where
  -- the place of a key among the keys is the position of its entry
  pub place_by_key : position (same_key (key_for owner number)) (map key_of entries) ≡ place_of entries owner number
  place_by_key = position_map (same_key (key_for owner number)) (bears owner number) key_of (same_key_bears owner number) entries

  -- a key whose number is new is put behind the others
  pub key_is_new : place_of entries owner number ≡ None → insert_key same_key (map key_of entries) (key_for owner number) ≡ map key_of entries ++ key_for owner number ∷ []
  key_is_new none =
      let absent : list_any (same_key (key_for owner number)) (map key_of entries) ≡ false = any_map (same_key (key_for owner number)) (bears owner number) key_of (same_key_bears owner number) entries ∙ none_passes (bears owner number) entries none in
      rw absent refl

-- the keys of all entries but the last
pub keys_front : (whole front : List Entry) (last : Entry) → whole ≡ front ++ last ∷ [] → take (length front) (map key_of whole) ≡ map key_of front
keys_front whole front last parts =
    ap (λ entries. take (length front) (map key_of entries)) parts
    ∙ (ap (take (length front)) (map-append key_of front (last ∷ [])) ∙ take_at (map key_of front) (key_of last ∷ []) (length front) (length-map front key_of))
