-- Where an owner's number stands.
use Rattle.std.proofs.Common.{◌≡◌, ◌≢◌, ℕ, ◌<◌, true, false, Decides, List, length, get_or, slice_get, take, Some, None, nat_eq, bytes_eq, All, sym, subst, arith, ◌∙◌, length-take}
use Rattle.std.specs.Cmp.Lexicographic.{bytes_decides}
use Rattle.std.proofs.lemmas.Bool.Decides.{Decides-and, Decides-eqb}
use Rattle.std.proofs.lemmas.Option.{slice_get-get_or, slice_get_within, get_or_from_slice_get}
use Rattle.std.proofs.lemmas.List.{get_or-take}
use Rattle.std.proofs.lemmas.List.Quantifiers.{position-Some}
use Rattle.rail_types.specs.declared.entries.Entry.{Entry}
use Rattle.grant_log.specs.Meanings.{IsNew, IsNumbered, StandsAt}
use Rattle.grant_log.specs.Verdict.{bears, place_of}
use Rattle.grant_log.proofs.Positions.{position_found, position_none, none_passes, not_true, is_false}

pub bears_is : (owner : List ℕ) (number : ℕ) (other : Entry) → Decides (bears owner number other) (IsNumbered owner number other)
bears_is owner number other = Decides-and (bytes_eq other.owner owner) (nat_eq other.number number) (bytes_decides other.owner owner) (Decides-eqb other.number number)

module _ (entries : List Entry) (entry : Entry) where
  pub new_is : place_of entries entry.owner entry.number ≡ None → IsNew entries entry
  new_is none k other within numbered = not_true _ (none_passes (bears entry.owner entry.number) entries none k other within) ((bears_is entry.owner entry.number (get_or entries k other)).1 numbered)

  pub is_new : IsNew entries entry → place_of entries entry.owner entry.number ≡ None
  is_new all = position_none (bears entry.owner entry.number) entries (λ k other within. is_false _ (λ test. all k other within ((bears_is entry.owner entry.number (get_or entries k other)).0 test)))

  pub stands_is : (at : ℕ) (stands : Entry) → place_of entries entry.owner entry.number ≡ Some at → slice_get entries at ≡ Some stands → StandsAt entries entry at stands
  stands_is at stands place here =
      let facts = position-Some (bears entry.owner entry.number) entries at stands place in
      let within = facts.0 in
      record {
        here = here;
        numbered = (bears_is entry.owner entry.number stands).0 (subst (λ one. bears entry.owner entry.number one ≡ true) (get_or_from_slice_get entries at stands stands here) facts.1);
        first = λ k other less numbered.
            let before : k < at = omega (arith, length-take at entries) in
            not_true _ (facts_at stands place k other before (omega (arith, length-take at entries))) ((bears_is entry.owner entry.number (get_or entries k other)).1 (subst (IsNumbered entry.owner entry.number) (get_or-take at entries k other before) numbered));
      }
    where
      facts_at : (any : Entry) → place_of entries entry.owner entry.number ≡ Some at → (k : ℕ) (other : Entry) → k < at → k < length entries → bears entry.owner entry.number (get_or entries k other) ≡ false
      facts_at any found k other before inside = (position-Some (bears entry.owner entry.number) entries at other found).2 k before

  pub is_standing : (at : ℕ) (stands : Entry) → StandsAt entries entry at stands → place_of entries entry.owner entry.number ≡ Some at
  is_standing at stands standing =
      let within = slice_get_within entries at stands standing.here in
      position_found (bears entry.owner entry.number) entries at stands within
      (λ k less. is_false _ (λ test. standing.first k stands (omega (arith, length-take at entries)) (subst (IsNumbered entry.owner entry.number) (sym (get_or-take at entries k stands less)) ((bears_is entry.owner entry.number (get_or entries k stands)).0 test))))
      ((bears_is entry.owner entry.number (get_or entries at stands)).1 (subst (IsNumbered entry.owner entry.number) (sym (get_or_from_slice_get entries at stands stands standing.here)) standing.numbered))
