-- What is kept of values, behind their first tokens.
use Rattle.std.proofs.Common.{◌≡◌, ℕ, ◌-◌, ◌<◌, List, [], ◌∷◌, true, false, is_some, Option, Some, None, Ok, Err, refl, sym, ap, ◌∙◌, true≢false}
use Rattle.json.specs.Token.{Token}
use Rattle.json.specs.Json.{after_end_array, value}
use Rattle.json.specs.Lex.{tokens}
use Rattle.json.specs.Reads.{token_of, Yields}
use Rattle.json.specs.declared.token.Token.{Token as RustToken}
use Rattle.serde_json.specs.Data.{Data, array, object, no_items, Members}
use Rattle.serde_json.specs.Read.{of_json, converted, max_depth, read}
use Rattle.serde_json.specs.View.{items_of, view}
use Rattle.serde_json.specs.declared.value.Value.{Value}
use Rattle.json_fields.specs.declared.texts.Unread.{Unread}
use Rattle.json_fields.specs.declared.texts.Unread.TheVariants.{NotJson, Memory}
use Rattle.infra_fields.specs.Fields.{list_of}
use Rattle.infra_fields.specs.Tokens.{opens_array, opens_object, ParsesTo}
use Rattle.infra_fields.specs.Kept.{is_in, Each, GivesHalf, Keeps, KeepsFields, KeepsHalf, KeepsItems, KeepsLists, list_levels}
use Rattle.infra_fields.specs.declared.file_values.halves.Half.{Half}
use Rattle.infra_fields.proofs.KeptMembers.{array_items, keeps_object, keeps_same, listed, object_members, object_same}
use Rattle.infra_fields.proofs.Turns.{all_items, all_members, array_read, object_read, onto, ItemsSoFar, items_done, whole_more, whole_read, whole_refused}

module _ (levels depth : ℕ) (old : List Token) (t : Token) (ts left : List Token) (first : old ≡ t ∷ ts) (some : 0 < depth) where
  pub object_kept : (kept : Members) (v : Data) → 0 < levels → opens_object t ≡ true → ParsesTo (KeepsFields (levels - 1)) (all_members (depth - 1) ts) kept left → v ≡ object kept
      → ParsesTo (Keeps levels) (converted of_json (value depth old)) v left
  object_kept kept v deep o h seen = (object h.0, object_read depth old t ts first h.0 left o some h.1, rw seen (keeps_object levels h.0 kept deep h.2))

  pub list_kept : (kept : List Data) (v : Data) → opens_array t ≡ true → ParsesTo (λ all objects. Each (Keeps levels) (list_of all) objects) (all_items (depth - 1) ts) kept left → v ≡ array (items_of kept)
      → ParsesTo (KeepsItems (Keeps levels)) (converted of_json (value depth old)) v left
  list_kept kept v a h seen = (array h.0, array_read depth old t ts first h.0 left a some h.1, rw seen (array_items (Keeps levels) h.0 kept h.2))

-- a file, by its members
module _ (half : Half) (depth : ℕ) (old : List Token) (t : Token) (ts left : List Token) (first : old ≡ t ∷ ts) (some : 0 < depth) where
  pub file_kept : (kept : Members) (v : Data) → opens_object t ≡ true → ParsesTo (KeepsLists half) (all_members (depth - 1) ts) kept left → v ≡ object kept → ParsesTo (KeepsHalf half) (converted of_json (value depth old)) v left
  file_kept kept v o h seen = (object h.0, object_read depth old t ts first h.0 left o some h.1, rw seen (object_members (is_in half) (is_in half) (Keeps list_levels) h.0 kept h.2))

-- a file that is none
pub half_same : (half : Half) (d : Data) → KeepsHalf half d d
half_same half d = object_same (Keeps list_levels) (keeps_same list_levels) (is_in half) (is_in half) d

-- a value that was read as a whole
pub whole_kept : (Stands : Data → Data → Type 0) (depth : ℕ) (old : List Token) (t : Token) (ts left : List Token) (d : Data) → old ≡ t ∷ ts → Stands d d → converted of_json (value depth (t ∷ ts)) ≡ Some (d, left)
    → ParsesTo Stands (converted of_json (value depth old)) d left
whole_kept Stands depth old t ts left d first same e = (d, ap (λ s. converted of_json (value depth s)) first ∙ e, same)

-- the objects at the end of their list
pub objects_done : (levels depth : ℕ) (first now r : List Token) (all kept : List Data) → ItemsSoFar depth first now all → after_end_array now ≡ Some r → Each (Keeps levels) all kept
    → ParsesTo (λ every objects. Each (Keeps levels) (list_of every) objects) (all_items depth first) kept r
objects_done levels depth first now r all kept so_far closed h = (onto all no_items, items_done depth first now all so_far r closed, rw (listed all) h)

-- ---- a whole text

pub ended : (r : Option RustToken) (old new : List Token) → Yields old r new → is_some r ≡ false → old ≡ []
ended None old new h e = h.0
ended (Some t) old new h e = absurd (true≢false e)

pub goes_on : (r : Option RustToken) (old new : List Token) → Yields old r new → is_some r ≡ true → (t : Token) × (old ≡ t ∷ new)
goes_on None old new h e = absurd (true≢false (sym e))
goes_on (Some t) old new h e = (token_of t, h)

module _ (half : Half) (text : List ℕ) (kept : Value) (left : List Token) (h : ParsesTo (KeepsHalf half) (converted of_json (value max_depth (tokens text))) (view kept) left) where
  pub text_kept : left ≡ [] → GivesHalf half (Ok kept) (read text)
  text_kept nothing = (h.0, whole_read (value max_depth (tokens text)) h.0 (rw nothing at h.1), h.2)

  pub text_more : (t : Token) (rest : List Token) → left ≡ t ∷ rest → read text ≡ None
  text_more t rest more = whole_more (value max_depth (tokens text)) h.0 t rest (rw more at h.1)

pub text_refused : (text : List ℕ) → converted of_json (value max_depth (tokens text)) ≡ None → read text ≡ None
text_refused text none = whole_refused (value max_depth (tokens text)) none

pub gives_fault : (half : Half) (fault : Unread) (o : Option Data) → (fault ≡ NotJson → o ≡ None) → GivesHalf half (Err fault) o
gives_fault half NotJson o h = h refl
gives_fault half Memory o h = tt
