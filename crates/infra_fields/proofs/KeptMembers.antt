-- Members that are kept, and others that are passed over.
use Rattle.std.proofs.Common.{◌≡◌, ℕ, zero, suc, ◌-◌, ◌<◌, List, [], ◌∷◌, ◌++◌, Bool, true, false, bytes_eq, Option, Some, None, refl, sym, ap, ◌∙◌, subst, true≢false, arith}
use Rattle.std.proofs.lemmas.Slice.Eq.{bytes_eq-Decides}
use Rattle.serde_json.specs.Data.{Data, array, object, Items, no_items, Members, no_members, put}
use Rattle.serde_json.specs.Find.{get, get_member}
use Rattle.serde_json.specs.View.{items_of}
use Rattle.serde_json.proofs.Views.{get_member-put, get_member-put_other}
use Rattle.infra_fields.specs.Fields.{list_of, elements_in}
use Rattle.infra_fields.specs.Kept.{is_list, is_read, BothOrNone, Each, Keeps, KeepsBy, KeepsFields, KeepsItems, KeepsMembers, KeepsObject}
use Rattle.infra_fields.proofs.Lists.{list_back}
use Rattle.infra_fields.proofs.Turns.{onto, onto_end}

-- ---- a value keeps all of itself

module _ (Stands : Data → Data → Type 0) (same : (d : Data) → Stands d d) where
  each_same : (ds : List Data) → Each Stands ds ds
  each_same [] = tt
  each_same (d ∷ ds) = (same d, each_same ds)

  elements_same : (o : Option (List Data)) → BothOrNone (Each Stands) o o
  elements_same None = tt
  elements_same (Some ds) = each_same ds

  pub items_same : (d : Data) → KeepsItems Stands d d
  items_same d = elements_same (elements_in d)

  by_same : (b : Bool) (o : Option Data) → KeepsBy Stands b o o
  by_same true None = tt
  by_same true (Some d) = items_same d
  by_same false o = refl

  pub object_same : (reads lists : List ℕ → Bool) (d : Data) → KeepsObject reads lists Stands d d
  object_same reads lists d = record {
    kind = refl;
    fields = λ key read. by_same (lists key) (get key d);
  }

pub keeps_same : (levels : ℕ) (d : Data) → Keeps levels d d
keeps_same zero d = refl
keeps_same (suc levels) d = object_same (Keeps levels) (keeps_same levels) is_read is_list d

pub by_whole : (Stands : Data → Data → Type 0) (b : Bool) (d e : Data) → b ≡ false → e ≡ d → KeepsBy Stands b (Some d) (Some e)
by_whole Stands b d e other is = rw other (ap Some is)

pub by_items : (Stands : Data → Data → Type 0) (b : Bool) (d e : Data) → b ≡ true → KeepsItems Stands d e → KeepsBy Stands b (Some d) (Some e)
by_items Stands b d e list h = rw list h

-- ---- one member more

module _ (reads lists : List ℕ → Bool) (Stands : Data → Data → Type 0) where
  none_by : (b : Bool) → KeepsBy Stands b None None
  none_by true = tt
  none_by false = refl

  pub none_kept : KeepsMembers reads lists Stands no_members no_members
  none_kept key read = none_by (lists key)

  kept_at : (key name : List ℕ) (d e : Data) (all kept : Members) (b : Bool) → bytes_eq key name ≡ b → KeepsBy Stands (lists name) (Some d) (Some e)
      → KeepsBy Stands (lists key) (get_member key all) (get_member key kept) → KeepsBy Stands (lists key) (get_member key (put name d all)) (get_member key (put name e kept))
  kept_at key name d e all kept true same one others =
      let is : key ≡ name = (bytes_eq-Decides key name).0 same in
      subst (λ k. KeepsBy Stands (lists k) (get_member k (put name d all)) (get_member k (put name e kept))) (sym is) (rw (get_member-put name d all, get_member-put name e kept) one)
  kept_at key name d e all kept false other one others =
      let apart : key ≡ name → ⊥ = λ h. true≢false (sym ((bytes_eq-Decides key name).1 h) ∙ other) in
      rw (get_member-put_other key name d all apart, get_member-put_other key name e kept apart) others

  -- a member that is kept
  pub kept_put : (name : List ℕ) (d e : Data) (all kept : Members) → KeepsBy Stands (lists name) (Some d) (Some e) → KeepsMembers reads lists Stands all kept → KeepsMembers reads lists Stands (put name d all) (put name e kept)
  kept_put name d e all kept one others key read = kept_at key name d e all kept (bytes_eq key name) refl one (others key read)

  -- a member that is passed over
  pub passed_put : (name : List ℕ) (d : Data) (all kept : Members) → reads name ≡ false → KeepsMembers reads lists Stands all kept → KeepsMembers reads lists Stands (put name d all) kept
  passed_put name d all kept unread others key read =
      let apart : key ≡ name → ⊥ = λ h. true≢false (sym read ∙ ap reads h ∙ unread) in
      rw (get_member-put_other key name d all apart) (others key read)

-- ---- whole objects and lists

pub object_members : (reads lists : List ℕ → Bool) (Stands : Data → Data → Type 0) (all kept : Members) → KeepsMembers reads lists Stands all kept → KeepsObject reads lists Stands (object all) (object kept)
object_members reads lists Stands all kept h = record {
  kind = refl;
  fields = λ key read. h key read;
}

pub keeps_object : (levels : ℕ) (all kept : Members) → 0 < levels → KeepsFields (levels - 1) all kept → Keeps levels (object all) (object kept)
keeps_object zero all kept some h = let never : ⊥ = omega arith in absurd never
keeps_object (suc levels) all kept some h =
    let fewer : suc levels - 1 ≡ levels = omega arith in
    object_members is_read is_list (Keeps levels) all kept (subst (λ (n : ℕ). KeepsFields n all kept) fewer h)

pub each_push : (Stands : Data → Data → Type 0) (ds es : List Data) (d e : Data) → Each Stands ds es → Stands d e → Each Stands (ds ++ d ∷ []) (es ++ e ∷ [])
each_push Stands [] [] d e all one = (one, tt)
each_push Stands [] (y ∷ ys) d e all one = absurd all
each_push Stands (x ∷ xs) [] d e all one = absurd all
each_push Stands (x ∷ xs) (y ∷ ys) d e all one = (all.0, each_push Stands xs ys d e all.1 one)

pub listed : (ds : List Data) → list_of (onto ds no_items) ≡ ds
listed ds = ap list_of (onto_end ds) ∙ list_back ds

pub array_items : (Stands : Data → Data → Type 0) (all : Items) (kept : List Data) → Each Stands (list_of all) kept → KeepsItems Stands (array all) (array (items_of kept))
array_items Stands all kept h = rw (list_back kept) h
