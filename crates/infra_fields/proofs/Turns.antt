-- A value by its first token, and the grammar's loops, a turn at a time.
use Rattle.std.proofs.Common.{◌≡◌, ℕ, zero, suc, ◌-◌, ◌<◌, ◌≤◌, List, [], ◌∷◌, ◌++◌, length, true, false, Option, Some, None, option_map, option_and_then, refl, sym, ap, ◌∙◌, true≢false, arith}
use Rattle.json.specs.Token.{Token}
use Rattle.json.specs.Json as json
use Rattle.json.specs.Json.{Parse, parse_map, after_end_array, read_key, items_step, items, members, value, if_last}
use Rattle.json.proofs.Grammar.{value_is, value-begin_array, value-begin_object, items_end, items_more, members_end, members_no_key as nothing_named, members_more, read_key-shorter}
use Rattle.serde_json.specs.Data.{Data, array, object, Items, no_items, item, Members, no_members, put}
use Rattle.serde_json.specs.Read.{of_json, of_items, of_members, converted}
use Rattle.serde_json.specs.View.{items_of}
use Rattle.infra_fields.specs.Tokens.{opens_array, opens_object, lone_value}

false≢true : false ≡ true → ⊥
false≢true e = true≢false (sym e)

-- ---- what was converted

abbrev or_else : {A : Type 0} → A → Option A → A
or_else other None = other
or_else other (Some it) = it

halves : {B : Type 0} (r s : List Token) (x : Option B) (b : B) → option_map {U = B × List Token} (λ y. (y, r)) x ≡ Some (b, s) → (r ≡ s) × (x ≡ Some b)
halves r s None b e = absurd (cc)
halves r s (Some y) b e = let same = ap (or_else (y, r)) e in (ap (λ p. p.1) same, ap (λ p. Some p.0) same)

parsed : {A B : Type 0} (f : A → Option B) (o : Option (A × List Token)) (b : B) (r : List Token) → converted f o ≡ Some (b, r) → (a : A) × (o ≡ Some (a, r)) × (f a ≡ Some b)
parsed f None b r e = absurd (cc)
parsed f (Some p) b r e = let both = halves p.1 r (f p.0) b e in (p.0, ap (λ s. Some (p.0, s)) both.0, both.1)

unconverted : {B : Type 0} (r : List Token) (x : Option B) → option_map {U = B × List Token} (λ y. (y, r)) x ≡ None → x ≡ None
unconverted r None e = refl
unconverted r (Some y) e = absurd (cc)

mapped : {A B : Type 0} (g : A → B) (r : List Token) (x : Option A) → option_map (λ b. (b, r)) (option_map g x) ≡ parse_map g (option_map (λ a. (a, r)) x)
mapped g r None = refl
mapped g r (Some a) = refl

array_converted : (o : Option (json.Items × List Token)) → converted of_json (parse_map json.array o) ≡ parse_map array (converted of_items o)
array_converted None = refl
array_converted (Some p) = mapped array p.1 (of_items p.0)

object_converted : (o : Option (json.Members × List Token)) → converted of_json (parse_map json.object o) ≡ parse_map object (converted (λ ms. of_members ms no_members) o)
object_converted None = refl
object_converted (Some p) = mapped object p.1 (of_members p.0 no_members)

-- ---- a value by its first token

pub no_token : (depth : ℕ) (ts : List Token) → ts ≡ [] → converted of_json (value depth ts) ≡ None
no_token depth ts e = ap (converted of_json) (ap (value depth) e ∙ value_is depth [])

pub lone : (depth : ℕ) (t : Token) (ts : List Token) → opens_array t ≡ false → opens_object t ≡ false → converted of_json (value depth (t ∷ ts)) ≡ option_map (λ d. (d, ts)) (lone_value t)
lone depth Token.begin_object ts a o = absurd (true≢false o)
lone depth Token.end_object ts a o = ap (converted of_json) (value_is depth (Token.end_object ∷ ts))
lone depth Token.begin_array ts a o = absurd (true≢false a)
lone depth Token.end_array ts a o = ap (converted of_json) (value_is depth (Token.end_array ∷ ts))
lone depth (Token.key s) ts a o = ap (converted of_json) (value_is depth (Token.key s ∷ ts))
lone depth (Token.string s) ts a o = ap (converted of_json) (value_is depth (Token.string s ∷ ts))
lone depth (Token.number s) ts a o = ap (converted of_json) (value_is depth (Token.number s ∷ ts))
lone depth (Token.boolean b) ts a o = ap (converted of_json) (value_is depth (Token.boolean b ∷ ts))
lone depth Token.null ts a o = ap (converted of_json) (value_is depth (Token.null ∷ ts))
lone depth Token.bad ts a o = ap (converted of_json) (value_is depth (Token.bad ∷ ts))

is_array_start : (t : Token) → opens_array t ≡ true → t ≡ Token.begin_array
is_array_start Token.begin_object a = absurd (false≢true a)
is_array_start Token.end_object a = absurd (false≢true a)
is_array_start Token.begin_array a = refl
is_array_start Token.end_array a = absurd (false≢true a)
is_array_start (Token.key s) a = absurd (false≢true a)
is_array_start (Token.string s) a = absurd (false≢true a)
is_array_start (Token.number s) a = absurd (false≢true a)
is_array_start (Token.boolean b) a = absurd (false≢true a)
is_array_start Token.null a = absurd (false≢true a)
is_array_start Token.bad a = absurd (false≢true a)

is_object_start : (t : Token) → opens_object t ≡ true → t ≡ Token.begin_object
is_object_start Token.begin_object o = refl
is_object_start Token.end_object o = absurd (false≢true o)
is_object_start Token.begin_array o = absurd (false≢true o)
is_object_start Token.end_array o = absurd (false≢true o)
is_object_start (Token.key s) o = absurd (false≢true o)
is_object_start (Token.string s) o = absurd (false≢true o)
is_object_start (Token.number s) o = absurd (false≢true o)
is_object_start (Token.boolean b) o = absurd (false≢true o)
is_object_start Token.null o = absurd (false≢true o)
is_object_start Token.bad o = absurd (false≢true o)

array_too_deep : (ts : List Token) → value 0 (Token.begin_array ∷ ts) ≡ None
unfolding value
array_too_deep ts = refl

object_too_deep : (ts : List Token) → value 0 (Token.begin_object ∷ ts) ≡ None
unfolding value
object_too_deep ts = refl

pub no_array : (depth : ℕ) (t : Token) (ts : List Token) → opens_array t ≡ true → depth ≡ 0 → converted of_json (value depth (t ∷ ts)) ≡ None
no_array depth t ts a e = rw (is_array_start t a, e, array_too_deep ts) refl

pub no_object : (depth : ℕ) (t : Token) (ts : List Token) → opens_object t ≡ true → depth ≡ 0 → converted of_json (value depth (t ∷ ts)) ≡ None
no_object depth t ts o e = rw (is_object_start t o, e, object_too_deep ts) refl

-- the items of an array, to its end
abbrev pub all_items : ℕ → List Token → Option (Items × List Token)
all_items depth ts = converted of_items (items (value depth) (length ts) ts)

-- the members of an object, to its end
abbrev pub all_members : ℕ → List Token → Option (Members × List Token)
all_members depth ts = converted (λ ms. of_members ms no_members) (members (value depth) (length ts) ts)

pub an_array : (depth : ℕ) (t : Token) (ts : List Token) → opens_array t ≡ true → 0 < depth → converted of_json (value depth (t ∷ ts)) ≡ parse_map array (all_items (depth - 1) ts)
an_array depth t ts a some = ap (λ s. converted of_json (value depth (s ∷ ts))) (is_array_start t a) ∙ ap (converted of_json) (value-begin_array depth ts some) ∙ array_converted (items (value (depth - 1)) (length ts) ts)

pub an_object : (depth : ℕ) (t : Token) (ts : List Token) → opens_object t ≡ true → 0 < depth → converted of_json (value depth (t ∷ ts)) ≡ parse_map object (all_members (depth - 1) ts)
an_object depth t ts o some = ap (λ s. converted of_json (value depth (s ∷ ts))) (is_object_start t o) ∙ ap (converted of_json) (value-begin_object depth ts some) ∙ object_converted (members (value (depth - 1)) (length ts) ts)

-- ---- one turn

with_item : (j : json.Json) (d : Data) → of_json j ≡ Some d → (o : Option (json.Items × List Token)) → converted of_items (parse_map (json.item j) o) ≡ parse_map (item d) (converted of_items o)
with_item j d e None = refl
with_item j d e (Some p) = rw e (mapped (item d) p.1 (of_items p.0))

without_item : (j : json.Json) → of_json j ≡ None → (o : Option (json.Items × List Token)) → converted of_items (parse_map (json.item j) o) ≡ None
without_item j e None = refl
without_item j e (Some p) = rw e refl

with_member : (k : List ℕ) (j : json.Json) (d : Data) (old : Members) → of_json j ≡ Some d → (o : Option (json.Members × List Token))
    → converted (λ ms. of_members ms old) (parse_map (json.member k j) o) ≡ converted (λ ms. of_members ms (put k d old)) o
with_member k j d old e None = refl
with_member k j d old e (Some p) = rw e refl

without_member : (k : List ℕ) (j : json.Json) (old : Members) → of_json j ≡ None → (o : Option (json.Members × List Token)) → converted (λ ms. of_members ms old) (parse_map (json.member k j) o) ≡ None
without_member k j old e None = refl
without_member k j old e (Some p) = rw e refl

item_turn : (p : Parse json.Json) (n : ℕ) (ts r : List Token) (d : Data) → 0 < n → after_end_array ts ≡ None → converted of_json (p ts) ≡ Some (d, r)
    → converted of_items (items p n ts) ≡ parse_map (item d) (converted of_items (items p (n - 1) r))
item_turn p n ts r d some going e = let j = parsed of_json (p ts) d r e in ap (converted of_items) (items_more p n ts r j.0 some going j.1) ∙ with_item j.0 d j.2 _

no_item : (more : Parse json.Items) (o : Option (json.Json × List Token)) → converted of_json o ≡ None → converted of_items (option_and_then (λ q. parse_map (json.item q.0) (more q.1)) o) ≡ None
no_item more None e = refl
no_item more (Some q) e = without_item q.0 (unconverted q.1 (of_json q.0) e) (more q.1)

item_refused : (p : Parse json.Json) (n : ℕ) (ts : List Token) → after_end_array ts ≡ None → converted of_json (p ts) ≡ None → converted of_items (items p n ts) ≡ None
unfolding items
item_refused p zero ts going e = refl
item_refused p (suc n) ts going e = ap (λ o. converted of_items (items_step p (items p n) ts o)) going ∙ no_item (items p n) (p ts) e

member_turn : (p : Parse json.Json) (old : Members) (n : ℕ) (k : List ℕ) (ts s r : List Token) (d : Data) → 0 < n → read_key ts ≡ Some (Some k, s) → converted of_json (p s) ≡ Some (d, r)
    → converted (λ ms. of_members ms old) (members p n ts) ≡ converted (λ ms. of_members ms (put k d old)) (members p (n - 1) r)
member_turn p old n k ts s r d some key e =
    let j = parsed of_json (p s) d r e in
    ap (converted (λ ms. of_members ms old)) (members_more p n k ts s r j.0 some key j.1) ∙ with_member k j.0 d old j.2 _

no_member : (old : Members) (k : List ℕ) (more : Parse json.Members) (o : Option (json.Json × List Token)) → converted of_json o ≡ None
    → converted (λ ms. of_members ms old) (option_and_then (λ q. parse_map (json.member k q.0) (more q.1)) o) ≡ None
no_member old k more None e = refl
no_member old k more (Some q) e = without_member k q.0 old (unconverted q.1 (of_json q.0) e) (more q.1)

member_refused : (p : Parse json.Json) (old : Members) (n : ℕ) (k : List ℕ) (ts s : List Token) → read_key ts ≡ Some (Some k, s) → converted of_json (p s) ≡ None → converted (λ ms. of_members ms old) (members p n ts) ≡ None
unfolding members
member_refused p old zero k ts s key e = refl
member_refused p old (suc n) k ts s key e = rw key (no_member old k (members p n) (p s) e)

-- ---- the items so far

-- these data stand before the rest
abbrev pub onto : List Data → Items → Items
onto [] rest = rest
onto (d ∷ ds) rest = item d (onto ds rest)

pub onto_end : (ds : List Data) → onto ds no_items ≡ items_of ds
onto_end [] = refl
onto_end (d ∷ ds) = ap (item d) (onto_end ds)

onto_push : (ds : List Data) (d : Data) (rest : Items) → onto ds (item d rest) ≡ onto (ds ++ d ∷ []) rest
onto_push [] d rest = refl
onto_push (e ∷ ds) d rest = ap (item e) (onto_push ds d rest)

one_more : (ds : List Data) (d : Data) (r : Option (Items × List Token)) → parse_map (onto ds) (parse_map (item d) r) ≡ parse_map (onto (ds ++ d ∷ [])) r
one_more ds d None = refl
one_more ds d (Some p) = ap (λ rest. Some (rest, p.1)) (onto_push ds d p.0)

none_yet : (r : Option (Items × List Token)) → r ≡ parse_map (onto []) r
none_yet None = refl
none_yet (Some p) = refl

-- of the items from `first` on these were read up to `now`
abbrev pub ItemsSoFar : ℕ → List Token → List Token → List Data → Type 0
ItemsSoFar depth first now ds = (n : ℕ) × (length now ≤ n) × (all_items depth first ≡ parse_map (onto ds) (converted of_items (items (value depth) n now)))

module _ (depth : ℕ) (first : List Token) where
  pub items_first : ItemsSoFar depth first first []
  items_first = (length first, omega arith, none_yet (all_items depth first))

  module _ (now : List Token) (ds : List Data) (so_far : ItemsSoFar depth first now ds) where
    pub items_next : (r : List Token) (d : Data) → after_end_array now ≡ None → converted of_json (value depth now) ≡ Some (d, r) → length r < length now → ItemsSoFar depth first r (ds ++ d ∷ [])
    items_next r d going read less =
        let n = so_far.0 in (
          n - 1,
          omega (arith, so_far.1, less),
          so_far.2 ∙ ap (parse_map (onto ds)) (item_turn (value depth) n now r d (omega (arith, so_far.1, less)) going read) ∙ one_more ds d (converted of_items (items (value depth) (n - 1) r)),
        )

    pub items_refused : after_end_array now ≡ None → converted of_json (value depth now) ≡ None → all_items depth first ≡ None
    items_refused going none = so_far.2 ∙ ap (parse_map (onto ds)) (item_refused (value depth) so_far.0 now going none)

    pub items_done : (r : List Token) → after_end_array now ≡ Some r → all_items depth first ≡ Some (onto ds no_items, r)
    items_done r closed = so_far.2 ∙ ap (λ o. parse_map (onto ds) (converted of_items o)) (items_end (value depth) so_far.0 now r so_far.1 closed)

-- ---- the members so far

-- of the members from `first` on these were read up to `now`
abbrev pub MembersSoFar : ℕ → List Token → List Token → Members → Type 0
MembersSoFar depth first now old = (n : ℕ) × (length now ≤ n) × (all_members depth first ≡ converted (λ ms. of_members ms old) (members (value depth) n now))

module _ (depth : ℕ) (first : List Token) where
  pub members_first : MembersSoFar depth first first no_members
  members_first = (length first, omega arith, refl)

  module _ (now : List Token) (old : Members) (so_far : MembersSoFar depth first now old) where
    pub members_next : (k : List ℕ) (s r : List Token) (d : Data) → read_key now ≡ Some (Some k, s) → converted of_json (value depth s) ≡ Some (d, r) → length r < length s → MembersSoFar depth first r (put k d old)
    members_next k s r d key read less =
        let n = so_far.0 in
        let named = read_key-shorter now (Some k) s key in (
          n - 1,
          omega (arith, so_far.1, less, named),
          so_far.2 ∙ member_turn (value depth) old n k now s r d (omega (arith, so_far.1, less, named)) key read,
        )

    pub members_no_key : read_key now ≡ None → all_members depth first ≡ None
    members_no_key none = so_far.2 ∙ ap (converted (λ ms. of_members ms old)) (nothing_named (value depth) so_far.0 now none)

    pub members_refused : (k : List ℕ) (s : List Token) → read_key now ≡ Some (Some k, s) → converted of_json (value depth s) ≡ None → all_members depth first ≡ None
    members_refused k s key none = so_far.2 ∙ member_refused (value depth) old so_far.0 k now s key none

    pub members_done : (r : List Token) → read_key now ≡ Some (None, r) → all_members depth first ≡ Some (old, r)
    members_done r closed = so_far.2 ∙ ap (converted (λ ms. of_members ms old)) (members_end (value depth) so_far.0 now r so_far.1 closed)

-- ---- a whole array or object, behind its first token

module _ (depth : ℕ) (old : List Token) (t : Token) (ts : List Token) (first : old ≡ t ∷ ts) where
  from_first : {o : Option (Data × List Token)} → converted of_json (value depth (t ∷ ts)) ≡ o → converted of_json (value depth old) ≡ o
  from_first e = ap (λ s. converted of_json (value depth s)) first ∙ e

  pub array_read : (all : Items) (left : List Token) → opens_array t ≡ true → 0 < depth → all_items (depth - 1) ts ≡ Some (all, left) → converted of_json (value depth old) ≡ Some (array all, left)
  array_read all left a some e = from_first (an_array depth t ts a some ∙ ap (parse_map array) e)

  pub array_refused : opens_array t ≡ true → 0 < depth → all_items (depth - 1) ts ≡ None → converted of_json (value depth old) ≡ None
  array_refused a some e = from_first (an_array depth t ts a some ∙ ap (parse_map array) e)

  pub object_read : (all : Members) (left : List Token) → opens_object t ≡ true → 0 < depth → all_members (depth - 1) ts ≡ Some (all, left) → converted of_json (value depth old) ≡ Some (object all, left)
  object_read all left o some e = from_first (an_object depth t ts o some ∙ ap (parse_map object) e)

  pub object_refused : opens_object t ≡ true → 0 < depth → all_members (depth - 1) ts ≡ None → converted of_json (value depth old) ≡ None
  object_refused o some e = from_first (an_object depth t ts o some ∙ ap (parse_map object) e)

  pub lone_read : (d : Data) → opens_array t ≡ false → opens_object t ≡ false → lone_value t ≡ Some d → converted of_json (value depth old) ≡ Some (d, ts)
  lone_read d a o e = from_first (lone depth t ts a o ∙ ap (option_map (λ x. (x, ts))) e)

  pub lone_refused : opens_array t ≡ false → opens_object t ≡ false → lone_value t ≡ None → converted of_json (value depth old) ≡ None
  lone_refused a o e = from_first (lone depth t ts a o ∙ ap (option_map (λ x. (x, ts))) e)

-- ---- a whole text

abbrev pub whole : Option (json.Json × List Token) → Option Data
whole o = option_and_then of_json (option_and_then (λ p. if_last p.0 p.1) o)

pub whole_read : (o : Option (json.Json × List Token)) (d : Data) → converted of_json o ≡ Some (d, []) → whole o ≡ Some d
whole_read o d e = let j = parsed of_json o d [] e in ap whole j.1 ∙ j.2

pub whole_more : (o : Option (json.Json × List Token)) (d : Data) (t : Token) (r : List Token) → converted of_json o ≡ Some (d, t ∷ r) → whole o ≡ None
whole_more o d t r e = ap whole (parsed of_json o d (t ∷ r) e).1

pub whole_refused : (o : Option (json.Json × List Token)) → converted of_json o ≡ None → whole o ≡ None
whole_refused None e = refl
whole_refused (Some (j, [])) e = unconverted [] (of_json j) e
whole_refused (Some (j, t ∷ r)) e = refl
