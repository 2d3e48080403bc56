-- Ways by switch number.
use Rattle.std.proofs.Common.{◌≡◌, ℕ, ◌<◌, List, [], ◌∷◌, Bool, true, false, cond, nat_lt, ◌==◌, refl, ltb-true, arith}
use Rattle.std.specs.Prelude.{All}
use Rattle.std.specs.BTreeMap.{insert_entry}
use Rattle.std.specs.List.{AllPairs, AllByRecursion}
use Rattle.std.specs.List.Sorted.{IsStrictlySortedBy}
use Rattle.std.specs.Map.{keys_of}
use Rattle.std.specs.Ordering.{nat_cmp, match_ordering}
use Rattle.std.specs.declared.cmp.Ordering.{Ordering}
use Rattle.std.specs.declared.cmp.Ordering.TheVariants.{Less, Equal, Greater}
use Rattle.std.proofs.lemmas.List.Elements.{All-nil, All-cons, All-head, All-tail, All-map}
use Rattle.std.proofs.lemmas.List.Kept.{AllPairs-cons}
use Rattle.rail_types.specs.declared.infra_types.switches.Group.{Group}
use Rattle.rail_types.specs.declared.infra_types.switches.Way.{Way}
use Rattle.rail_types.specs.Infras.{AreWays}
use Rattle.std.proofs.Common.{ap, ◌∙◌, sym, Result, Ok, Err, String, Global, string_bytes}
use Rattle.serde_json.specs.View.{view, members_view}
use Rattle.serde_json.specs.declared.value.Value.{Value}
use Rattle.json_fields.specs.Places.{FilePlace}
use Rattle.json_fields.specs.Reading.{◌>>=◌}
use Rattle.infra_fields.specs.declared.faults.InfraFault.{InfraFault}
use Rattle.railjson_read.specs.Routes.{way_in, way_of, ways_of, read_ways}

less_by : (t u : Bool) (x y : ℕ) → nat_lt x y ≡ t → cond t Less (cond u Equal Greater) ≡ Less → x < y
less_by true u x y e h = ltb-true _ _ e
less_by false true x y e h = absurd (cc)
less_by false false x y e h = absurd (cc)

less : (x y : ℕ) → nat_cmp x y ≡ Less → x < y
less x y h = less_by (nat_lt x y) (x == y) x y refl h

-- the switches of entries behind one are greater
later : (x : ℕ) (es : List (ℕ × Group)) → AllByRecursion (λ y. nat_cmp x y ≡ Less) (keys_of es) → All (λ (way : Way). x < way.switch) (ways_of es)
later x [] h = All-nil (λ (way : Way). x < way.switch)
later x (e ∷ es) h = All-cons (λ (way : Way). x < way.switch) (way_of e) (ways_of es) (less x e.0 h.0) (later x es h.1)

ascend : (es : List (ℕ × Group)) → IsStrictlySortedBy nat_cmp (keys_of es) → AllPairs (λ (one later : Way). one.switch < later.switch) (ways_of es)
unfolding IsStrictlySortedBy
ascend [] h = λ i j d before within. absurd (omega (arith, within))
ascend (e ∷ es) h = AllPairs-cons (λ (one later : Way). one.switch < later.switch) (way_of e) (ways_of es) (later e.0 es h.0) (ascend es h.1)

pub are_ways : (switches : ℕ) (es : List (ℕ × Group)) → All (λ (entry : ℕ × Group). entry.0 < switches) es → IsStrictlySortedBy nat_cmp (keys_of es) → AreWays switches (ways_of es)
are_ways switches es known sorted = record {
  known = All-map (λ (way : Way). way.switch < switches) way_of es known;
  ascend = ascend es sorted;
}

-- entries whose switches are known, and one more
module _ (switches switch : ℕ) (group : Group) (is_known : switch < switches) where
  abbrev pub Known : ℕ × Group → Type 0
  Known entry = entry.0 < switches

  by_order : (o : Ordering) (e : ℕ × Group) (es : List (ℕ × Group)) → All Known (e ∷ es) → All Known (insert_entry nat_cmp es switch group) → All Known (match_ordering o ((switch, group) ∷ e ∷ es) ((e.0, group) ∷ es) (e ∷ insert_entry nat_cmp es switch group))
  by_order Less e es all rest = All-cons Known (switch, group) (e ∷ es) is_known all
  by_order Equal e es all rest = All-cons Known (e.0, group) es (All-head Known e es all) (All-tail Known e es all)
  by_order Greater e es all rest = All-cons Known e (insert_entry nat_cmp es switch group) (All-head Known e es all) rest

  pub inserted : (es : List (ℕ × Group)) → All Known es → All Known (insert_entry nat_cmp es switch group)
  inserted [] all = All-cons Known (switch, group) [] is_known (All-nil Known)
  inserted (e ∷ es) all = by_order (nat_cmp switch e.0) e es all (inserted es (All-tail Known e es all))

-- the ways of some members, where the first of them has one and where it has none
module _ (place : FilePlace) (switches : List (List ℕ)) (before : List (ℕ × Group)) (key : String Global) (value : Value) (es rest : List (String Global × Value)) (first : rest ≡ (key, value) ∷ es) where
  abbrev pub then_rest : Way → Result (List (ℕ × Group)) InfraFault
  then_rest way = read_ways place switches (insert_entry nat_cmp before way.switch way.group) (members_view es)

  pub one_way : (way : Way) (new : List (ℕ × Group)) → way_in place switches (string_bytes key) (view value) ≡ Ok way → new ≡ insert_entry nat_cmp before way.switch way.group → read_ways place switches before (members_view rest) ≡ read_ways place switches new (members_view es)
  one_way way new e n = ap (λ r. read_ways place switches before (members_view r)) first ∙ ap (λ w. w >>= then_rest) e ∙ ap (λ g. read_ways place switches g (members_view es)) (sym n)

  pub no_way : (fault : InfraFault) → way_in place switches (string_bytes key) (view value) ≡ Err fault → read_ways place switches before (members_view rest) ≡ Err fault
  no_way fault e = ap (λ r. read_ways place switches before (members_view r)) first ∙ ap (λ w. w >>= then_rest) e
