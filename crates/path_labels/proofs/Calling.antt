-- What is asked at each count of stops made.
use Rattle.std.proofs.Common.{◌≡◌, inl, inr, sym, ap, subst, arith, ℕ, ◌+◌, ◌<◌, true, List, [], ◌∷◌, ◌++◌, length, get_or, Contains, eq-eqb, length-append}
use Rattle.std.specs.Prelude.{◌↔◌, nat_eq}
use Rattle.std.specs.List.{list_any}
use Rattle.std.proofs.lemmas.Bool.{cases_lt, eqb-true}
use Rattle.std.proofs.lemmas.List.{get_or_append_left, get_or_push}
use Rattle.std.proofs.lemmas.List.Folds.{list_any_at}
use Rattle.std.proofs.lemmas.Map.Views.{Contains-from_any}
use Rattle.rail_types.specs.declared.tracks.Network.{Network}
use Rattle.rail_types.specs.declared.trains.Request.{Request}
use Rattle.blocking_time.specs.Runs.{block_at}
use Rattle.tail_states.specs.Following.{AreServing}
use Rattle.label_search.specs.declared.charts.ChartCall.{ChartCall}
use Rattle.label_search.specs.Charts.{call_at}
use Rattle.path_labels.specs.ChartCourses.{AreCalls, IsCallAt}

-- a train is called to halt on the blocks of the call
among_called : (blocks : List ℕ) (block : ℕ) → list_any (λ one. nat_eq one block) blocks ≡ true → Contains blocks block
among_called blocks block called = Contains-from_any {K = ℕ} {eq = λ one other. nat_eq other one} (λ one other same. sym (eqb-true other one same)) block blocks called

called_among : (blocks : List ℕ) (block : ℕ) → Contains blocks block → list_any (λ one. nat_eq one block) blocks ≡ true
called_among blocks block (k, within, is) = list_any_at (λ one. nat_eq one block) blocks k block within (eq-eqb (get_or blocks k block) block is)

-- a train is called on the blocks that serve a stop
pub called_where_served : (net : Network) (stop : ℕ) (lists : List (List ℕ)) (blocks : List ℕ) → AreServing net (length net.blocks) lists → blocks ≡ get_or lists stop []
    → (block : ℕ) → block < length net.blocks → (list_any (λ one. nat_eq one block) blocks ≡ true) ↔ Contains (block_at net block).serves stop
called_where_served net stop lists blocks are same block within = (
  (λ called. (are.sound stop block (subst (λ l. Contains l block) same (among_called blocks block called))).1),
  (λ serves. called_among blocks block (subst (λ l. Contains l block) (sym same) (are.whole stop block within serves))),
)

-- so many calls are made, one for each count of stops made
pub record AreFirstCalls (net : Network) (request : Request) (count : ℕ) (calls : List ChartCall) : Type 0 where
  pub counted : length calls ≡ count
  pub calls_are : (made : ℕ) → made < count → IsCallAt net request made (call_at calls made)

module _ (net : Network) (request : Request) where
  pub calls_none : (calls : List ChartCall) → calls ≡ [] → AreFirstCalls net request 0 calls
  calls_none calls none = record {
    counted = ap length none;
    calls_are = λ made less. absurd (omega (arith, less));
  }

  -- one call more
  pub calls_next : (count : ℕ) (old new : List ChartCall) (call : ChartCall) → AreFirstCalls net request count old → IsCallAt net request count call → new ≡ old ++ call ∷ [] → AreFirstCalls net request (count + 1) new
  calls_next count old new call are is added = subst (AreFirstCalls net request (count + 1)) (sym added) (record {
    counted = let long = are.counted in omega (arith, long, length-append old (call ∷ []));
    calls_are = λ made less. elim (cases_lt made count) [
      | inl before ↦ subst (IsCallAt net request made) (sym (get_or_append_left old (call ∷ []) _ made (let long = are.counted in omega (arith, long, before)))) (are.calls_are made before)
      | inr last ↦
          let now : made ≡ count = omega (arith, less, last) in
          let long : length old ≡ made = (let counted = are.counted in omega (arith, now, counted)) in
          let there : call_at (old ++ call ∷ []) made ≡ call = get_or_push old call _ made long in
          subst (IsCallAt net request made) (sym there) (subst (λ n. IsCallAt net request n call) (sym now) is)
    ];
  })

  pub all_called : (count : ℕ) (calls : List ChartCall) → AreFirstCalls net request count calls → count ≡ length request.stops + 1 → AreCalls net request calls
  all_called count calls are all = record {
    count = let long = are.counted in omega (arith, long, all);
    dwells = λ made less. (are.calls_are made (let long = are.counted in omega (arith, long, less))).dwells;
    halts = λ made block less within. (are.calls_are made (let long = are.counted in omega (arith, long, less))).halts block within;
  }
