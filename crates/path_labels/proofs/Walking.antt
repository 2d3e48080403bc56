-- From each spot with each count of stops made exactly the moves of the request are listed.
use Rattle.std.proofs.Common.{◌≡◌, ◌∙◌, inl, inr, refl, sym, ap, subst, arith, ℕ, zero, suc, ◌+◌, ◌*◌, ◌/◌, ◌%◌, ◌<◌, ◌≤◌, Bool, true, false, cond, List, [], ◌∷◌, length, map, filter, get_or, All, Contains, Option, Some, None, nat_le, if◌then◌else◌}
use Rattle.std.specs.Prelude.{slice_get}
use Rattle.std.proofs.lemmas.Bool.{leb-true, leb-false}
use Rattle.std.proofs.lemmas.List.{get_or-map, length-map}
use Rattle.std.proofs.lemmas.List.Elements.{All-map, All-filter, filter_passes}
use Rattle.std.proofs.lemmas.Nat.{div_below, mod_below}
use Rattle.std.proofs.lemmas.Option.{none-some, slice_get_cases, slice_get_past}
use Rattle.rail_types.specs.declared.tracks.Block.{Block}
use Rattle.rail_types.specs.declared.tracks.Network.{Network}
use Rattle.rail_types.specs.declared.trains.Stop.{Stop}
use Rattle.rail_types.specs.declared.trains.Request.{Request}
use Rattle.rail_types.specs.declared.entries.Settings.{Settings}
use Rattle.running_time.specs.declared.edges.Edge.{Edge}
use Rattle.running_time.specs.declared.edges.Edge.TheVariants.{Still as Halted, Rolling}
use Rattle.blocking_time.specs.Runs.{block_at, exit_of}
use Rattle.stair_pieces.specs.declared.places.Place.{Place}
use Rattle.stair_pieces.specs.declared.places.Step.{Step}
use Rattle.stair_pieces.specs.Places.{stands_after, start_place}
use Rattle.stair_pieces.specs.Moves.{IsMove, MayLeave, Reaches}
use Rattle.tail_states.specs.declared.moves.Move.{Move}
use Rattle.tail_states.specs.declared.moves.Next.TheVariants.{End as Ends, At}
use Rattle.tail_states.specs.declared.ways.Way.{Way}
use Rattle.tail_states.specs.Asked.{next_stop, stop_or}
use Rattle.tail_states.specs.Listed.{AreMovesFrom, AreTheMoves, HasStep, IsListedMove, LeadsTo}
use Rattle.tail_states.specs.Spots.{HasWay, IsSpotOf, IsStride, IsWayOf, MayComeNext, spot_after, with_made}
use Rattle.label_search.specs.declared.charts.ChartCall.{ChartCall}
use Rattle.label_search.specs.declared.charts.ChartSpot.{ChartSpot}
use Rattle.label_search.specs.declared.charts.ChartWay.{ChartWay}
use Rattle.label_search.specs.Charts.{call_at, is_open, open_among}
use Rattle.path_labels.specs.declared.train_charts.TrainChart.{TrainChart}
use Rattle.path_labels.specs.TrainCharts.{way_in}
use Rattle.path_labels.specs.ChartCourses.{AreCalls, IsOverChart, listed_move, listed_moves, listed_over, member_along, members_along, moves_along}
use Rattle.path_labels.proofs.Alongside.{has_levels, same_count}
use Rattle.path_labels.proofs.Product.{member_at, members_count, numbered_count, numbered_is, numbered_within, spot_is}

-- ---- what lists hold that are made of others

pub contains_map : {X Y : Type 0} (f : X → Y) (xs : List X) (x : X) → Contains xs x → Contains (map f xs) (f x)
contains_map f xs x (k, within, is) = (k, (let long = length-map xs f in omega arith), get_or-map f xs k x (f x) within ∙ ap f is)

module _ {X : Type 0} (test : X → Bool) where
  -- an element that passes is kept
  contains_kept : (xs : List X) (x : X) → Contains xs x → test x ≡ true → Contains (filter test xs) x
  contains_kept [] x (k, within, is) passes = absurd (omega (arith, within))
  contains_kept (first ∷ xs) x (zero, within, is) passes =
      let kept : test first ≡ true = ap test is ∙ passes in
      subst (λ b. Contains (cond b (first ∷ filter test xs) (filter test xs)) x) (sym kept) (0, omega arith, is)
  contains_kept (first ∷ xs) x (suc k, within, is) passes = go (test first) (contains_kept xs x (k, omega (arith, within), is) passes)
    where
      go : (b : Bool) → Contains (filter test xs) x → Contains (cond b (first ∷ filter test xs) (filter test xs)) x
      go true (n, inside, there) = (suc n, omega (arith, inside), there)
      go false has = has

none_contained : (numbers : List ℕ) (number : ℕ) → Contains numbers number → numbers ≡ [] → ⊥
none_contained numbers number has none = let there = subst (λ l. Contains l number) none has in omega (arith, there.1)

-- a step halts as its way does
exit_back : (exit : Edge) → exit_of (stands_after exit) ≡ exit
exit_back Halted = refl
exit_back Rolling = refl

-- ---- where a train may halt

module _ (net : Network) (request : Request) (made block : ℕ) where
  -- it may halt where its next stop is served
  may_halt : made ≤ length request.stops → Contains (block_at net block).serves (next_stop request made) → MayLeave request made (block_at net block) Halted
  may_halt most = go (slice_get request.stops made) refl
    where
      go : (stop : Option Stop) → slice_get request.stops made ≡ stop → Contains (block_at net block).serves (stop_or request.destination stop) → MayLeave request made (block_at net block) Halted
      go (Some stop) is serves = inl (stop, is, serves)
      go None is serves = elim ((slice_get_cases request.stops made).1) [
        | inl some ↦ absurd (none-some some.0 (sym is ∙ some.2))
        | inr past ↦ let least = past.0 in inr (omega (arith, least, most), serves)
      ]

  halts_where_served : MayLeave request made (block_at net block) Halted → Contains (block_at net block).serves (next_stop request made)
  halts_where_served leaves = elim leaves [
    | inl makes ↦ subst (λ stop. Contains (block_at net block).serves (stop_or request.destination stop)) (sym makes.1) makes.2
    | inr arrives ↦
        let all = arrives.0 in
        let none : slice_get request.stops made ≡ None = slice_get_past request.stops made (omega (arith, all)) in
        subst (λ stop. Contains (block_at net block).serves (stop_or request.destination stop)) (sym none) arrives.1
  ]

-- ---- strides and moves

module _ (net : Network) (request : Request) where
  reaches_next : (tail : List ℕ) (block : Block) → (tail ≡ [] → ⊥) → MayComeNext net tail block → Reaches net request tail block
  reaches_next [] block gone next = absurd (gone refl)
  reaches_next (first ∷ tail) block gone next = next

  comes_next : (tail : List ℕ) (block : Block) → Reaches net request tail block → MayComeNext net tail block
  comes_next [] block reaches = none_contained block.serves request.origin reaches
  comes_next (first ∷ tail) block reaches = reaches

  -- a move of the request is a stride, whatever stops are made
  stride_of : (spot : Place) (made : ℕ) (step : Step) → IsMove net request (with_made spot made) step → IsStride net spot step
  stride_of spot made step move = record {
    within = move.within;
    follows = comes_next spot.tail (block_at net step.block) move.reaches;
    halts = λ is. none_contained (block_at net step.block).serves (next_stop request made)
        (halts_where_served net request made step.block (subst (MayLeave request made (block_at net step.block)) is move.leaves));
  }

-- ---- from one spot

-- a way onto a block that the train may reach, and the spot that it leads to
pub record IsOnward (net : Network) (request : Request) (spots : List Place) (spot : Place) (way : Way) : Type 0 where
  pub within : way.step.block < length net.blocks
  pub reaches : Reaches net request spot.tail (block_at net way.step.block)
  pub leads : slice_get spots way.next ≡ Some (spot_after net request.train spot way.step)

module _ (net : Network) (settings : Settings) (request : Request) (spots : List Place) (calls : List ChartCall) (are : AreCalls net request calls) where
  abbrev levels : ℕ
  levels = length calls

  abbrev members : List Place
  members = members_along spots levels

  module _ (spot : Place) (made : ℕ) (less : made < levels) where
    most : made ≤ length request.stops
    most = let is = are.count in omega (arith, is, less)

    module _ (block next : ℕ) where
      abbrev way_by : Edge → Way
      way_by exit = record { step = record { block = block; exit = exit }; next = next }

      -- where the train rolls on
      rolls_on : IsOnward net request spots spot (way_by Rolling) → IsListedMove net request members (with_made spot made) (listed_move levels made (way_in net settings request.train spot (way_by Rolling)))
      rolls_on on = record {
        allowed = record { within = on.within; reaches = on.reaches; leaves = tt };
        leads = (λ end. absurd (let no : Rolling ≡ Halted = end.0 in cc), member_at spots levels next made (spot_after net request.train spot (way_by Rolling).step) less on.leads);
      }

      -- where it halts, by whether the path ends
      halts_there : IsOnward net request spots spot (way_by Halted) → (ends : Bool) → nat_le levels (made + 1) ≡ ends
          → LeadsTo net request members (with_made spot made) (way_by Halted).step (if ends then Ends else At (next * levels + (made + 1)))
      halts_there on true is =
          let past = leb-true levels (made + 1) is in let count = are.count in
          (refl, omega (arith, past, count, less))
      halts_there on false is =
          let more : made + 1 < levels = leb-false levels (made + 1) is in
          (λ end. absurd (let all = end.1 in let count = are.count in omega (arith, all, count, more)), member_at spots levels next (made + 1) (spot_after net request.train spot (way_by Halted).step) more on.leads)

      listed_by : (exit : Edge) → IsOnward net request spots spot (way_by exit) → is_open (call_at calls made) (way_in net settings request.train spot (way_by exit)) ≡ true
          → IsListedMove net request members (with_made spot made) (listed_move levels made (way_in net settings request.train spot (way_by exit)))
      listed_by Rolling on opens = rolls_on on
      listed_by Halted on opens = record {
        allowed = record { within = on.within; reaches = on.reaches; leaves = may_halt net request made block most ((are.halts made block less on.within).0 opens) };
        leads = halts_there on (nat_le levels (made + 1)) refl;
      }

      -- the way of a move is open
      opens_by : (exit : Edge) → IsMove net request (with_made spot made) (record { block = block; exit = exit }) → is_open (call_at calls made) (way_in net settings request.train spot (way_by exit)) ≡ true
      opens_by Rolling move = refl
      opens_by Halted move = (are.halts made block less move.within).1 (halts_where_served net request made block move.leaves)

    module _ (own : List Way) (onward : All (IsOnward net request spots spot) own) (whole : (step : Step) → IsMove net request (with_made spot made) step → HasWay own step) where
      abbrev charted : List ChartWay
      charted = map (way_in net settings request.train spot) own

      abbrev IsListed : ChartWay → Type 0
      IsListed way = IsListedMove net request members (with_made spot made) (listed_move levels made way)

      abbrev WhereOpen : ChartWay → Type 0
      WhereOpen way = is_open (call_at calls made) way ≡ true → IsListed way

      all_listed : All IsListed (open_among (call_at calls made) charted)
      all_listed = λ k one within.
          All-filter (is_open (call_at calls made)) WhereOpen charted
          (All-map WhereOpen (way_in net settings request.train spot) own (λ i way inside. listed_by (get_or own i way).step.block (get_or own i way).next (get_or own i way).step.exit (onward i way inside)))
          k one within
          (filter_passes (is_open (call_at calls made)) charted k one within)

      has_step : (step : Step) → IsMove net request (with_made spot made) step → HasStep (listed_moves calls made charted) step
      has_step step move =
          let has = whole step move in
          let way : Way = record { step = step; next = has.0 } in
          let told : ChartWay = way_in net settings request.train spot way in
          let opens : is_open (call_at calls made) told ≡ true = opens_by step.block has.0 step.exit move in
          let among = contains_kept (is_open (call_at calls made)) charted told (contains_map (way_in net settings request.train spot) own way has.1) opens in
          let listed : Contains (listed_moves calls made charted) (listed_move levels made told) = contains_map (listed_move levels made) (open_among (call_at calls made) charted) told among in
          let same : listed_move levels made told ≡ record { step = step; next = (listed_move levels made told).next } =
          λ j. record { step = record { block = step.block; exit = exit_back step.exit j }; next = (listed_move levels made told).next } in
          ((listed_move levels made told).next, subst (Contains (listed_moves calls made charted)) same listed)

      -- exactly the moves of the request are listed
      pub moves_from : AreMovesFrom net request members (with_made spot made) (listed_moves calls made charted)
      moves_from = record { sound = All-map (IsListedMove net request members (with_made spot made)) (listed_move levels made) (open_among (call_at calls made) charted) all_listed; whole = has_step }

-- ---- over the chart

module _ (net : Network) (settings : Settings) (request : Request) (chart : TrainChart) (starts : List ChartWay) (calls : List ChartCall) (over : IsOverChart net settings request chart starts calls) where
  abbrev the_spots : List Place
  the_spots = chart.spots.spots

  abbrev the_levels : ℕ
  the_levels = length calls

  abbrev all_members : List Place
  all_members = members_along the_spots the_levels

  has_level : 0 < the_levels
  has_level = has_levels net settings request chart starts calls over

  -- the moves from the start
  from_start : AreMovesFrom net request all_members start_place (listed_moves calls 0 starts)
  from_start = subst (λ ways. AreMovesFrom net request all_members start_place (listed_moves calls 0 ways)) (sym over.starts_are.planned)
      (moves_from net settings request the_spots calls over.calls_are start_place 0 has_level over.starts_are.listed
      (λ k way within. let is = over.starts_are.sound k way within in record { within = is.begins.within; reaches = is.begins.begins; leads = is.leads })
      (λ step move. over.starts_are.whole step (record { within = move.within; begins = move.reaches })))

  onward_from : (spot : Place) → IsSpotOf net request.train spot → (way : Way) → IsWayOf net request.train the_spots spot way → IsOnward net request the_spots spot way
  onward_from spot sound way is = record {
    within = is.allowed.within;
    reaches = reaches_next net request spot.tail (block_at net way.step.block) sound.gone is.allowed.follows;
    leads = is.leads;
  }

  -- those from the place of a number
  from_number : (number : ℕ) (place : Place) (moves : List Move) → slice_get all_members number ≡ Some place
      → slice_get (listed_over chart starts calls).moves number ≡ Some moves → AreMovesFrom net request all_members place moves
  from_number number place moves at with =
      let within = numbered_within (member_along the_spots the_levels) (length the_spots * the_levels) number place at in
      let here = spot_is net settings request.train chart over.chart_is (number / the_levels) (div_below number the_levels (length the_spots) has_level within) in
      let spot = get_or the_spots (number / the_levels) start_place in
      let own = get_or chart.spots.ways (number / the_levels) [] in
      let made = number % the_levels in
      let there : with_made spot made ≡ place = sym (numbered_is (member_along the_spots the_levels) (length the_spots * the_levels) number place at) in
      let those : listed_moves calls made (map (way_in net settings request.train spot) own) ≡ moves =
      sym (numbered_is (moves_along chart.chart.spots calls) (length chart.chart.spots * the_levels) number moves with ∙ ap (λ (one : ChartSpot). listed_moves calls made one.ways) here.charted) in
      subst (λ moves. AreMovesFrom net request all_members place moves) those
      (subst (λ place. AreMovesFrom net request all_members place (listed_moves calls made (map (way_in net settings request.train spot) own))) there
      (moves_from net settings request the_spots calls over.calls_are spot made (mod_below number the_levels has_level) own
      (λ k way inside. onward_from spot here.sound (get_or own k way) (here.ways.sound k way inside))
      (λ step move. here.ways.whole step (stride_of net request spot made step move))))

  pub over_moves : AreTheMoves net request (listed_over chart starts calls)
  over_moves = record {
    starts = from_start;
    count = numbered_count (moves_along chart.chart.spots calls) (length chart.chart.spots * the_levels)
        ∙ same_count net settings request chart starts calls over ∙ sym (members_count the_spots the_levels);
    moves = from_number;
  }
