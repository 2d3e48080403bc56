-- Ways that are added while spots get their numbers.
use Rattle.std.proofs.Common.{◌≡◌, inl, inr, ◌∙◌, sym, ap, refl, subst, arith, ℕ, ◌+◌, ◌<◌, List, [], ◌∷◌, ◌++◌, length, take, get_or, Some, All, Contains, append_assoc, append-nil, length-append}
use Rattle.std.specs.Prelude.{slice_get}
use Rattle.std.proofs.lemmas.Option.{slice_get_within, slice_get-get_or}
use Rattle.std.proofs.lemmas.List.Elements.{All-nil, All-cons, All-append, Contains-append_left, Contains-append_right, Contains-append_cases, Contains-push}
use Rattle.rail_types.specs.declared.tracks.Network.{Network}
use Rattle.rail_types.specs.declared.trains.Train.{Train}
use Rattle.running_time.specs.declared.edges.Edge.{Edge}
use Rattle.running_time.specs.declared.edges.Edge.TheVariants.{Still as Halted, Rolling}
use Rattle.blocking_time.specs.Runs.{block_at}
use Rattle.stair_pieces.specs.declared.places.Place.{Place}
use Rattle.stair_pieces.specs.declared.places.Step.{Step}
use Rattle.stair_pieces.specs.Places.{start_place, head_block}
use Rattle.tail_states.specs.declared.ways.Way.{Way}
use Rattle.tail_states.specs.Following.{AreByPoint}
use Rattle.tail_states.specs.Inside.{Grows}
use Rattle.tail_states.specs.Spots.{AddsWay, AddsWays, AreBlocksBehind, AreFirstWays, AreWaysAt, AreWaysFrom, AreWaysOver, HasWay, HoldStarts, IsStride, IsWayOf, spot_after}
use Rattle.tail_states.proofs.Adding.{all_of, get_push, get_same, grows_twice, same_some, take_next}
use Rattle.tail_states.proofs.Firsts.{below, only_one}
use Rattle.tail_states.proofs.Numbers.{contains_at, get_before}

module _ (net : Network) where
  -- the blocks that begin where that of the head ends
  pub behind : (lists : List (List ℕ)) (tail blocks : List ℕ) → AreByPoint net (length net.blocks) lists → (tail ≡ [] → ⊥) → slice_get lists (block_at net (head_block tail)).to_point ≡ Some blocks → AreBlocksBehind net tail blocks
  behind lists [] blocks are gone got = absurd (gone refl)
  behind lists (first ∷ tail) blocks are gone got = record {
    sound = λ block has. are.sound (block_at net (head_block (first ∷ tail))).to_point block blocks got has;
    whole = λ block within follows. are.whole block blocks within (subst (λ point. slice_get lists point ≡ Some blocks) (sym follows) got);
  }

  -- a train may roll on over each of the blocks
  pub rolls_onto : (spot : Place) (blocks : List ℕ) → AreBlocksBehind net spot.tail blocks → (block : ℕ) → Contains blocks block → IsStride net spot (record { block = block; exit = Rolling })
  rolls_onto spot blocks are block has = let next = are.sound block has in record { within = next.0; follows = next.1; halts = λ is. absurd (cc) }

module _ (net : Network) (train : Train) (spot : Place) where
  abbrev Way_in : List Place → Way → Type 0
  Way_in spots way = IsWayOf net train spots spot way

  module _ (old new : List Place) (grows : Grows old new) where
    way_still : (way : Way) → Way_in old way → Way_in new way
    way_still way is = record { allowed = is.allowed; leads = subst (λ l. slice_get l way.next ≡ Some (spot_after net train spot way.step)) (sym grows.1) (get_before old grows.0 way.next _ is.leads) }

    all_still : (ways : List Way) → All (Way_in old) ways → All (Way_in new) ways
    all_still ways all = all_of (Way_in old) (Way_in new) way_still ways all

    pub ways_still : (ways : List Way) → AreWaysFrom net train old spot ways → AreWaysFrom net train new spot ways
    ways_still ways are = record { sound = all_still ways are.sound; whole = are.whole }

  one_has : (one : Way) (step : Step) (before after : List Way) → one.step ≡ step → HasWay (before ++ (one ∷ after)) step
  one_has one step before after same = (one.next, subst (Contains (before ++ (one ∷ after))) (λ j. record { step = same j; next = one.next }) (Contains-append_right before (one ∷ after) one (Contains-append_left (one ∷ []) after one (Contains-push [] one))))

  module _ (block : ℕ) where
    -- the train rolls on alone
    pub rolls : (spots : List Place) (old new : List Way) → AddsWay net train spots spot (record { block = block; exit = Rolling }) old new
        → ¬ ¬ ((block_at net block).serves ≡ []) → AddsWays net train spots spot block old new
    rolls spots old new (one, added, step_is, is) unserved = (
      one ∷ [],
      added,
      record {
        sound = All-cons (Way_in spots) one [] is (All-nil (Way_in spots));
        whole = go;
      },
    )
      where
        go : (exit : Edge) → IsStride net spot (record { block = block; exit = exit }) → HasWay (one ∷ []) (record { block = block; exit = exit })
        go Rolling stride = one_has one (record { block = block; exit = Rolling }) [] [] step_is
        go Halted stride = absurd (unserved (stride.halts refl))

    -- the train rolls on or halts
    pub rolls_or_halts : (some all : List Place) (old mid new : List Way) → Grows some all
        → AddsWay net train some spot (record { block = block; exit = Rolling }) old mid → AddsWay net train all spot (record { block = block; exit = Halted }) mid new
        → AddsWays net train all spot block old new
    rolls_or_halts some all old mid new grows (one, added, step_is, is) (other, added_too, other_is, is_too) = (
      one ∷ (other ∷ []),
      added_too ∙ (ap (λ l. l ++ other ∷ []) added ∙ append_assoc old (one ∷ []) (other ∷ [])),
      record {
        sound = All-cons (Way_in all) one (other ∷ []) (way_still some all grows one is) (All-cons (Way_in all) other [] is_too (All-nil (Way_in all)));
        whole = go;
      },
    )
      where
        go : (exit : Edge) → IsStride net spot (record { block = block; exit = exit }) → HasWay (one ∷ (other ∷ [])) (record { block = block; exit = exit })
        go Rolling stride = one_has one (record { block = block; exit = Rolling }) [] (other ∷ []) step_is
        go Halted stride = one_has other (record { block = block; exit = Halted }) (one ∷ []) [] other_is

  pub over_none : (spots : List Place) → AreWaysOver net train spots spot [] []
  over_none spots = record { sound = All-nil (Way_in spots); whole = λ step stride has. absurd (omega (arith, has.1)) }

  -- the ways onto one block more
  over_more : (old new : List Place) (blocks : List ℕ) (block : ℕ) (ways all : List Way) → AreWaysOver net train old spot blocks ways → Grows old new
      → AddsWays net train new spot block ways all → AreWaysOver net train new spot (blocks ++ block ∷ []) all
  over_more old new blocks block ways all over grows (more, added, onto) = record {
    sound = subst (All (Way_in new)) (sym added) (All-append (Way_in new) ways more (all_still old new grows ways over.sound) onto.sound);
    whole = λ step stride has. subst (λ l. HasWay l step) (sym added) (elim (Contains-append_cases blocks (block ∷ []) step.block has) [
      | inl before ↦ let has_it = over.whole step stride before in (has_it.0, Contains-append_left ways more _ has_it.1)
      | inr last ↦ let same = only_one block step.block last in let has_it = onto.whole step.exit (subst (λ b. IsStride net spot (record { block = b; exit = step.exit })) same stride) in (has_it.0, Contains-append_right ways more _ (subst (λ b. Contains more (record { step = record { block = b; exit = step.exit }; next = has_it.0 })) (sym same) has_it.1))
    ]);
  }

  pub over_next : (old new : List Place) (blocks : List ℕ) (at : ℕ) (ways all : List Way) → at < length blocks → AreWaysOver net train old spot (take at blocks) ways → Grows old new
      → AddsWays net train new spot (get_or blocks at 0) ways all → AreWaysOver net train new spot (take (at + 1) blocks) all
  over_next old new blocks at ways all within over grows adds = subst (λ l. AreWaysOver net train new spot l all) (sym (take_next blocks at within)) (over_more old new (take at blocks) (get_or blocks at 0) ways all over grows adds)

  pub from_over : (spots : List Place) (blocks : List ℕ) (ways : List Way) → AreBlocksBehind net spot.tail blocks → AreWaysOver net train spots spot blocks ways → AreWaysFrom net train spots spot ways
  from_over spots blocks ways next over = record { sound = over.sound; whole = λ step stride. over.whole step stride (next.whole step.block stride.within stride.follows) }

module _ (net : Network) (train : Train) where
  pub firsts_none : (spots : List Place) → AreFirstWays net train spots []
  firsts_none spots = record { count = omega arith; ways_are = λ number spot own is got. absurd (omega (arith, slice_get_within [] number own got)) }

  -- the ways from one spot more
  firsts_more : (old new : List Place) (ways : List (List Way)) (spot : Place) (own : List Way) → AreFirstWays net train old ways → slice_get old (length ways) ≡ Some spot → Grows old new
      → AreWaysFrom net train new spot own → AreFirstWays net train new (ways ++ own ∷ [])
  firsts_more old new ways spot own firsts here grows from = record {
    count = omega (arith, slice_get_within old (length ways) spot here, length-append ways (own ∷ []), ap length grows.1 ∙ length-append old grows.0);
    ways_are = λ number other its is got. elim (get_push ways own number its got) [
      | inl before ↦
          let within = slice_get_within ways number its before in
          let was = sym (get_same old grows.0 number (omega (arith, within, firsts.count))) ∙ (ap (λ l. slice_get l number) (sym grows.1) ∙ is) in
          ways_still net train other old new grows its (firsts.ways_are number other its was before)
      | inr last ↦
          let there : slice_get new (length ways) ≡ Some spot = subst (λ l. slice_get l (length ways) ≡ Some spot) (sym grows.1) (get_before old grows.0 (length ways) spot here) in
          let same : spot ≡ other = same_some (sym there ∙ (ap (slice_get new) (sym last.0) ∙ is)) in
          subst (λ p. AreWaysFrom net train new p its) same (subst (AreWaysFrom net train new spot) (sym last.1) from)
    ];
  }

  pub firsts_next : (old new : List Place) (ways : List (List Way)) (own : List Way) (number : ℕ) → AreFirstWays net train old ways → number ≡ length ways → number < length old → Grows old new
      → AreWaysAt net train old number new own → AreFirstWays net train new (ways ++ own ∷ [])
  firsts_next old new ways own number firsts is within grows from =
      let at : slice_get old number ≡ Some (get_or old number start_place) = slice_get-get_or old number start_place within in
      firsts_more old new ways (get_or old number start_place) own firsts (ap (slice_get old) (sym is) ∙ at) grows (from (get_or old number start_place) at)

  still_contains : (old new : List Place) (spot : Place) → Grows old new → Contains old spot → Contains new spot
  still_contains old new spot grows has = subst (λ l. Contains l spot) (sym grows.1) (Contains-append_left old grows.0 spot has)

  starts_cases : (block : ℕ) (old new : List Place) → HoldStarts net train block old → Grows old new
      → ((exit : Edge) → IsStride net start_place (record { block = block; exit = exit }) → Contains new (spot_after net train start_place (record { block = block; exit = exit })))
      → HoldStarts net train (block + 1) new
  starts_cases block old new holds grows last step less stride = elim (below step.block block less) [
    | inl early ↦ still_contains old new _ grows (holds step early stride)
    | inr same ↦ subst (λ b. Contains new (spot_after net train start_place (record { block = b; exit = step.exit }))) (sym same) (last step.exit (subst (λ b. IsStride net start_place (record { block = b; exit = step.exit })) same stride))
  ]

  -- no path begins on the block
  pub starts_on : (block : ℕ) (spots : List Place) → HoldStarts net train block spots → ¬ ¬ ((block_at net block).serves ≡ []) → HoldStarts net train (block + 1) spots
  starts_on block spots holds unserved = starts_cases block spots spots holds ([], sym (append-nil spots)) (λ exit stride. absurd (unserved stride.follows))

  -- a path may begin on the block
  pub starts_more : (block : ℕ) (old mid new : List Place) (rolled halted : ℕ) → HoldStarts net train block old → Grows old mid → Grows mid new
      → slice_get mid rolled ≡ Some (spot_after net train start_place (record { block = block; exit = Rolling }))
      → slice_get new halted ≡ Some (spot_after net train start_place (record { block = block; exit = Halted }))
      → HoldStarts net train (block + 1) new
  starts_more block old mid new rolled halted holds grows grows_too at_rolled at_halted = starts_cases block old new holds (grows_twice old mid new grows grows_too) go
    where
      go : (exit : Edge) → IsStride net start_place (record { block = block; exit = exit }) → Contains new (spot_after net train start_place (record { block = block; exit = exit }))
      go Rolling stride = still_contains mid new _ grows_too (contains_at mid rolled _ at_rolled)
      go Halted stride = contains_at new halted _ at_halted
