-- Moves that are added while places get their numbers.
use Rattle.std.proofs.Common.{◌≡◌, ◌⊎◌, inl, inr, ◌∙◌, sym, ap, refl, subst, arith, ℕ, zero, suc, ◌+◌, ◌<◌, ◌≤◌, List, [], ◌∷◌, ◌++◌, length, take, get_or, add-one, Some, All, Contains, append_assoc, length-append}
use Rattle.std.specs.Prelude.{slice_get}
use Rattle.std.proofs.lemmas.Option.{slice_get_within, slice_get-get_or}
use Rattle.std.proofs.lemmas.List.Elements.{All-nil, All-cons, All-append, All-contains, Contains-append_left, Contains-append_right, Contains-append_cases, Contains-push}
use Rattle.std.proofs.Math.Seq.{take-suc}
use Rattle.rail_types.specs.declared.tracks.Network.{Network}
use Rattle.rail_types.specs.declared.trains.Request.{Request}
use Rattle.running_time.specs.declared.edges.Edge.{Edge}
use Rattle.running_time.specs.declared.edges.Edge.TheVariants.{Still as Halted, Rolling}
use Rattle.blocking_time.specs.Runs.{block_at}
use Rattle.stair_pieces.specs.declared.places.Place.{Place}
use Rattle.stair_pieces.specs.declared.places.Step.{Step}
use Rattle.stair_pieces.specs.Places.{start_place, place_after}
use Rattle.stair_pieces.specs.Moves.{IsMove, IsEnd, IsPlace, begun, gone_on, MayLeave}
use Rattle.tail_states.specs.declared.certificates.Member.{Member}
use Rattle.tail_states.specs.declared.moves.Move.{Move}
use Rattle.tail_states.specs.declared.moves.Next.{Next}
use Rattle.tail_states.specs.declared.moves.Next.TheVariants.{End, At}
use Rattle.tail_states.specs.Listed.{LeadsTo, IsListedMove, HasStep, AreMovesFrom, AreThePlaces, AreTheMoves, AreSomePlaces, HaveWantedMoves, Interns, IsWanted}
use Rattle.tail_states.specs.Inside.{AreFound, Grows, AddsMove, AddsMoves, AreMovesOver, AreNextBlocks, AreFirstMoves, AreWantedAmong, IsAnyPlace}
use Rattle.tail_states.proofs.Numbers.{get_before, contains_at}

pub grows_twice : (a b c : List Place) → Grows a b → Grows b c → Grows a c
grows_twice a b c (x, is_b) (y, is_c) = (x ++ y, is_c ∙ (ap (λ l. l ++ y) is_b ∙ append_assoc a x y))

pub all_of : {X : Type 0} (P Q : X → Type 0) → ((x : X) → P x → Q x) → (xs : List X) → All P xs → All Q xs
all_of P Q f xs all = λ k d within. f _ (all k d within)

pub take_next : (xs : List ℕ) (at : ℕ) → at < length xs → take (at + 1) xs ≡ take at xs ++ get_or xs at 0 ∷ []
take_next xs at within = rw add-one (take-suc xs at 0 within)

pub take_whole : (xs : List ℕ) (at : ℕ) → length xs ≤ at → take at xs ≡ xs
take_whole [] zero past = refl
take_whole [] (suc at) past = refl
take_whole (x ∷ xs) zero past = absurd (omega arith)
take_whole (x ∷ xs) (suc at) past = ap (λ l. x ∷ l) (take_whole xs at (omega arith))

module _ (net : Network) (request : Request) (place : Place) where
  abbrev Listed_in : List Place → Move → Type 0
  Listed_in members one = IsListedMove net request members place one

  module _ (old new : List Place) (grows : Grows old new) where
    leads_still : (step : Step) (next : Next) → LeadsTo net request old place step next → LeadsTo net request new place step next
    leads_still step End leads = leads
    leads_still step (At number) leads = (leads.0, subst (λ l. slice_get l number ≡ Some (place_after net request.train place step)) (sym grows.1) (get_before old grows.0 number _ leads.1))

    listed_still : (one : Move) → Listed_in old one → Listed_in new one
    listed_still one listed = record { allowed = listed.allowed; leads = leads_still one.step one.next listed.leads }

    all_still : (moves : List Move) → All (Listed_in old) moves → All (Listed_in new) moves
    all_still moves all = all_of (Listed_in old) (Listed_in new) listed_still moves all

    pub moves_still : (moves : List Move) → AreMovesFrom net request old place moves → AreMovesFrom net request new place moves
    moves_still moves are = record { sound = all_still moves are.sound; whole = are.whole }

  one_has : (one : Move) (step : Step) (before after : List Move) → one.step ≡ step → HasStep (before ++ (one ∷ after)) step
  one_has one step before after same = (one.next, subst (Contains (before ++ (one ∷ after))) (λ j. record { step = same j; next = one.next }) (Contains-append_right before (one ∷ after) one (Contains-append_left (one ∷ []) after one (Contains-push [] one))))

  module _ (block : ℕ) where
    -- the train rolls on alone
    pub rolls : (members : List Place) (old new : List Move) → AddsMove net request members place (record { block = block; exit = Rolling }) old new
        → ¬ MayLeave request place.made (block_at net block) Halted → AddsMoves net request members place block old new
    rolls members old new (one, added, step_is, listed) never = (
      one ∷ [],
      added,
      record {
        sound = All-cons (Listed_in members) one [] listed (All-nil (Listed_in members));
        whole = go;
      },
    )
      where
        go : (exit : Edge) → IsMove net request place (record { block = block; exit = exit }) → HasStep (one ∷ []) (record { block = block; exit = exit })
        go Rolling move = one_has one (record { block = block; exit = Rolling }) [] [] step_is
        go Halted move = absurd (never move.leaves)

    -- the train rolls on or stops
    pub rolls_or_halts : (some all : List Place) (old mid new : List Move) → Grows some all
        → AddsMove net request some place (record { block = block; exit = Rolling }) old mid → AddsMove net request all place (record { block = block; exit = Halted }) mid new
        → AddsMoves net request all place block old new
    rolls_or_halts some all old mid new grows (one, added, step_is, listed) (other, added_too, other_is, other_listed) = (
      one ∷ (other ∷ []),
      added_too ∙ (ap (λ l. l ++ other ∷ []) added ∙ append_assoc old (one ∷ []) (other ∷ [])),
      record {
        sound = All-cons (Listed_in all) one (other ∷ []) (listed_still some all grows one listed) (All-cons (Listed_in all) other [] other_listed (All-nil (Listed_in all)));
        whole = go;
      },
    )
      where
        go : (exit : Edge) → IsMove net request place (record { block = block; exit = exit }) → HasStep (one ∷ (other ∷ [])) (record { block = block; exit = exit })
        go Rolling move = one_has one (record { block = block; exit = Rolling }) [] (other ∷ []) step_is
        go Halted move = one_has other (record { block = block; exit = Halted }) (one ∷ []) [] other_is

  pub over_none : (members : List Place) → AreMovesOver net request members place [] []
  over_none members = record { sound = All-nil (Listed_in members); whole = λ step move has. absurd (omega (arith, has.1)) }

  -- the moves onto one block more
  pub over_more : (old new : List Place) (blocks : List ℕ) (block : ℕ) (moves all : List Move) → AreMovesOver net request old place blocks moves → Grows old new
      → AddsMoves net request new place block moves all → AreMovesOver net request new place (blocks ++ block ∷ []) all
  over_more old new blocks block moves all over grows (more, added, onto) = record {
    sound = subst (All (Listed_in new)) (sym added) (All-append (Listed_in new) moves more (all_still old new grows moves over.sound) onto.sound);
    whole = λ step move has. subst (λ l. HasStep l step) (sym added) (elim (Contains-append_cases blocks (block ∷ []) step.block has) [
      | inl before ↦ let has_it = over.whole step move before in (has_it.0, Contains-append_left moves more _ has_it.1)
      | inr last ↦ let same = only block step.block last in let has_it = onto.whole step.exit (subst (λ b. IsMove net request place (record { block = b; exit = step.exit })) same move) in (has_it.0, Contains-append_right moves more _ (subst (λ b. Contains more (record { step = record { block = b; exit = step.exit }; next = has_it.0 })) (sym same) has_it.1))
    ]);
  }
    where
      only : (a b : ℕ) → Contains (a ∷ []) b → b ≡ a
      only a b (zero, within, is) = sym is
      only a b (suc k, within, is) = absurd (omega arith)

  pub over_next : (old new : List Place) (blocks : List ℕ) (at : ℕ) (moves all : List Move) → at < length blocks → AreMovesOver net request old place (take at blocks) moves → Grows old new
      → AddsMoves net request new place (get_or blocks at 0) moves all → AreMovesOver net request new place (take (at + 1) blocks) all
  over_next old new blocks at moves all within over grows adds = subst (λ l. AreMovesOver net request new place l all) (sym (take_next blocks at within)) (over_more old new (take at blocks) (get_or blocks at 0) moves all over grows adds)

  pub from_over : (members : List Place) (blocks : List ℕ) (moves : List Move) → AreNextBlocks net request place.tail blocks → AreMovesOver net request members place blocks moves → AreMovesFrom net request members place moves
  from_over members blocks moves next over = record { sound = over.sound; whole = λ step move. over.whole step move (next.whole step.block move.within move.reaches) }

pub get_push : {X : Type 0} (xs : List X) (y : X) (i : ℕ) (x : X) → slice_get (xs ++ y ∷ []) i ≡ Some x → (slice_get xs i ≡ Some x) ⊎ ((i ≡ length xs) × (x ≡ y))
get_push [] y zero x got = inr (refl, cc)
get_push [] y (suc i) x got = absurd (cc)
get_push (first ∷ xs) y zero x got = inl got
get_push (first ∷ xs) y (suc i) x got = elim (get_push xs y i x got) [ inl before ↦ inl before | inr last ↦ inr (ap suc last.0, last.1) ]

pub get_same : {X : Type 0} (xs ys : List X) (i : ℕ) → i < length xs → slice_get (xs ++ ys) i ≡ slice_get xs i
get_same [] ys i within = absurd (omega (arith, within))
get_same (first ∷ xs) ys zero within = refl
get_same (first ∷ xs) ys (suc i) within = get_same xs ys i (omega arith)

pub same_some : {X : Type 0} {x y : X} → Some x ≡ Some y → x ≡ y
same_some is = cc

pub has_number : {X : Type 0} (xs : List X) (x : X) → Contains xs x → (number : ℕ) × (number < length xs) × (slice_get xs number ≡ Some x)
has_number xs x (k, within, is) = (k, within, slice_get-get_or xs k x within ∙ ap Some is)

module _ (net : Network) (request : Request) where
  pub firsts_none : (IsListed : Place → Type 0) (members : List Place) → AreFirstMoves net request IsListed members []
  firsts_none IsListed members = record { count = omega arith; moves_are = λ number place own listed is got. absurd (omega (arith, slice_get_within [] number own got)) }

  -- the moves from one place more
  pub firsts_more : (IsListed : Place → Type 0) (old new : List Place) (moves : List (List Move)) (place : Place) (own : List Move) → AreFirstMoves net request IsListed old moves → slice_get old (length moves) ≡ Some place → Grows old new
      → (IsListed place → AreMovesFrom net request new place own) → AreFirstMoves net request IsListed new (moves ++ own ∷ [])
  firsts_more IsListed old new moves place own firsts here grows from = record {
    count = omega (arith, slice_get_within old (length moves) place here, length-append moves (own ∷ []), ap length grows.1 ∙ length-append old grows.0);
    moves_are = λ number other its listed is got. elim (get_push moves own number its got) [
      | inl before ↦
          let within = slice_get_within moves number its before in
          let was = sym (get_same old grows.0 number (omega (arith, within, firsts.count))) ∙ (ap (λ l. slice_get l number) (sym grows.1) ∙ is) in
          moves_still net request other old new grows its (firsts.moves_are number other its listed was before)
      | inr last ↦
          let there : slice_get new (length moves) ≡ Some place = subst (λ l. slice_get l (length moves) ≡ Some place) (sym grows.1) (get_before old grows.0 (length moves) place here) in
          let same : place ≡ other = same_some (sym there ∙ (ap (slice_get new) (sym last.0) ∙ is)) in
          subst (λ p. AreMovesFrom net request new p its) same (subst (AreMovesFrom net request new place) (sym last.1) (from (subst IsListed (sym same) listed)))
    ];
  }

  pub firsts_next : (IsListed : Place → Type 0) (old new : List Place) (moves : List (List Move)) (own : List Move) (number : ℕ) → AreFirstMoves net request IsListed old moves → number ≡ length moves → number < length old → Grows old new
      → ((place : Place) → IsListed place → slice_get old number ≡ Some place → AreMovesFrom net request new place own) → AreFirstMoves net request IsListed new (moves ++ own ∷ [])
  firsts_next IsListed old new moves own number firsts is within grows from =
      let at : slice_get old number ≡ Some (get_or old number start_place) = slice_get-get_or old number start_place within in
      firsts_more IsListed old new moves (get_or old number start_place) own firsts (ap (slice_get old) (sym is) ∙ at) grows (λ listed. from (get_or old number start_place) listed at)

  module _ (members : List Place) (starts : List Move) (moves : List (List Move)) (from_start : AreMovesFrom net request members start_place starts)
      (firsts : AreFirstMoves net request IsAnyPlace members moves) (all : length members ≤ length moves) where
    leads_in : (place : Place) (own : List Move) (step : Step) → AreMovesFrom net request members place own → IsMove net request place step → ¬ IsEnd request place step → Contains members (place_after net request.train place step)
    leads_in place own step from move no_end =
        let has = from.whole step move in
        let listed = All-contains (IsListedMove net request members place) own (record { step = step; next = has.0 }) from.sound has.1 in
        go has.0 listed.leads
      where
        go : (next : Next) → LeadsTo net request members place step next → Contains members (place_after net request.train place step)
        go End end = absurd (no_end end)
        go (At number) at = contains_at members number _ at.1

    pub in_members : (place : Place) → IsPlace net request place → Contains members place
    in_members place (begun step move no_end) = leads_in start_place starts step from_start move no_end
    in_members place (gone_on before step among move no_end) =
        let at = has_number members before (in_members before among) in
        let own = get_or moves at.0 [] in
        let got : slice_get moves at.0 ≡ Some (get_or moves at.0 []) = slice_get-get_or moves at.0 [] (omega (arith, at.1, all)) in
        leads_in before own step (firsts.moves_are at.0 before own tt at.2 got) move no_end

    pub the_places : AreFound net request members → AreThePlaces net request members
    the_places found = record { sound = found.sound; whole = in_members; distinct = found.distinct }

    pub the_moves : AreTheMoves net request (record { members = members; starts = starts; moves = moves })
    the_moves = record { starts = from_start; count = omega (arith, all, firsts.count); moves = λ number place own is got. firsts.moves_are number place own tt is got }

-- what is listed of places that are wanted
module _ (net : Network) (request : Request) where
  pub some_places : (members : List Place) → AreFound net request members → AreSomePlaces net request members
  some_places members found = record { sound = found.sound; distinct = found.distinct }

  among_wanted : (wanted : List Member) (places : List Place) → AreWantedAmong wanted places → (place : Place) → IsWanted wanted place → Contains places place
  among_wanted wanted places all place (k, member, within, is, at) = subst (Contains places) (ap (λ (m : Member). m.place) is ∙ at) (all k member within)

  pub wanted_moves : (wanted : List Member) (places members : List Place) (starts : List Move) (moves : List (List Move)) → AreWantedAmong wanted places → AreMovesFrom net request members start_place starts
      → AreFirstMoves net request (Contains places) members moves → length members ≤ length moves → HaveWantedMoves net request wanted (record { members = members; starts = starts; moves = moves })
  wanted_moves wanted places members starts moves among from_start firsts all = record {
    starts = from_start;
    count = omega (arith, all, firsts.count);
    moves = λ number place own is at got. firsts.moves_are number place own (among_wanted wanted places among place is) at got;
  }

-- a place stays among those that are interned
pub interned_still : (old new : List Place) (more place : Place) → Interns old new more → Contains old place → Contains new place
interned_still old new more place (inl same) has = subst (λ l. Contains l place) (sym same) has
interned_still old new more place (inr added) has = subst (λ l. Contains l place) (sym added) (Contains-append_left old (more ∷ []) place has)
