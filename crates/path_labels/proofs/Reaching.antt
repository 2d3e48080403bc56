-- Of places that are listed with exactly the moves of a request from each, those that moves lead to from the start are its places.
use Rattle.std.proofs.Common.{◌≡◌, ◌≢◌, ◌∙◌, inl, inr, refl, true≢false, sym, ap, subst, arith, ℕ, zero, suc, ◌+◌, ◌<◌, ◌≤◌, Bool, true, false, List, [], ◌∷◌, ◌++◌, length, map, get_or, All, Contains, Some, nat_lt, append-nil, append_assoc, if◌then◌else◌}
use Rattle.std.specs.Prelude.{option_map, slice_get}
use Rattle.std.proofs.lemmas.Bool.{cases_lt, ltb-false, ltb-true}
use Rattle.std.proofs.lemmas.List.{get_or-map, length-map}
use Rattle.std.proofs.lemmas.List.Elements.{All-append, All-cons, All-contains, All-head, All-map, All-nil, All-tail, Contains-append_left, Contains-get_or, Contains-push}
use Rattle.std.proofs.lemmas.List.Quantifiers.{all_pairs_push}
use Rattle.std.proofs.lemmas.Option.{get_or_from_slice_get, same_Some, slice_get-get_or, slice_get-map, slice_get_within}
use Rattle.rail_types.specs.declared.limits.TheConstants.{MAX_PLACES}
use Rattle.rail_types.specs.declared.tracks.Network.{Network}
use Rattle.rail_types.specs.declared.trains.Request.{Request}
use Rattle.stair_pieces.specs.declared.places.Place.{Place}
use Rattle.stair_pieces.specs.declared.places.Step.{Step}
use Rattle.stair_pieces.specs.Alike.{same_place, same_place-Decides}
use Rattle.stair_pieces.specs.Moves.{IsEnd, IsMove, IsPlace, begun, gone_on}
use Rattle.stair_pieces.specs.Places.{place_after, start_place}
use Rattle.tail_states.specs.declared.moves.Move.{Move}
use Rattle.tail_states.specs.declared.moves.Next.{Next}
use Rattle.tail_states.specs.declared.moves.Next.TheVariants.{End, At}
use Rattle.tail_states.specs.Listed.{AreMovesFrom, AreTheMoves, AreThePlaces, HasMoreThan, HasNoneTwice, IsListedMove, LeadsTo, Listed}
use Rattle.tail_states.proofs.Numbers.{all_fail, contains_at, get_before, passes_at}
use Rattle.path_labels.proofs.Reached.{all_reached, grown_from, moves_at, next_among, next_over, number_among, reached_of, renumbered, with_led, with_next, with_place}
use Rattle.path_labels.proofs.Narrow.{no_longer}
use Rattle.path_labels.proofs.Walking.{contains_map}

-- ---- the number of a place among places

is_at : (places : List Place) (place : Place) → number_among places place < length places → slice_get places (number_among places place) ≡ Some place
is_at places place less =
    let there = passes_at (same_place place) places less in
    there.1 ∙ ap Some (sym ((same_place-Decides place there.0).0 there.2))

is_among : (places : List Place) (place : Place) → Contains places place → number_among places place < length places
is_among places place has = elim (cases_lt (number_among places place) (length places)) [
  | inl less ↦ less
  | inr past ↦
      let fails = All-contains (λ key. same_place place key ≡ false) places place (all_fail (same_place place) places past) has in
      absurd (true≢false (sym ((same_place-Decides place place).1 refl) ∙ fails))
]

-- ---- some are put behind the others

abbrev Grows : List Place → List Place → Type 0
Grows old new = (more : List Place) × (new ≡ old ++ more)

stays : (places : List Place) → Grows places places
stays places = ([], sym (append-nil places))

grows_on : (first second third : List Place) → Grows first second → Grows second third → Grows first third
grows_on first second third (more, put) (rest, on) =
    (more ++ rest, on ∙ ap (λ (places : List Place). places ++ rest) put ∙ append_assoc first more rest)

still_contains : (old new : List Place) → Grows old new → (place : Place) → Contains old place → Contains new place
still_contains old new (more, put) place has = subst (λ (places : List Place). Contains places place) (sym put) (Contains-append_left old more place has)

-- those that stood there stand there still
stood_there : (old new : List Place) → Grows old new → (k : ℕ) (place : Place) → k < length old → slice_get new k ≡ Some place → slice_get old k ≡ Some place
stood_there old new (more, put) k place less is =
    let here : slice_get old k ≡ Some (get_or old k start_place) = slice_get-get_or old k start_place less in
    let there : slice_get new k ≡ Some (get_or old k start_place) =
    subst (λ (places : List Place). slice_get places k ≡ Some (get_or old k start_place)) (sym put) (get_before old more k (get_or old k start_place) here) in
    here ∙ sym there ∙ is

module _ (net : Network) (request : Request) (listed : Listed) (are : AreTheMoves net request listed) where
  abbrev members : List Place
  members = listed.members

  abbrev led : ℕ → Place
  led number = get_or members number start_place

  -- ---- places of the request, each once, which are listed

  pub record AreSome (places : List Place) : Type 0 where
    pub sound : All (IsPlace net request) places
    pub among : All (Contains members) places
    pub distinct : HasNoneTwice places

  none : AreSome []
  none = record {
    sound = All-nil (IsPlace net request);
    among = All-nil (Contains members);
    distinct = λ i j d before within. absurd (omega (arith, within));
  }

  are_few : (places : List Place) → AreSome places → length places ≤ length members
  are_few places some = no_longer members places some.distinct some.among

  -- what a move leads to is one of the places; is a place of the request that is listed
  abbrev IsHeldNext : List Place → Next → Type 0
  IsHeldNext places next = (number : ℕ) → next ≡ At number → Contains places (led number)

  abbrev AreHeld : List Place → List Move → Type 0
  AreHeld places moves = All (λ (one : Move). IsHeldNext places one.next) moves

  abbrev IsSoundNext : Next → Type 0
  IsSoundNext next = (number : ℕ) → next ≡ At number → IsPlace net request (led number) × Contains members (led number)

  abbrev AreSound : List Move → Type 0
  AreSound moves = All (λ (one : Move). IsSoundNext one.next) moves

  held_next_still : (old new : List Place) → Grows old new → (next : Next) → IsHeldNext old next → IsHeldNext new next
  held_next_still old new grows next held number is = still_contains old new grows (led number) (held number is)

  held_still : (old new : List Place) → Grows old new → (moves : List Move) → AreHeld old moves → AreHeld new moves
  held_still old new grows moves held k one inside = held_next_still old new grows (get_or moves k one).next (held k one inside)

  -- ---- what moves lead to is put behind the others

  pub record HasPut (old : List Place) (place : Place) (new : List Place) : Type 0 where
    pub grows : Grows old new
    pub some : AreSome new
    pub has : Contains new place

  put_place : (places : List Place) → AreSome places → (place : Place) → IsPlace net request place → Contains members place → HasPut places place (with_place places place)
  put_place places some place is among = go (nat_lt (number_among places place) (length places)) refl
    where
      go : (old : Bool) → nat_lt (number_among places place) (length places) ≡ old → HasPut places place (if old then places else places ++ place ∷ [])
      go true old = record {
        grows = stays places;
        some = some;
        has = contains_at places (number_among places place) place (is_at places place (ltb-true (number_among places place) (length places) old));
      }
      go false new =
          let past : length places ≤ number_among places place = ltb-false (number_among places place) (length places) new in
          let absent : ¬ Contains places place = λ has. (let less = is_among places place has in absurd (omega (arith, less, past))) in
          record {
            grows = (place ∷ [], refl);
            some = record {
              sound = All-append (IsPlace net request) places (place ∷ []) some.sound (All-cons (IsPlace net request) place [] is (All-nil (IsPlace net request)));
              among = All-append (Contains members) places (place ∷ []) some.among (All-cons (Contains members) place [] among (All-nil (Contains members)));
              distinct = all_pairs_push (λ (one other : Place). one ≢ other) places place some.distinct
                  (λ k d less same. absent (subst (Contains places) same (Contains-get_or places k d less)));
            };
            has = Contains-push places place;
          }

  pub record HasPutNext (old : List Place) (next : Next) (new : List Place) : Type 0 where
    pub grows : Grows old new
    pub some : AreSome new
    pub held : IsHeldNext new next

  put_next : (places : List Place) → AreSome places → (next : Next) → IsSoundNext next → HasPutNext places next (with_next members places next)
  put_next places some End sound = record {
    grows = stays places;
    some = some;
    held = λ number is. absurd (let no : End ≡ At number = is in cc);
  }
  put_next places some (At to) sound =
      let both = sound to refl in
      let put = put_place places some (led to) both.0 both.1 in
      record {
        grows = put.grows;
        some = put.some;
        held = λ number is. (let same : to ≡ number = let one : At to ≡ At number = is in cc in
            subst (λ n. Contains (with_place places (led to)) (led n)) same put.has);
      }

  pub record HavePut (old : List Place) (moves : List Move) (new : List Place) : Type 0 where
    pub grows : Grows old new
    pub some : AreSome new
    pub held : AreHeld new moves

  put_led : (moves : List Move) (places : List Place) → AreSome places → AreSound moves → HavePut places moves (with_led members places moves)
  put_led [] places some sound = record { grows = stays places; some = some; held = All-nil (λ (one : Move). IsHeldNext places one.next) }
  put_led (one ∷ moves) places some sound =
      let first = put_next places some one.next (All-head (λ (m : Move). IsSoundNext m.next) one moves sound) in
      let mid = with_next members places one.next in
      let rest = put_led moves mid first.some (All-tail (λ (m : Move). IsSoundNext m.next) one moves sound) in
      let new = with_led members mid moves in
      record {
        grows = grows_on places mid new first.grows rest.grows;
        some = rest.some;
        held = All-cons (λ (m : Move). IsHeldNext new m.next) one moves (held_next_still mid new rest.grows one.next first.held) rest.held;
      }

  -- ---- the moves from a place

  moves_from : (place : Place) → Contains members place → AreMovesFrom net request members place (moves_at listed place)
  moves_from place has =
      let less = is_among members place has in
      let also : number_among members place < length listed.moves = let count = are.count in omega (arith, less, count) in
      are.moves (number_among members place) place (moves_at listed place) (is_at members place less) (slice_get-get_or listed.moves (number_among members place) [] also)

  sound_from : (place : Place) (moves : List Move) → AreMovesFrom net request members place moves
      → ((step : Step) → IsMove net request place step → ¬ IsEnd request place step → IsPlace net request (place_after net request.train place step)) → AreSound moves
  sound_from place moves from goes k one inside number is =
      let this = from.sound k one inside in
      let step = (get_or moves k one).step in
      let after = place_after net request.train place step in
      let leads : LeadsTo net request members place step (At number) = subst (LeadsTo net request members place step) is this.leads in
      let there : led number ≡ after = get_or_from_slice_get members number after start_place leads.1 in
      (subst (IsPlace net request) (sym there) (goes step this.allowed leads.0), subst (Contains members) (sym there) (contains_at members number after leads.1))

  -- ---- from place to place

  abbrev AreClosedTo : ℕ → List Place → Type 0
  AreClosedTo at places = (k : ℕ) (place : Place) → k < at → slice_get places k ≡ Some place → AreHeld places (moves_at listed place)

  pub record HaveGrown (old new : List Place) : Type 0 where
    pub grows : Grows old new
    pub some : AreSome new
    pub closed : (k : ℕ) (place : Place) → slice_get new k ≡ Some place → AreHeld new (moves_at listed place)

  module _ (at : ℕ) (places : List Place) (some : AreSome places) (less : at < length places) where
    abbrev the_place : Place
    the_place = get_or places at start_place

    one_more : HavePut places (moves_at listed the_place) (next_over listed at places)
    one_more = put_led (moves_at listed the_place) places some
        (sound_from the_place (moves_at listed the_place) (moves_from the_place (some.among at start_place less))
        (λ step move goes_on. gone_on the_place step (some.sound at start_place less) move goes_on))

    closed_more : AreClosedTo at places → AreClosedTo (at + 1) (next_over listed at places)
    closed_more closed k place below is = elim (cases_lt k at) [
      | inl early ↦
          held_still places (next_over listed at places) one_more.grows (moves_at listed place)
          (closed k place early (stood_there places (next_over listed at places) one_more.grows k place (omega (arith, early, less)) is))
      | inr late ↦
          let last : k ≡ at = omega (arith, below, late) in
          let there : slice_get places k ≡ Some place = stood_there places (next_over listed at places) one_more.grows k place (omega (arith, last, less)) is in
          let same : the_place ≡ place = ap (λ n. get_or places n start_place) (sym last) ∙ get_or_from_slice_get places k place start_place there in
          subst (λ p. AreHeld (next_over listed at places) (moves_at listed p)) same one_more.held
    ]

  ended : (at : ℕ) (places : List Place) → AreSome places → AreClosedTo at places → length places ≤ at → HaveGrown places places
  ended at places some closed past = record {
    grows = stays places;
    some = some;
    closed = λ k place is. (let within = slice_get_within places k place is in closed k place (omega (arith, within, past)) is);
  }

  further : (first second third : List Place) → Grows first second → HaveGrown second third → HaveGrown first third
  further first second third grows grown = record { grows = grows_on first second third grows grown.grows; some = grown.some; closed = grown.closed }

  all_grown : (left at : ℕ) (places : List Place) → left + at ≡ length members → AreSome places → AreClosedTo at places → HaveGrown places (grown_from listed left at places)
  all_grown zero at places count some closed = ended at places some closed (let few = are_few places some in omega (arith, few, count))
  all_grown (suc left) at places count some closed =
      go (nat_lt at (length places)) refl
      (λ less. all_grown left (at + 1) (next_over listed at places) (omega (arith, count)) (one_more at places some less).some (closed_more at places some less closed))
    where
      go : (more : Bool) → nat_lt at (length places) ≡ more
          → ((less : at < length places) → HaveGrown (next_over listed at places) (grown_from listed left (at + 1) (next_over listed at places)))
          → HaveGrown places (if more then grown_from listed left (at + 1) (next_over listed at places) else places)
      go true is again =
          let less = ltb-true at (length places) is in
          further places (next_over listed at places) (grown_from listed left (at + 1) (next_over listed at places)) (one_more at places some less).grows (again less)
      go false is again = ended at places some closed (ltb-false at (length places) is)

  -- ---- all of them

  abbrev first_led : List Place
  first_led = with_led members [] listed.starts

  starts_put : HavePut [] listed.starts first_led
  starts_put = put_led listed.starts [] none (sound_from start_place listed.starts are.starts (λ step move goes_on. begun step move goes_on))

  grown : HaveGrown first_led (all_reached listed)
  grown = all_grown (length members) 0 first_led (omega arith) starts_put.some (λ k place below is. absurd (omega (arith, below)))

  held_starts : AreHeld (all_reached listed) listed.starts
  held_starts = held_still first_led (all_reached listed) grown.grows listed.starts starts_put.held

  held_from : (place : Place) → Contains (all_reached listed) place → AreHeld (all_reached listed) (moves_at listed place)
  held_from place has = grown.closed has.0 place (slice_get-get_or (all_reached listed) has.0 place has.1 ∙ ap Some has.2)

  from_reached : (place : Place) → Contains (all_reached listed) place → AreMovesFrom net request members place (moves_at listed place)
  from_reached place has = moves_from place (All-contains (Contains members) (all_reached listed) place grown.some.among has)

  held_after : (place : Place) (step : Step) → ¬ IsEnd request place step → (next : Next) → LeadsTo net request members place step next → IsHeldNext (all_reached listed) next
      → Contains (all_reached listed) (place_after net request.train place step)
  held_after place step no_end End leads held = absurd (no_end leads)
  held_after place step no_end (At number) leads held =
      subst (Contains (all_reached listed)) (get_or_from_slice_get members number (place_after net request.train place step) start_place leads.1) (held number refl)

  -- what a move leads to is among them
  goes_among : (place : Place) (moves : List Move) → AreMovesFrom net request members place moves → AreHeld (all_reached listed) moves
      → (step : Step) → IsMove net request place step → ¬ IsEnd request place step → Contains (all_reached listed) (place_after net request.train place step)
  goes_among place moves from held step move no_end =
      let has = from.whole step move in
      let at = has.1 in
      let one : Move = record { step = step; next = has.0 } in
      let same : get_or moves at.0 one ≡ one = at.2 in
      let this : IsListedMove net request members place one = subst (IsListedMove net request members place) same (from.sound at.0 one at.1) in
      held_after place step no_end has.0 this.leads (subst (λ (m : Move). IsHeldNext (all_reached listed) m.next) same (held at.0 one at.1))

  whole : (place : Place) → IsPlace net request place → Contains (all_reached listed) place
  whole place (begun step move no_end) = goes_among start_place listed.starts are.starts held_starts step move no_end
  whole place (gone_on before step is move no_end) =
      let has = whole before is in
      goes_among before (moves_at listed before) (from_reached before has) (held_from before has) step move no_end

  pub reached_places : AreThePlaces net request (all_reached listed)
  reached_places = record { sound = grown.some.sound; whole = whole; distinct = grown.some.distinct }

  pub reached_few : ¬ HasMoreThan MAX_PLACES net request → length (all_reached listed) ≤ MAX_PLACES
  reached_few narrow = elim (cases_lt MAX_PLACES (length (all_reached listed))) [
    | inl more ↦ absurd (narrow (all_reached listed, more, grown.some.distinct, grown.some.sound))
    | inr few ↦ few
  ]

  -- ---- their moves

  leads_among : (place : Place) (step : Step) (next : Next) → LeadsTo net request members place step next → IsHeldNext (all_reached listed) next
      → LeadsTo net request (all_reached listed) place step (next_among members (all_reached listed) next)
  leads_among place step End leads held = leads
  leads_among place step (At number) leads held =
      (leads.0, is_at (all_reached listed) (led number) (is_among (all_reached listed) (led number) (held number refl)) ∙ ap Some (get_or_from_slice_get members number (place_after net request.train place step) start_place leads.1))

  moves_among : (place : Place) (moves : List Move) → AreMovesFrom net request members place moves → AreHeld (all_reached listed) moves
      → AreMovesFrom net request (all_reached listed) place (map (renumbered members (all_reached listed)) moves)
  moves_among place moves from held = record {
    sound = All-map (IsListedMove net request (all_reached listed) place) (renumbered members (all_reached listed)) moves
        (λ k one inside. record {
          allowed = (from.sound k one inside).allowed;
          leads = leads_among place (get_or moves k one).step (get_or moves k one).next (from.sound k one inside).leads (held k one inside);
        });
    whole = λ step move. (let has = from.whole step move in
        (next_among members (all_reached listed) has.0, contains_map (renumbered members (all_reached listed)) moves (record { step = step; next = has.0 }) has.1));
  }

  pub reached_moves : AreTheMoves net request (reached_of listed)
  reached_moves = record {
    starts = moves_among start_place listed.starts are.starts held_starts;
    count = length-map (all_reached listed) (λ (place : Place). map (renumbered members (all_reached listed)) (moves_at listed place));
    moves = λ number place moves at with.
        let own : Place → List Move = λ place. map (renumbered members (all_reached listed)) (moves_at listed place) in
        let same : own place ≡ moves = same_Some (own place) moves (sym (slice_get-map own (all_reached listed) number ∙ ap (option_map own) at) ∙ with) in
        let has = contains_at (all_reached listed) number place at in
        subst (AreMovesFrom net request (all_reached listed) place) same (moves_among place (moves_at listed place) (from_reached place has) (held_from place has));
  }
