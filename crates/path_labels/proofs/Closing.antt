-- Members that are closed for the plan of a request are closed for the request.
use Rattle.std.proofs.Common.{◌≡◌, ◌∙◌, sym, ap, refl, subst, ℕ, ◌+◌, ◌-◌, ◌<◌, ℤ, pos, ◌+ℤ◌, ◌≤ℤ◌, Bool, true, false, List, length, get_or, All, Some, arith}
use Rattle.std.specs.Prelude.{IsTrue, slice_get}
use Rattle.std.proofs.lemmas.Int.{ints}
use Rattle.std.proofs.lemmas.List.{get_or-map, get_or_default, length-map}
use Rattle.std.proofs.lemmas.List.Elements.{All-nil, All-append}
use Rattle.std.proofs.lemmas.Option.{slice_get-get_or, get_or_from_slice_get}
use Rattle.rail_types.specs.declared.tracks.Network.{Network}
use Rattle.rail_types.specs.declared.trains.Request.{Request}
use Rattle.rail_types.specs.declared.entries.Settings.{Settings}
use Rattle.rail_types.specs.Occupation.{Fits}
use Rattle.occupation_book.specs.Held.{IsFree, held}
use Rattle.free_windows.specs.Free.{Fits as FitsAmong, Holds, moved}
use Rattle.stair_pieces.specs.declared.places.Place.{Place}
use Rattle.stair_pieces.specs.declared.places.Step.{Step}
use Rattle.stair_pieces.specs.Places.{start_place, place_after, standing_zones}
use Rattle.stair_pieces.specs.Pieces.{pieces_of, kept}
use Rattle.stair_pieces.specs.Moves.{IsEnd, IsPlace}
use Rattle.tail_states.specs.declared.moves.Next.TheVariants.{End as Ends}
use Rattle.tail_states.specs.Alike.{WindowsChangeNoPlaces}
use Rattle.tail_states.specs.Closing.{GoesOn, IsAdmitted, IsClosed, IsFreeMove, IsHeld, leaves_at}
use Rattle.tail_states.specs.Listed.{Listed}
use Rattle.label_search.specs.declared.plans.Target.TheVariants.{End}
use Rattle.label_search.specs.declared.plans.Plan.{Plan}
use Rattle.label_search.specs.declared.plans.Move.{Move as PlannedMove}
use Rattle.rail_types.specs.declared.paths.Window.{Window}
use Rattle.label_search.specs.declared.plans.Place.{Place as PlannedPlace}
use Rattle.label_search.specs.declared.plans.Trip.{Trip}
use Rattle.label_search.specs.declared.plans.Step.{Step as PlannedStep}
use Rattle.label_search.specs.declared.plans.Member.{Member as PlannedMember}
use Rattle.label_search.specs.Free.{Book}
use Rattle.label_search.specs.Paths.{Enters, MoveFits, WaitFits, leave_of, move_at, place_at, target_of}
use Rattle.label_search.specs.Closed.{Admits, before as trip_before, IsClosed as IsClosedPlan, IsFreeMove as IsFreePlannedMove, IsHeld as IsHeldThere}
use Rattle.path_labels.specs.Plans.{dwell_at, dwell_of, kept_behind, target_of as target_in, ticks_of_step}
use Rattle.path_labels.specs.Answers.{before, claims_held}
use Rattle.path_labels.specs.Joining.{AreClosedAlike, AreLedTo, IsPlannedFrom, member_in, members_in, move_of, moves_of, trip_of}
use Rattle.path_labels.proofs.Alike.{planned_alike}
use Rattle.path_labels.proofs.Fitting.{AreFreeOver, later_fits, moved_of_over, over_at, over_of_kept}
use Rattle.path_labels.proofs.Leading.{reached_at}
use Rattle.path_labels.proofs.Standing.{IsAt, IsMoveAs, at_listed, at_start, ends_by, goes_to, leaves_alike, move_is, numbered, stands_at_a_stop}

module _ (net : Network) (settings : Settings) (request : Request) (listed : Listed) (plan : Plan) (all : IsPlannedFrom net settings request listed plan) (book : Book) where
  abbrev At' : ℕ → Place → Type 0
  At' = IsAt net settings request listed plan all

  -- a train that goes on from a place of the request enters from the planned place
  module _ (number : ℕ) (place : Place) (is : At' number place) where
    pub enters_there : IsPlace net request place → (tick enter : ℤ) → GoesOn net request (claims_held book) place tick enter → Enters (place_at plan number) tick enter
    enters_there among tick enter on = subst (λ p. Enters p tick enter) (sym is.planned) (
      (λ stands. let stop = stands_at_a_stop net request place among stands in
          subst (λ s. (tick +ℤ dwell_at request place.made s) ≤ℤ enter) (sym stands)
          (subst (λ o. (tick +ℤ dwell_of o) ≤ℤ enter) (sym stop.1) (on.dwells stands stop.0 stop.1))),
      λ rolls. on.rolls (still place.standing rolls),
    )
      where
        still : (b : Bool) → ¬ IsTrue b → b ≡ false
        still true never = absurd (never refl)
        still false never = refl

    pub wait_fits : (tick enter : ℤ) → GoesOn net request (claims_held book) place tick enter → WaitFits book (place_at plan number) tick enter
    wait_fits tick enter on moment low high = subst (λ (p : PlannedPlace). FitsAmong (held book) p.waits moment) (sym is.planned)
        (over_at book (standing_zones net request.train place) tick enter (over_of_kept book (standing_zones net request.train place) tick enter on.waits) moment low high)

    -- the pieces of a planned move fit, with what is kept behind it
    pub planned_fits : (k : ℕ) (enter : ℤ) → k < length (moves_of listed number) → FitsAmong (held book) (pieces_of net settings request.train place (move_of listed number k).step) enter
        → FitsAmong (held book) (kept_behind net settings request place (move_of listed number k).step (move_of listed number k).next) enter → MoveFits plan book number (record { number = k; enter = enter })
    planned_fits k enter within pieces behind = subst (λ one. FitsAmong (held book) one.pieces enter) (sym (move_is net settings request listed plan all number place is k within)) (All-append (λ piece. IsFree (held book) (moved enter piece)) _ _ pieces behind)

    -- what is kept behind an end fits through its release
    pub behind_fits : (k : ℕ) (enter leave : ℤ) → k < length (moves_of listed number) → leave_of plan number (record { number = k; enter = enter }) ≡ leave
        → Fits (kept (standing_zones net request.train (place_after net request.train place (move_of listed number k).step)) leave (leave +ℤ pos settings.release)) (claims_held book)
        → FitsAmong (held book) (kept_behind net settings request place (move_of listed number k).step Ends) enter
    behind_fits k enter leave within leaves fits =
        let zones = standing_zones net request.train (place_after net request.train place (move_of listed number k).step) in
        let ticks = ticks_of_step net settings request place (move_of listed number k).step in
        let same : (enter +ℤ ticks) ≡ leave = sym (ap (λ (one : PlannedMove). enter +ℤ one.run) (move_is net settings request listed plan all number place is k within)) ∙ leaves in
        moved_of_over book zones ticks (ticks +ℤ pos settings.release) enter
        (subst (λ to. AreFreeOver book zones (enter +ℤ ticks) to) (apart enter ticks (pos settings.release))
        (subst (λ leave. AreFreeOver book zones leave (leave +ℤ pos settings.release)) (sym same)
        (over_of_kept book zones leave (leave +ℤ pos settings.release) fits)))
      where
        apart : (a b c : ℤ) → ((a +ℤ b) +ℤ c) ≡ (a +ℤ (b +ℤ c))
        apart a b c = omega (arith, ints)

    -- what a free move of the request leads to is admitted where the planned move's is
    abbrev Allows : Trip → List PlannedMember → ℤ → Type 0
    Allows trip members enter = (k : ℕ) → IsFreePlannedMove plan book number (record { number = k; enter = enter })
        → Admits trip (IsHeldThere members) (target_of plan number (record { number = k; enter = enter })) (leave_of plan number (record { number = k; enter = enter }))

  -- held at a planned place, held at the place
  pub held_in : (members : List PlannedMember) (n : ℕ) (place : Place) (tick : ℤ) → slice_get listed.members n ≡ Some place → IsHeldThere members (n + 1) tick → IsHeld (members_in listed.members members) place tick
  held_in members n place tick at there =
      let i = there.0 in let one = there.1 in let within = there.2 in let same = there.3 in let is = there.4 in (
        i,
        member_in listed.members one,
        subst (λ m. i < m) (sym (length-map members (member_in listed.members))) within,
        get_or-map (member_in listed.members) members i one (member_in listed.members one) within ∙ ap (member_in listed.members) same,
        (ap (λ p. get_or listed.members (p - 1) start_place) is.0 ∙ ap (λ p. get_or listed.members p start_place) (back n) ∙ get_or_from_slice_get listed.members n place start_place at, is.1),
      )
    where
      back : (n : ℕ) → n + 1 - 1 ≡ n
      back n = omega arith

  pub record IsHeldAt (members : List PlannedMember) (place : Place) (tick : ℤ) (n : ℕ) : Type 0 where
    pub at : slice_get listed.members n ≡ Some place
    pub among : IsPlace net request place
    pub there : IsHeldThere members (n + 1) tick

  pub held_from : (members : List PlannedMember) → AreLedTo plan members → (place : Place) (tick : ℤ) → IsHeld (members_in listed.members members) place tick → (n : ℕ) × IsHeldAt members place tick n
  held_from members led place tick held =
      let i = held.0 in let told = held.1 in let same = held.3 in let is = held.4 in
      let within : i < length members = subst (λ m. i < m) (length-map members (member_in listed.members)) held.2 in
      let d : PlannedMember = record { place = 0; window = told.window } in
      let one = get_or members i d in
      let told_is : member_in listed.members one ≡ told = sym (get_or-map (member_in listed.members) members i d told within) ∙ same in
      let reached = reached_at net settings request listed plan all one.place (led i d within) in
      let low = reached.behind.0 in let high = reached.behind.1 in
      let inside : one.place - 1 < length listed.members = omega (arith, low, high) in
      let there : get_or listed.members (one.place - 1) start_place ≡ place = ap (λ m. m.place) told_is ∙ is.0 in (
        one.place - 1,
        record {
          at = slice_get-get_or listed.members (one.place - 1) start_place inside ∙ ap Some there;
          among = subst (IsPlace net request) (sym reached.member ∙ there) reached.among;
          there = (i, one, within, default_of i d within, (omega (arith, low), subst (λ (w : Window). Holds w tick) (sym (ap (λ m. m.window) told_is)) is.1));
        },
      )
    where
      default_of : (i : ℕ) (d : PlannedMember) → i < length members → get_or members i (get_or members i d) ≡ get_or members i d
      default_of i d within = get_or_default members i (get_or members i d) d within

  -- what a free move leads to
  module _ (trip : Trip) (arrive : trip.arrive ≡ request.arrive) (members : List PlannedMember) (number : ℕ) (place : Place) (is : At' number place) (step : Step) (enter : ℤ) where
    module _ (free : IsFreeMove net settings request (claims_held book) place step enter) (allows : Allows number place is trip members enter) (k : ℕ) (its : IsMoveAs net settings request listed plan all number place is step enter k) where
      abbrev the : Step
      the = (move_of listed number k).step

      abbrev planned : PlannedStep
      planned = record { number = k; enter = enter }

      leaves : leave_of plan number planned ≡ leaves_at net settings request place the enter
      leaves = leaves_alike net settings request listed plan all number place is planned its.move

      pieces : FitsAmong (held book) (pieces_of net settings request.train place the) enter
      pieces = subst (λ s. FitsAmong (held book) (pieces_of net settings request.train place s) enter) (sym its.same) (later_fits book (pieces_of net settings request.train place step) enter free.pieces)

      abbrev zones : List ℕ
      zones = standing_zones net request.train (place_after net request.train place the)

      told : FitsAmong (held book) (kept_behind net settings request place the (move_of listed number k).next) enter → Admits trip (IsHeldThere members) (move_at plan number k).target (leaves_at net settings request place the enter)
      told behind = subst (Admits trip (IsHeldThere members) (move_at plan number k).target) leaves (allows k (its.move, planned_fits number place is k enter its.within pieces behind))

      held_then : ¬ IsEnd request place the → IsHeld (members_in listed.members members) (place_after net request.train place the) (leaves_at net settings request place the enter)
      held_then no_end =
          let to = goes_to net settings request listed plan all number place is k its.within no_end in
          let behind : FitsAmong (held book) (kept_behind net settings request place the (move_of listed number k).next) enter =
          subst (λ next. FitsAmong (held book) (kept_behind net settings request place the next) enter) (sym to.1.next) (All-nil (λ piece. IsFree (held book) (moved enter piece))) in
          held_in members to.0 (place_after net request.train place the) (leaves_at net settings request place the enter) to.1.leads
          (subst (λ target. Admits trip (IsHeldThere members) target (leaves_at net settings request place the enter)) to.1.target (told behind))

      ends_then : IsEnd request place the → Fits (kept zones (leaves_at net settings request place the enter) (leaves_at net settings request place the enter +ℤ pos settings.release)) (claims_held book) → ¬ Holds request.arrive (leaves_at net settings request place the enter)
      ends_then end fits inside =
          let next = ends_by net settings request listed plan all number place is k its.within end in
          let target : (move_at plan number k).target ≡ End = ap (λ (one : PlannedMove). one.target) (move_is net settings request listed plan all number place is k its.within) ∙ ap target_in next in
          let outside = subst (λ target. Admits trip (IsHeldThere members) target (leaves_at net settings request place the enter)) target
          (told (subst (λ next. FitsAmong (held book) (kept_behind net settings request place the next) enter) (sym next) (behind_fits number place is k enter _ its.within leaves fits))) in
          outside (subst (λ (w : Window). Holds w (leaves_at net settings request place the enter)) (sym arrive) inside)

      admitted_as : IsAdmitted net settings request (claims_held book) (members_in listed.members members) place step (leaves_at net settings request place step enter)
      admitted_as = subst (λ s. IsAdmitted net settings request (claims_held book) (members_in listed.members members) place s (leaves_at net settings request place s enter)) its.same (record { held = held_then; ends = ends_then })

    pub admitted : IsFreeMove net settings request (claims_held book) place step enter → Allows number place is trip members enter
        → IsAdmitted net settings request (claims_held book) (members_in listed.members members) place step (leaves_at net settings request place step enter)
    admitted free allows =
        let its = numbered net settings request listed plan all number place is step enter free.move free.begins free.ends in
        admitted_as free allows its.0 its.1

  -- members that are closed for the plan, in the windows of the request
  module _ (trip : Trip) (depart : trip.depart ≡ request.depart) (arrive : trip.arrive ≡ request.arrive) (members : List PlannedMember) (led : AreLedTo plan members) (closed : IsClosedPlan plan trip book members) where
    pub closed_there : IsClosed net settings request (claims_held book) (members_in listed.members members)
    closed_there = record {
      start = λ step enter inside free below. admitted trip arrive members 0 start_place (at_start net settings request listed plan all) step enter free
          (λ k one. closed.start (record { number = k; enter = enter }) (subst (λ (w : Window). Holds w enter) (sym depart) inside) one);
      moves = λ place step tick enter is_held on free below. (let at = held_from members led place tick is_held in
          let is = at_listed net settings request listed plan all at.0 place at.1.at in
          admitted trip arrive members (at.0 + 1) place is step enter free
          (λ k one. closed.moves (at.0 + 1) tick (record { number = k; enter = enter }) at.1.there (enters_there (at.0 + 1) place is at.1.among tick enter on) (wait_fits (at.0 + 1) place is tick enter on) one));
    }

-- a request with another window of arrival is planned alike
pub planned_before : WindowsChangeNoPlaces → (net : Network) (settings : Settings) (request : Request) (listed : Listed) (plan : Plan) (tick : ℤ) → IsPlannedFrom net settings request listed plan → IsPlannedFrom net settings (before request tick) listed plan
planned_before windows net settings request listed plan tick all =
    planned_alike windows net settings request (before request tick) listed plan (record { train = refl; origin = refl; destination = refl; stops = refl }) all

pub closed_alike : WindowsChangeNoPlaces → (net : Network) (settings : Settings) (request : Request) (listed : Listed) (plan : Plan) (book : Book) (members : List PlannedMember) → IsPlannedFrom net settings request listed plan → AreLedTo plan members → AreClosedAlike net settings request listed plan book members
closed_alike alike net settings request listed plan book members all led = record {
  all = λ closed. closed_there net settings request listed plan all book (trip_of request) refl refl members led closed;
  earlier = λ tick closed. closed_there net settings (before request tick) listed plan (planned_before alike net settings request listed plan tick all) book (trip_before (trip_of request) tick) refl refl members led closed;
}
