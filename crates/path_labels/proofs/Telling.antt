-- What is told of a plan that was searched.
use Rattle.std.proofs.Common.{◌≡◌, ◌∙◌, sym, ap, subst, ℕ, zero, suc, ◌+◌, ◌<◌, ℤ, ◌≤ℤ◌, List, [], ◌∷◌, length, get_or, All, Some, arith}
use Rattle.std.proofs.lemmas.List.Elements.{All-nil, All-append, All-map}
use Rattle.std.proofs.lemmas.Option.{slice_get-get_or}
use Rattle.rail_types.specs.declared.tracks.Network.{Network}
use Rattle.rail_types.specs.declared.trains.Request.{Request}
use Rattle.rail_types.specs.declared.entries.Settings.{Settings}
use Rattle.rail_types.specs.declared.paths.Claim.{Claim}
use Rattle.rail_types.specs.declared.paths.Path.{Path}
use Rattle.rail_types.specs.Occupation.{HasTicks, HeldClaim}
use Rattle.occupation_book.specs.Zones.{Zone}
use Rattle.occupation_book.specs.Held.{IsBook, held, zone_at}
use Rattle.blocking_time.specs.Possible.{IsPossible}
use Rattle.stair_pieces.specs.declared.places.Place.{Place}
use Rattle.stair_pieces.specs.Moves.{IsPlace}
use Rattle.stair_pieces.specs.Places.{start_place}
use Rattle.tail_states.specs.declared.certificates.Closed.{Closed}
use Rattle.tail_states.specs.Alike.{WindowsChangeNoPlaces}
use Rattle.tail_states.specs.Closing.{IsClosed}
use Rattle.tail_states.specs.Listed.{Listed}
use Rattle.label_search.specs.declared.plans.Target.{Target}
use Rattle.label_search.specs.declared.plans.Target.TheVariants.{Place as To, End}
use Rattle.label_search.specs.declared.plans.Plan.{Plan}
use Rattle.label_search.specs.declared.plans.Trip.{Trip}
use Rattle.label_search.specs.declared.plans.Step.{Step as PlannedStep}
use Rattle.label_search.specs.declared.plans.Member.{Member as PlannedMember}
use Rattle.label_search.specs.Free.{Book}
use Rattle.label_search.specs.Closed.{IsMemberOf as IsPlannedMember}
use Rattle.label_search.specs.Found.{IsLeast}
use Rattle.label_search.specs.Paths.{IsPath, IsRest, Possible, arrival, leave_of, place_at, target_of}
use Rattle.label_search.specs.Sought.{IsFound, IsNone}
use Rattle.path_labels.specs.Searched.{IsPlannedOver}
use Rattle.path_labels.specs.Answers.{IsAnswer, IsEarliest, IsFinding, IsMemberOf, before, claims_held, last_leave}
use Rattle.path_labels.specs.declared.answers.Sought.TheVariants.{Found, NoPath}
use Rattle.path_labels.specs.Joining.{AreLedTo, ArePlannedMoves, AreSteps, ClosedPlansAreClosed, GrantedPathsArePlanned, HoldsTicks, IsBehindTheStart, IsPlannedFrom, PlannedPathsAreGranted, member_in, members_in, moves_of, path_in, trip_of}
use Rattle.path_labels.proofs.Closing.{planned_before}
use Rattle.path_labels.proofs.Leading.{reached_at}
use Rattle.path_labels.proofs.Standing.{IsAt, at_listed, at_start, count_is}

-- the claims of a book have ticks
held_all : (P : HeldClaim → Type 0) (book : List Zone) → ((number : ℕ) → number < length book → All P (zone_at book number).claims) → All P (held book)
held_all P [] all = All-nil P
held_all P (zone ∷ book) all = All-append P zone.claims (held book) (all 0 (omega arith)) (held_all P book (λ number less. all (suc number) (omega (arith, less))))

pub holds_ticks : (book : List Zone) → IsBook book → HoldsTicks book
holds_ticks book is = All-map (λ (claim : Claim). HasTicks claim.span) (λ (one : HeldClaim). one.0) (held book) (held_all (λ one. HasTicks one.0.span) book (λ number less. (is.in_order number less).ticks))

-- a planned path goes on by moves of the plan
rest_steps : (plan : Plan) (trip : Trip) (steps : List PlannedStep) (target : Target) (leave : ℤ) → IsRest plan trip target leave steps → AreSteps plan target steps
rest_steps plan trip [] target leave rest = tt
rest_steps plan trip (step ∷ steps) End leave rest = rest
rest_steps plan trip (step ∷ steps) (To place) leave (move, enters, rest) = (move, rest_steps plan trip steps (target_of plan place step) (leave_of plan place step) rest)

pub path_steps : (plan : Plan) (trip : Trip) (steps : List PlannedStep) → IsPath plan trip steps → AreSteps plan (To 0) steps
path_steps plan trip [] path = tt
path_steps plan trip (step ∷ steps) (move, departs, rest) = (move, rest_steps plan trip steps (target_of plan 0 step) (leave_of plan 0 step) rest)

module _ (net : Network) (settings : Settings) (request : Request) (listed : Listed) (plan : Plan) (all : IsPlannedFrom net settings request listed plan) where
  at_number : (number : ℕ) → number < length plan.places → (place : Place) × IsAt net settings request listed plan all number place
  at_number zero less = (start_place, at_start net settings request listed plan all)
  at_number (suc number) less =
      let long = all.planned.places.counted in
      let place = get_or listed.members number start_place in
      (place, subst (λ n. IsAt net settings request listed plan all n place) (next number) (at_listed net settings request listed plan all number place (slice_get-get_or listed.members number start_place (omega (arith, less, long)))))
    where
      next : (n : ℕ) → n + 1 ≡ suc n
      next n = omega arith

  pub planned_moves : ArePlannedMoves listed plan
  planned_moves = record {
    count = all.moves.count;
    places = all.planned.places.counted;
    moves = λ number less. (let at = at_number number less in sym (count_is net settings request listed plan all number at.0 at.1));
  }

  -- the members of a search are at listed places, which are places of the request
  pub members_behind : (members : List PlannedMember) → All (IsPlannedMember plan) members → All (IsBehindTheStart listed.members) members
  members_behind members within k d inside = (reached_at net settings request listed plan all (get_or members k d).place (within k d inside).place).behind

  told_member : (member : PlannedMember) → IsPlannedMember plan member → IsMemberOf net settings request (member_in listed.members member)
  told_member member is =
      let reached = reached_at net settings request listed plan all member.place is.place in
      record {
        place = subst (IsPlace net request) (sym reached.member) reached.among;
        some = is.some;
        ticks = (is.ticks.0, subst (λ most. member.window.to ≤ℤ most) all.planned.horizon is.ticks.1);
      }

  pub told_members : (members : List PlannedMember) → All (IsPlannedMember plan) members → All (IsMemberOf net settings request) (members_in listed.members members)
  told_members members within = All-map (IsMemberOf net settings request) (member_in listed.members) members (λ k d inside. told_member (get_or members k d) (within k d inside))

members_led : (plan : Plan) (members : List PlannedMember) → All (IsPlannedMember plan) members → AreLedTo plan members
members_led plan members within k d inside = (within k d inside).place

module _ (granted : PlannedPathsAreGranted) (planned : GrantedPathsArePlanned) (net : Network) (settings : Settings) (request : Request) (listed : Listed) (plan : Plan) (all : IsPlannedOver net settings request listed plan) (book : Book) (ticks : HoldsTicks book) where
  planned_from : IsPlannedFrom net settings request listed plan
  planned_from = record { moves = all.moves; planned = all.planned }

  -- the least planned path is told as the earliest
  pub earliest : (steps : List PlannedStep) → IsLeast plan (trip_of request) book steps → IsEarliest net settings (claims_held book) request (path_in request listed plan steps)
  earliest steps least =
      let made = granted net settings request listed plan book steps all ticks least.path least.fits in
      record {
        granted = made.granted;
        least = λ other can. (let as_planned = planned net settings request listed plan book other all ticks can in
            subst (λ leave. leave ≤ℤ last_leave other) (sym made.leaves) (subst (λ leave. arrival plan steps ≤ℤ leave) as_planned.1.leaves (least.least as_planned.0 as_planned.1.path_is as_planned.1.fits)));
      }

  pub impossible : ¬ Possible plan (trip_of request) book → ¬ IsPossible net settings (claims_held book) request
  impossible none (path, can) = let as_planned = planned net settings request listed plan book path all ticks can in none (as_planned.0, as_planned.1.path_is, as_planned.1.fits)

  pub found_told : (steps : List PlannedStep) (path : Path) → path ≡ path_in request listed plan steps → IsLeast plan (trip_of request) book steps → IsFinding net settings (claims_held book) request (Some path)
  found_told steps path same least = subst (IsEarliest net settings (claims_held book) request) (sym same) (earliest steps least)

  module _ (closed : ClosedPlansAreClosed) (windows : WindowsChangeNoPlaces) (members : List PlannedMember) (proof : Closed) (told : proof.members ≡ members_in listed.members members) where
    pub found_answer : (steps : List PlannedStep) (path : Path) → path ≡ path_in request listed plan steps → IsFound plan (trip_of request) book steps members → IsAnswer net settings (claims_held book) request (Found path proof)
    found_answer steps path same found =
        let least : IsLeast plan (trip_of request) book steps = record { path = found.path; fits = found.fits; least = found.least } in
        let made = granted net settings request listed plan book steps all ticks found.path found.fits in
        let leave : arrival plan steps ≡ last_leave path = sym made.leaves ∙ ap last_leave (sym same) in
        let led = members_led plan members found.within in
        let other = planned_before windows net settings request listed plan (last_leave path) planned_from in (
          found_told steps path same least,
          record {
            members = subst (All (IsMemberOf net settings (before request (last_leave path)))) (sym told) (told_members net settings (before request (last_leave path)) listed plan other members found.within);
            closed = subst (IsClosed net settings (before request (last_leave path)) (claims_held book)) (sym told)
                (subst (λ tick. IsClosed net settings (before request tick) (claims_held book) (members_in listed.members members)) leave
                ((closed net settings request listed plan book members planned_from led).earlier (arrival plan steps) found.closed));
          },
        )

    pub none_answer : IsNone plan (trip_of request) book members → IsAnswer net settings (claims_held book) request (NoPath proof)
    none_answer none =
        let led = members_led plan members none.within in (
          impossible none.none,
          record {
            members = subst (All (IsMemberOf net settings request)) (sym told) (told_members net settings request listed plan planned_from members none.within);
            closed = subst (IsClosed net settings request (claims_held book)) (sym told) ((closed net settings request listed plan book members planned_from led).all none.closed);
          },
        )
