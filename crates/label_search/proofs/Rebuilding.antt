-- A path, step by step from its end.
use Rattle.std.proofs.Common.{◌≡◌, ℕ, ◌<◌, ◌≤◌, List, [], ◌∷◌, length, take, Bool, true, false, sym, subst, ap, ◌∙◌, refl, arith}
use Rattle.std.specs.Prelude.{ℤ, pos, ◌+ℤ◌, ◌-ℤ◌, ◌<ℤ◌, ◌≤ℤ◌, IsTrue}
use Rattle.std.specs.Int.{int_min}
use Rattle.std.proofs.lemmas.Int.{ints, clamps}
use Rattle.rail_types.specs.declared.paths.Window.{Window}
use Rattle.label_search.specs.declared.plans.Target.{Target}
use Rattle.label_search.specs.declared.plans.Target.TheVariants.{Place as To, End}
use Rattle.label_search.specs.declared.plans.Plan.{Plan}
use Rattle.label_search.specs.declared.plans.Trip.{Trip}
use Rattle.label_search.specs.declared.plans.Step.{Step}
use Rattle.label_search.specs.declared.labels.Label.{Label}
use Rattle.label_search.specs.Free.{Book}
use Rattle.free_windows.specs.Free.{Holds}
use Rattle.label_search.specs.Paths.{place_at, move_at, leave_of, IsPath, IsRest, PathFits, RestFits, arrival, last_leave, WaitFits}
use Rattle.label_search.specs.Closed.{IsFreeMove}
use Rattle.label_search.specs.Search.{IsWaited, IsMoved, IsEnd, came_at, entered_at, step_at}
use Rattle.label_search.specs.declared.plans.Place.{Place}
use Rattle.label_search.specs.declared.plans.Move.{Move}
use Rattle.label_search.specs.declared.labels.Moment.{Moment}
use Rattle.std.proofs.Math.Seq.{take-length}
use Rattle.label_search.specs.declared.labels.Source.{Source}
use Rattle.label_search.proofs.Covers.{reached_more}
use Rattle.label_search.proofs.Growth.{grown_take, tick_within}
use Rattle.label_search.specs.declared.searches.Ending.{Ending}
use Rattle.label_search.specs.declared.searches.Search.{Search}
use Rattle.label_search.specs.Plans.{IsPlan, IsShort}
use Rattle.label_search.specs.Labels.{IsReached, IsSourceOf, label_at}
use Rattle.label_search.specs.Search.{IsSearch, IsEnding, IsCome, IsLabelOf}
use Rattle.label_search.specs.Rebuilt.{Follows, FollowsArrival, FollowsLeave}

module _ (plan : Plan) (trip : Trip) (book : Book) (last : ℤ) where
  -- a train that may go on is ready, or does not stand
  follow_goes : (place : ℕ) (ready : Bool) (tick : ℤ) (step : Step) (steps : List Step) → (IsTrue (place_at plan place).standing → ready ≡ true) → FollowsLeave plan trip book last place tick step steps → Follows plan trip book last place ready tick (step ∷ steps)
  follow_goes place true tick step steps goes leave = leave
  follow_goes place false tick step steps goes leave = let enters = leave.enters in record {
    rest = (leave.move, (λ standing. let contrary = goes standing in absurd (cc), λ _. leave.enters), leave.rest);
    fits = (λ x low high. absurd (omega (arith, ints)), leave.move_fits, leave.fits);
    arrives = leave.arrives;
  }

  -- the move before
  follow_move_to : (from : ℕ) (ready : Bool) (number : ℕ) (leave : ℤ) → (IsTrue (place_at plan from).standing → ready ≡ true) → IsFreeMove plan book from (step_at number (entered_at plan from number leave)) → (target : Target) → (move_at plan from number).target ≡ target → (steps : List Step) → IsRest plan trip target leave steps → RestFits plan book target leave steps → last_leave plan target leave steps ≡ last → Follows plan trip book last from ready (entered_at plan from number leave) (step_at number (entered_at plan from number leave) ∷ steps)
  follow_move_to from ready number leave goes free target leads steps rest fits arrives =
      let left : leave ≡ leave_of plan from (step_at number (entered_at plan from number leave)) = omega (arith, ints) in
      follow_goes from ready (entered_at plan from number leave) (step_at number (entered_at plan from number leave)) steps goes (record {
        enters = refl;
        move = free.0;
        move_fits = free.1;
        rest = subst (λ t. IsRest plan trip t (leave_of plan from (step_at number (entered_at plan from number leave))) steps) (sym leads) (subst (λ x. IsRest plan trip target x steps) left rest);
        fits = subst (λ t. RestFits plan book t (leave_of plan from (step_at number (entered_at plan from number leave))) steps) (sym leads) (subst (λ x. RestFits plan book target x steps) left fits);
        arrives = subst (λ t. last_leave plan t (leave_of plan from (step_at number (entered_at plan from number leave))) steps ≡ last) (sym leads) (subst (λ x. last_leave plan target x steps ≡ last) left arrives);
      })

  pub follow_move : (labels : List Label) (from : ℕ) (before : Bool) (number place : ℕ) (leave : ℤ) (steps : List Step) → IsMoved plan book labels from before number place leave → FollowsArrival plan trip book last place leave steps → Follows plan trip book last from before (entered_at plan from number leave) (step_at number (entered_at plan from number leave) ∷ steps)
  follow_move labels from before number place leave steps moved arrived =
      follow_move_to from before number leave moved.came.1 moved.free (To place) moved.target steps arrived.rest arrived.fits arrived.arrives

  pub follow_wait : (labels : List Label) (arrivals : Window) (place : ℕ) (tick : ℤ) (steps : List Step) → IsWaited plan book labels arrivals place tick → Follows plan trip book last place true tick steps → FollowsArrival plan trip book last place (came_at plan place arrivals tick) steps
  follow_wait labels arrivals place tick [] waited follows = absurd follows
  follow_wait labels arrivals place tick (step ∷ steps) waited follows = let enters = follows.enters in record {
    rest = (follows.move, (λ _. omega (arith, ints, clamps), λ moving. absurd (moving waited.standing)), follows.rest);
    fits = (subst (WaitFits book (place_at plan place) (came_at plan place arrivals tick)) (sym follows.enters) waited.fits, follows.move_fits, follows.fits);
    arrives = follows.arrives;
  }

  starts_at_0 : (tick : ℤ) (steps : List Step) → Holds trip.depart tick → Follows plan trip book last 0 true tick steps → IsPath plan trip steps × PathFits plan book steps × (arrival plan steps ≡ last)
  starts_at_0 tick [] departs follows = absurd follows
  starts_at_0 tick (step ∷ steps) departs follows =
      ((follows.move, subst (Holds trip.depart) (sym follows.enters) departs, follows.rest), (follows.move_fits, follows.fits), follows.arrives)

  pub starts_path : (place : ℕ) (ready : Bool) (tick : ℤ) (steps : List Step) → place ≡ 0 → ready ≡ true → Holds trip.depart tick → Follows plan trip book last place ready tick steps → IsPath plan trip steps × PathFits plan book steps × (arrival plan steps ≡ last)
  starts_path place ready tick steps here is_ready departs follows = starts_at_0 tick steps departs (subst (λ p. Follows plan trip book last p true tick steps) here (subst (λ r. Follows plan trip book last place r tick steps) is_ready follows))

  -- the end alone
  pub follow_end : (labels : List Label) (place : ℕ) (ready : Bool) (number : ℕ) → IsEnd plan trip book labels place ready number last → Follows plan trip book last place ready (entered_at plan place number last) (step_at number (entered_at plan place number last) ∷ [])
  follow_end labels place ready number is = follow_move_to place ready number last is.came.1 is.free End is.target [] is.arrives tt refl

abbrev pub moment : ℕ → Bool → ℤ → Moment
moment place ready tick = record { place = place; ready = ready; tick = tick }

moment_same : (at : Moment) (place : ℕ) (ready : Bool) (tick : ℤ) → at.place ≡ place → at.ready ≡ ready → at.tick ≡ tick → at ≡ moment place ready tick
moment_same at place ready tick same_place same_ready same_tick = ap (λ p. moment p at.ready at.tick) same_place ∙ (ap (λ r. moment place r at.tick) same_ready ∙ ap (moment place ready) same_tick)

step_same : (step : Step) (number : ℕ) (enter : ℤ) → step.number ≡ number → step.enter ≡ enter → step ≡ step_at number enter
step_same step number enter same_number same_enter = ap (λ n. step_at n step.enter) same_number ∙ ap (step_at number) same_enter

-- how far a path is rebuilt from its end: to a tick of a place that labels before a number have
pub record IsRebuilt (plan : Plan) (trip : Trip) (book : Book) (search : Search) (last : ℤ) (until : ℕ) (at : Moment) (steps : List Step) : Type 0 where
  pub inside : until ≤ length search.labels.labels
  pub reached : IsReached (take until search.labels.labels) at.place at.ready at.tick
  pub follows : Follows plan trip book last at.place at.ready at.tick steps

module _ (plan : Plan) (trip : Trip) (book : Book) (is : IsPlan plan book) (search : Search) (sound : IsSearch plan trip book search) where
  -- where a tick came from, by the origin that was found
  pub come_of : (until : ℕ) → until ≤ length search.labels.labels → (at : Moment) (source : Source) → IsSourceOf search.labels.labels until at.place at.ready at.tick source → IsCome plan trip book (take source.number search.labels.labels) source.origin at.place at.ready at.tick
  come_of until inside at source found =
      let before = found.before in
      let label = label_at search.labels.labels source.number in
      let here : IsLabelOf plan trip book (take source.number search.labels.labels) label = sound.sound source.number _ (omega arith) in
      let come : IsCome plan trip book (take source.number search.labels.labels) label.origin label.place label.ready at.tick = here.wanted.come at.tick found.has.2 in
      subst (λ o. IsCome plan trip book (take source.number search.labels.labels) o at.place at.ready at.tick) found.origin
      (subst (λ p. IsCome plan trip book (take source.number search.labels.labels) label.origin p at.ready at.tick) found.has.0
      (subst (λ r. IsCome plan trip book (take source.number search.labels.labels) label.origin label.place r at.tick) found.has.1 come))

  run_of_move : (place : ℕ) → place < length plan.places → (number : ℕ) → number < length (place_at plan place).moves → IsShort (move_at plan place number).run × (pos 0 <ℤ (move_at plan place number).run)
  run_of_move place within number inside = ((is.places place _ within).moves number _ inside).run

  pub end_is_short : (ending : Ending) → IsEnding plan trip book search.labels.labels ending → IsShort ending.arrive.from
  end_is_short ending ends =
      let free = ends.free.0 in
      let run : IsShort (move_at plan ending.place ending.number).run = (run_of_move ending.place ends.inside ending.number free.0).0 in
      let begins : pos 0 ≤ℤ (ending.arrive.from -ℤ (move_at plan ending.place ending.number).run) = free.1 in
      let leaves : ((ending.arrive.from -ℤ (move_at plan ending.place ending.number).run) +ℤ (move_at plan ending.place ending.number).run) ≤ℤ plan.horizon = free.2 in
      let horizon = is.horizon in
      (omega (arith, ints), omega (arith, ints))

  pub rebuilt_end : (ending : Ending) → IsEnding plan trip book search.labels.labels ending → (taken : Move) → taken ≡ move_at plan ending.place ending.number → (end to : Moment) → end.tick ≡ ending.arrive.from → to.place ≡ ending.place → to.ready ≡ ending.ready → to.tick ≡ (end.tick -ℤ taken.run) → (step : Step) → step.number ≡ ending.number → step.enter ≡ to.tick → (steps : List Step) → steps ≡ step ∷ [] → IsRebuilt plan trip book search ending.arrive.from (length search.labels.labels) to steps
  rebuilt_end ending ends taken taken_is end to end_is to_place to_ready to_tick step step_number step_enter steps steps_are =
      let tick_is : to.tick ≡ entered_at plan ending.place ending.number ending.arrive.from = to_tick ∙ (ap (λ x. x -ℤ taken.run) end_is ∙ ap (λ m. ending.arrive.from -ℤ m.run) taken_is) in
      let all : steps ≡ step_at ending.number (entered_at plan ending.place ending.number ending.arrive.from) ∷ [] = steps_are ∙ ap (λ s. s ∷ []) (step_same step ending.number _ step_number (step_enter ∙ tick_is)) in
      let same : to ≡ moment ending.place ending.ready (entered_at plan ending.place ending.number ending.arrive.from) = moment_same to _ _ _ to_place to_ready tick_is in
      subst (λ at. IsRebuilt plan trip book search ending.arrive.from (length search.labels.labels) at steps) (sym same) (subst (IsRebuilt plan trip book search ending.arrive.from (length search.labels.labels) (moment ending.place ending.ready (entered_at plan ending.place ending.number ending.arrive.from))) (sym all) (record {
        inside = omega arith;
        reached = subst (λ labels. IsReached labels ending.place ending.ready (entered_at plan ending.place ending.number ending.arrive.from)) (sym (take-length search.labels.labels)) ends.came.0;
        follows = follow_end plan trip book ending.arrive.from search.labels.labels ending.place ending.ready ending.number ends;
      }))

  module _ (last : ℤ) (until : ℕ) (at : Moment) (steps : List Step) (part : IsRebuilt plan trip book search last until at steps) where
    pub at_is_short : (at.place < length plan.places) × IsShort at.tick
    at_is_short = let within = tick_within plan trip book search.labels.labels sound.sound at.place at.ready at.tick (reached_more (λ l. Unit {0}) _ _ at.place at.ready at.tick (grown_take search.labels.labels until) part.reached) in let horizon = is.horizon in (within.0, (within.1, omega (arith, ints, within.2)))

    pub wait_back : (before : ℕ) → before < until → (arrivals : Window) → (at.ready ≡ true) × IsWaited plan book (take before search.labels.labels) arrivals at.place at.tick → (place : Place) → place ≡ place_at plan at.place → (to : Moment) → to.place ≡ at.place → to.ready ≡ false → to.tick ≡ int_min arrivals.to (at.tick -ℤ place.dwell) → IsRebuilt plan trip book search last before to steps
    wait_back before less arrivals come place place_is to to_place to_ready to_tick =
        let tick_is : to.tick ≡ came_at plan at.place arrivals at.tick = to_tick ∙ ap (λ p. int_min arrivals.to (at.tick -ℤ p.dwell)) place_is in
        let same : to ≡ moment at.place false (came_at plan at.place arrivals at.tick) = moment_same to _ _ _ to_place to_ready tick_is in
        let inside = part.inside in
        subst (λ one. IsRebuilt plan trip book search last before one steps) (sym same) (record {
          inside = omega arith;
          reached = come.1.came;
          follows = follow_wait plan trip book last (take before search.labels.labels) arrivals at.place at.tick steps come.1 (subst (λ r. Follows plan trip book last at.place r at.tick steps) come.0 part.follows);
        })

    pub move_back : (less : ℕ) → less < until → (from : ℕ) (before : Bool) (number : ℕ) → (at.ready ≡ false) × IsMoved plan book (take less search.labels.labels) from before number at.place at.tick → (taken : Move) → taken ≡ move_at plan from number → (to : Moment) → to.place ≡ from → to.ready ≡ before → to.tick ≡ (at.tick -ℤ taken.run) → (step : Step) → step.number ≡ number → step.enter ≡ to.tick → (more : List Step) → more ≡ step ∷ steps → IsRebuilt plan trip book search last less to more
    move_back less early from before number come taken taken_is to to_place to_ready to_tick step step_number step_enter more more_is =
        let tick_is : to.tick ≡ entered_at plan from number at.tick = to_tick ∙ ap (λ m. at.tick -ℤ m.run) taken_is in
        let all : more ≡ step_at number (entered_at plan from number at.tick) ∷ steps = more_is ∙ ap (λ s. s ∷ steps) (step_same step number _ step_number (step_enter ∙ tick_is)) in
        let same : to ≡ moment from before (entered_at plan from number at.tick) = moment_same to _ _ _ to_place to_ready tick_is in
        let inside = part.inside in
        subst (λ one. IsRebuilt plan trip book search last less one more) (sym same) (subst (IsRebuilt plan trip book search last less (moment from before (entered_at plan from number at.tick))) (sym all) (record {
          inside = omega arith;
          reached = come.1.came.0;
          follows = follow_move plan trip book last (take less search.labels.labels) from before number at.place at.tick steps come.1 (subst (λ r. Follows plan trip book last at.place r at.tick steps) come.0 part.follows);
        }))
