-- What stays true of a search as its labels grow and its best end gets better.
use Rattle.std.proofs.Common.{◌≡◌, ℕ, ◌+◌, ◌-◌, ◌<◌, List, ◌++◌, length, get_or, take, drop, Bool, true, false, Option, None, Some, IfSome, sym, subst, ap, ◌∙◌, inl, inr, refl, arith, All}
use Rattle.std.specs.Prelude.{ℤ, pos, ◌≤ℤ◌}
use Rattle.std.proofs.lemmas.Bool.{cases_lt}
use Rattle.std.proofs.Math.Seq.{take-append-add}
use Rattle.std.proofs.lemmas.List.{get_or_append_left, get_or-append_right, length-append, take-append-le, take-append-drop}
use Rattle.std.proofs.lemmas.Int.{ints}
use Rattle.label_search.specs.declared.plans.Target.{Target}
use Rattle.label_search.specs.declared.plans.Target.TheVariants.{Place as To, End}
use Rattle.label_search.specs.declared.plans.Plan.{Plan}
use Rattle.label_search.specs.declared.plans.Trip.{Trip}
use Rattle.label_search.specs.declared.labels.Label.{Label}
use Rattle.label_search.specs.declared.labels.Front.{Front}
use Rattle.label_search.specs.declared.labels.Origin.{Origin}
use Rattle.label_search.specs.declared.labels.Origin.TheVariants.{Start, Wait, Move}
use Rattle.label_search.specs.declared.searches.Ending.{Ending}
use Rattle.label_search.specs.declared.searches.Search.{Search}
use Rattle.label_search.specs.Free.{Book}
use Rattle.label_search.specs.Limits.{IsBelow, IsLimits}
use Rattle.label_search.specs.Paths.{move_at, leave_of}
use Rattle.label_search.specs.Labels.{IsReached, IsGrown, IsPartOf, label_at}
use Rattle.label_search.specs.Search.{CanGo, IsCome, IsWanted, IsLabelOf, IsSound, IsEnding, IsLow, IsSearch, IsAdmitted, IsMoveExplored, IsExplored, IsFurther, IsFrontOf, step_at}
use Rattle.label_search.proofs.Covers.{grown_none, grown_more, reached_more}

pub length_grown : (IsSo : Label → Type 0) (old new : List Label) (grown : IsGrown IsSo old new) → length new ≡ length old + length grown.0
length_grown IsSo old new grown = ap length grown.1 ∙ length-append old grown.0

pub label_at_more : (IsSo : Label → Type 0) (old new : List Label) → IsGrown IsSo old new → (number : ℕ) → number < length old → label_at new number ≡ label_at old number
label_at_more IsSo old new grown number within = ap (λ labels. label_at labels number) grown.1 ∙ get_or_append_left old grown.0 _ number within

pub grown_take : (labels : List Label) (number : ℕ) → IsGrown (λ l. Unit {0}) (take number labels) labels
grown_take labels number = (drop number labels, sym (take-append-drop number labels), λ i d within. tt)

module _ (plan : Plan) (trip : Trip) (book : Book) where
  module _ (IsSo : Label → Type 0) (old new : List Label) (grown : IsGrown IsSo old new) where
    can_go_more : (place : ℕ) (ready : Bool) (tick : ℤ) → CanGo plan old place ready tick → CanGo plan new place ready tick
    can_go_more place ready tick can = (reached_more IsSo old new place ready tick grown can.0, can.1)

    pub come_more : (origin : Origin) (place : ℕ) (ready : Bool) (tick : ℤ) → IsCome plan trip book old origin place ready tick → IsCome plan trip book new origin place ready tick
    come_more Start place ready tick come = come
    come_more (Wait arrivals) place ready tick come =
        (come.0, record { standing = come.1.standing; came = reached_more IsSo old new place false _ grown come.1.came; fits = come.1.fits })
    come_more (Move from before number) place ready tick come =
        (come.0, record { inside = come.1.inside; target = come.1.target; came = can_go_more from before _ come.1.came; free = come.1.free })

    pub wanted_more : (label : Label) → IsWanted plan trip book old label → IsWanted plan trip book new label
    wanted_more label is = record { place = is.place; ticks = is.ticks; come = λ tick held. come_more label.origin label.place label.ready tick (is.come tick held) }

    label_more : (label : Label) → IsLabelOf plan trip book old label → IsLabelOf plan trip book new label
    label_more label is = record { wanted = wanted_more label is.wanted; some = is.some }

    pub best_more : (best : Option Ending) → IfSome best (IsEnding plan trip book old) → IfSome best (IsEnding plan trip book new)
    best_more None is = is
    best_more (Some ending) is = record { inside = is.inside; target = is.target; came = can_go_more ending.place ending.ready _ is.came; free = is.free; arrives = is.arrives }

  label_of_part : (labels : List Label) (wanted label : Label) → IsWanted plan trip book labels wanted → IsPartOf wanted label → IsLabelOf plan trip book labels label
  label_of_part labels wanted label is part =
      let first = part.ticks label.ticks.from (omega (arith, ints), part.some) in
      let last = part.ticks label.ticks.to (part.some, omega (arith, ints)) in
      record {
        wanted = record {
          place = subst (λ place. place < length plan.places) (sym part.place) is.place;
          ticks = (omega (arith, ints, is.ticks.0, first.0), omega (arith, ints, is.ticks.1, last.1));
          come = λ tick held.
              subst (λ origin. IsCome plan trip book labels origin label.place label.ready tick) (sym part.origin)
              (subst (λ place. IsCome plan trip book labels wanted.origin place label.ready tick) (sym part.place)
              (subst (λ ready. IsCome plan trip book labels wanted.origin wanted.place ready tick) (sym part.ready) (is.come tick (part.ticks tick held))));
        };
        some = part.some;
      }

  pub sound_all : (labels : List Label) → IsSound plan trip book labels → All (IsLabelOf plan trip book labels) labels
  sound_all labels sound number d within = label_more (λ l. Unit {0}) (take number labels) labels (grown_take labels number) (get_or labels number d) (sound number d within)

  sound_append : (old fresh : List Label) (wanted : Label) → IsSound plan trip book old → IsWanted plan trip book old wanted → All (IsPartOf wanted) fresh → IsSound plan trip book (old ++ fresh)
  sound_append old fresh wanted sound is parts n d within = elim (cases_lt n (length old)) [
    | inl early ↦ subst (λ labels. IsLabelOf plan trip book labels (get_or (old ++ fresh) n d)) (sym (take-append-le n old fresh (omega arith))) (subst (IsLabelOf plan trip book (take n old)) (sym (get_or_append_left old fresh d n early)) (sound n d early))
    | inr late ↦
        let long = length-append old fresh in
        let count : n ≡ length old + (n - length old) = omega arith in
        let taken : take n (old ++ fresh) ≡ old ++ take (n - length old) fresh = ap (λ k. take k (old ++ fresh)) count ∙ take-append-add old fresh (n - length old) in
        let more : IsGrown (λ l. Unit {0}) old (take n (old ++ fresh)) = (take (n - length old) fresh, taken, λ i e inside. tt) in
        let part : IsPartOf wanted (get_or fresh (n - length old) d) = parts (n - length old) d (omega arith) in
        subst (IsLabelOf plan trip book (take n (old ++ fresh))) (sym (get_or-append_right old fresh (length old) n d refl (omega arith))) (label_of_part (take n (old ++ fresh)) wanted _ (wanted_more (λ l. Unit {0}) old (take n (old ++ fresh)) more wanted is) part)
  ]

  -- labels for a part of ticks that came from somewhere
  sound_more : (old new : List Label) (wanted : Label) → IsSound plan trip book old → IsWanted plan trip book old wanted → IsGrown (IsPartOf wanted) old new → IsSound plan trip book new
  sound_more old new wanted sound is grown = subst (IsSound plan trip book) (sym grown.1) (sound_append old grown.0 wanted sound is grown.2)

  pub search_more : (old new : Search) (wanted : Label) → IsSearch plan trip book old → IsWanted plan trip book old.labels.labels wanted → new.labels.places ≡ old.labels.places → IsGrown (IsPartOf wanted) old.labels.labels new.labels.labels → new.best ≡ old.best → new.limits ≡ old.limits → IsSearch plan trip book new
  search_more old new wanted search is places grown best limits = record {
    places = places ∙ search.places;
    sound = sound_more old.labels.labels new.labels.labels wanted search.sound is grown;
    best = subst (λ b. IfSome b (IsEnding plan trip book new.labels.labels)) (sym best) (best_more (IsPartOf wanted) old.labels.labels new.labels.labels grown old.best search.best);
    limits = subst IsLimits (sym limits) search.limits;
    low = subst (λ l. IsLow l.below new.best) (sym limits) (subst (IsLow old.limits.below) (sym best) search.low);
  }

  -- a tick that is reached is within the plan
  pub tick_within : (labels : List Label) → IsSound plan trip book labels → (place : ℕ) (ready : Bool) (tick : ℤ) → IsReached labels place ready tick → (place < length plan.places) × (pos 0 ≤ℤ tick) × (tick ≤ℤ plan.horizon)
  tick_within labels sound place ready tick at =
      let is = (sound_all labels sound at.0 at.1 at.2).wanted in
      let ticks = is.ticks in
      let same : get_or labels at.0 at.1 ≡ at.1 = at.3 in
      let low : pos 0 ≤ℤ at.1.ticks.from = subst (λ l. pos 0 ≤ℤ l.ticks.from) same ticks.0 in
      let high : at.1.ticks.to ≤ℤ plan.horizon = subst (λ l. l.ticks.to ≤ℤ plan.horizon) same ticks.1 in
      let held = at.4.2 in
      (subst (λ p. p < length plan.places) (ap (λ l. l.place) same ∙ at.4.0) is.place, omega (arith, ints, held.0), omega (arith, ints, held.1))

pub further_none : (search : Search) → IsFurther search search
further_none search = record { grown = grown_none (λ label. Unit {0}) search.labels.labels; better = λ leave beaten. beaten; limits = refl }

pub further_more : (old middle new : Search) → IsFurther old middle → IsFurther middle new → IsFurther old new
further_more old middle new first second = record {
  grown = grown_more (λ label. Unit {0}) old.labels.labels middle.labels.labels new.labels.labels first.grown second.grown;
  better = λ leave beaten. second.better leave (first.better leave beaten);
  limits = second.limits ∙ first.limits;
}

pub admitted_further : (trip : Trip) (old new : Search) → IsFurther old new → (target : Target) (leave : ℤ) → IsAdmitted trip old target leave → IsAdmitted trip new target leave
admitted_further trip old new further (To place) leave admitted = reached_more (λ label. Unit {0}) old.labels.labels new.labels.labels place false leave further.grown admitted
admitted_further trip old new further End leave admitted = λ arrives. further.better leave (admitted arrives)

pub move_further : (plan : Plan) (trip : Trip) (book : Book) (old new : Search) → IsFurther old new → (place : ℕ) (tick : ℤ) (number : ℕ) → IsMoveExplored plan trip book place tick number old → IsMoveExplored plan trip book place tick number new
move_further plan trip book old new further place tick number explored free low =
    admitted_further trip old new further _ _ (explored free (subst (λ limits. IsBelow limits (move_at plan place number).target (leave_of plan place (step_at number tick))) further.limits low))

pub front_further : (plan : Plan) (old new : Search) (front : Front) → IsFurther old new → IsFrontOf plan old front → IsFrontOf plan new front
front_further plan old new front further is = record {
  place = is.place;
  ticks = is.ticks;
  reached = λ tick held. reached_more (λ label. Unit {0}) old.labels.labels new.labels.labels front.place front.ready tick further.grown (is.reached tick held);
}

pub explored_further : (plan : Plan) (trip : Trip) (book : Book) (old new : Search) → IsFurther old new → (place : ℕ) (ready : Bool) (tick : ℤ) → IsExplored plan trip book old place ready tick → IsExplored plan trip book new place ready tick
explored_further plan trip book old new further place ready tick explored = record {
  waits = λ standing arrived enter after early fits. reached_more (λ label. Unit {0}) old.labels.labels new.labels.labels place true enter further.grown (explored.waits standing arrived enter after early fits);
  moves = λ goes number within. move_further plan trip book old new further place tick number (explored.moves goes number within);
}
