-- What is reached is a place that moves lead to, at a tick of the plan.
use Rattle.std.proofs.Common.{◌≡◌, ◌∙◌, inl, inr, refl, sym, subst, ap, arith, ℕ, zero, suc, ◌<◌, List, [], ◌∷◌, Bool, true, false, All, length, get_or, take}
use Rattle.std.specs.Prelude.{◌⊎◌, ℤ, ◌≤ℤ◌}
use Rattle.std.proofs.lemmas.Int.{ints}
use Rattle.std.proofs.lemmas.List.{get_or-take, length-take}
use Rattle.std.proofs.lemmas.List.Elements.{Contains-get_or}
use Rattle.label_search.specs.declared.plans.Plan.{Plan}
use Rattle.label_search.specs.declared.plans.Target.TheVariants.{Place as To}
use Rattle.label_search.specs.declared.plans.Trip.{Trip}
use Rattle.label_search.specs.declared.plans.Member.{Member}
use Rattle.label_search.specs.declared.labels.Label.{Label}
use Rattle.label_search.specs.declared.labels.Origin.{Origin}
use Rattle.label_search.specs.declared.labels.Origin.TheVariants.{Start, Wait, Move}
use Rattle.label_search.specs.declared.searches.Search.{Search}
use Rattle.label_search.specs.Free.{Book}
use Rattle.free_windows.specs.Free.{Holds}
use Rattle.label_search.specs.Closed.{IsHeld, IsLedTo, IsMemberOf}
use Rattle.label_search.specs.Labels.{IsReached}
use Rattle.label_search.specs.Paths.{move_at}
use Rattle.label_search.specs.Search.{IsCome, IsSearch, IsSound}
use Rattle.label_search.proofs.Anys.{any_of}
use Rattle.label_search.proofs.Growth.{tick_within}

-- a place that is reached without a wait, and one that a train is ready at, which may be the start
abbrev IsLedAs : Plan → ℕ → Bool → Type 0
IsLedAs plan place false = IsLedTo plan place
IsLedAs plan place true = (place ≡ 0) ⊎ IsLedTo plan place

led_by_move : (plan : Plan) (from : ℕ) (before : Bool) (number place : ℕ) → (move_at plan from number).target ≡ To place → IsLedAs plan from before → IsLedTo plan place
led_by_move plan from false number place leads led = (from ∷ led.0, (led.1, (number, leads)))
led_by_move plan from true number place leads (inl start) = ([], (number, subst (λ n. (move_at plan n number).target ≡ To place) start leads))
led_by_move plan from true number place leads (inr led) = (from ∷ led.0, (led.1, (number, leads)))

-- moves lead to a place that is come to from places that moves lead to
led_come : (plan : Plan) (trip : Trip) (book : Book) (labels : List Label) → ((place : ℕ) (ready : Bool) (tick : ℤ) → IsReached labels place ready tick → IsLedAs plan place ready)
    → (origin : Origin) (place : ℕ) (ready : Bool) (tick : ℤ) → IsCome plan trip book labels origin place ready tick → IsLedAs plan place ready
led_come plan trip book labels led Start place ready tick come = subst (IsLedAs plan place) (sym come.1) (inl come.0)
led_come plan trip book labels led (Wait arrivals) place ready tick come = subst (IsLedAs plan place) (sym come.0) (inr (led place false _ come.1.came))
led_come plan trip book labels led (Move from before number) place ready tick come =
    let moved = come.1 in subst (IsLedAs plan place) (sym come.0) (led_by_move plan from before number place moved.target (led from before _ moved.came.0))

-- moves lead to what is reached by labels before a number where they lead to the places of all these
led_before : (plan : Plan) (labels : List Label) (number : ℕ)
    → ((first : ℕ) (d : Label) (tick : ℤ) → first < number → Holds (get_or labels first d).ticks tick → IsLedAs plan (get_or labels first d).place (get_or labels first d).ready)
    → (place : ℕ) (ready : Bool) (tick : ℤ) → IsReached (take number labels) place ready tick → IsLedAs plan place ready
led_before plan labels number led place ready tick at =
    let earlier : at.0 < number = let inside = at.2 in let long = length-take number labels in omega (arith, inside, long) in
    let same : get_or labels at.0 at.1 ≡ at.1 = sym (get_or-take number labels at.0 at.1 earlier) ∙ at.3 in
    let is = at.4 in
    let this = led at.0 at.1 tick earlier (subst (λ (l : Label). Holds l.ticks tick) (sym same) is.2) in
    subst (λ p. IsLedAs plan p ready) (ap (λ (l : Label). l.place) same ∙ is.0)
    (subst (λ r. IsLedAs plan (get_or labels at.0 at.1).place r) (ap (λ (l : Label). l.ready) same ∙ is.1) this)

-- so they lead to the place of each label, since each came from labels before it
led_label : (plan : Plan) (trip : Trip) (book : Book) (labels : List Label) → IsSound plan trip book labels → (most number : ℕ) (d : Label) (tick : ℤ) → number < most → number < length labels
    → Holds (get_or labels number d).ticks tick → IsLedAs plan (get_or labels number d).place (get_or labels number d).ready
led_label plan trip book labels sound zero number d tick below within there = absurd (omega (arith, below))
led_label plan trip book labels sound (suc most) number d tick below within there =
    led_come plan trip book (take number labels)
    (led_before plan labels number (λ first e at earlier held. led_label plan trip book labels sound most first e at (omega (arith, earlier, below)) (omega (arith, earlier, within)) held))
    (get_or labels number d).origin (get_or labels number d).place (get_or labels number d).ready tick ((sound number d within).wanted.come tick there)

-- what is reached without a wait was reached by moves
pub reached_by_a_move : (plan : Plan) (trip : Trip) (book : Book) (labels : List Label) → IsSound plan trip book labels → (place : ℕ) (tick : ℤ) → IsReached labels place false tick → IsLedTo plan place
reached_by_a_move plan trip book labels sound place tick at =
    let label = get_or labels at.0 at.1 in
    let same : label ≡ at.1 = at.3 in
    let is = at.4 in
    let there : Holds label.ticks tick = subst (λ l. Holds l.ticks tick) (sym same) is.2 in
    let led = led_label plan trip book labels sound (suc at.0) at.0 at.1 tick (omega arith) at.2 there in
    subst (λ p. IsLedAs plan p false) (ap (λ l. l.place) same ∙ is.0)
    (subst (λ r. IsLedAs plan label.place r) (ap (λ l. l.ready) same ∙ is.1) led)

pub members_within : (plan : Plan) (trip : Trip) (book : Book) (search : Search) → IsSearch plan trip book search → (members : List Member) → ((place : ℕ) (tick : ℤ) → IsHeld members place tick → IsReached search.labels.labels place false tick) → All (λ member. member.window.from ≤ℤ member.window.to) members → All (IsMemberOf plan) members
members_within plan trip book search is members reached some number d inside =
    let member = get_or members number d in
    let there : (tick : ℤ) → Holds member.window tick → IsReached search.labels.labels member.place false tick = λ tick held. reached member.place tick (any_of (λ one. (one.place ≡ member.place) × Holds one.window tick) members member (Contains-get_or members number d inside) (refl, held)) in
    let ticks : member.window.from ≤ℤ member.window.to = some number d inside in
    let begins = there member.window.from (omega (arith, ints), ticks) in
    let ends = there member.window.to (ticks, omega (arith, ints)) in
    record {
      place = reached_by_a_move plan trip book search.labels.labels is.sound member.place member.window.from begins;
      some = ticks;
      ticks = ((tick_within plan trip book search.labels.labels is.sound member.place false member.window.from begins).1, (tick_within plan trip book search.labels.labels is.sound member.place false member.window.to ends).2);
    }
