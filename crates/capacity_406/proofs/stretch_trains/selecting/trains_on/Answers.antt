use Rattle.std.proofs.Common.{◌∙◌, List, subst}
use Rattle.occupation_book.specs.Held.{held}
use Rattle.rail_types.specs.Occupation.{HeldClaim}
use Rattle.grant_log.specs.Live.{live_claims}
use Rattle.capacity_406.specs.declared.trains.Occupied.{Occupied}
use Rattle.capacity_406.specs.Selecting.{AreSelected}
use Rattle.capacity_406.specs.StretchTrains.{is_train}
use Rattle.capacity_406.proofs.SelectedTrains.{held_apart, selected_alike}
use Rattle.capacity_406.proofs.stretch_trains.selecting.trains_on.Goals as goal

pub returns-clause-selected : goal.returns-clause-selected
returns-clause-selected c =
    let claims : List HeldClaim = held c.in_ok-book.book in
    let trains : List Occupied = c.in_ok-trains.trains.items in
    let chosen : AreSelected (is_train c.args.history.now.entries) c.args.stretch.now claims trains = subst (λ all. AreSelected (is_train c.args.history.now.entries) c.args.stretch.now all trains) (c.deref.ensures.value ∙ c.in_ok-held.ensures.claims) c.in_ok-trains.ensures in
    selected_alike (is_train c.args.history.now.entries) c.args.stretch.now claims (live_claims c.args.history.now.timetable c.args.history.now.entries) trains c.in_ok-book.ensures.live chosen

pub returns-clause-beside : goal.returns-clause-beside
returns-clause-beside c =
    let claims : List HeldClaim = held c.in_ok-book.book in
    let trains : List Occupied = c.in_ok-trains.trains.items in
    let chosen : AreSelected (is_train c.args.history.now.entries) c.args.stretch.now claims trains = subst (λ all. AreSelected (is_train c.args.history.now.entries) c.args.stretch.now all trains) (c.deref.ensures.value ∙ c.in_ok-held.ensures.claims) c.in_ok-trains.ensures in
    c.selected_trains_stand_beside_each_other.ensures.beside (is_train c.args.history.now.entries) c.args.stretch.now claims trains (held_apart claims c.zones.ensures.apart c.zones.ensures.near) chosen

pub returns-clause-own : goal.returns-clause-own
returns-clause-own c =
    let claims : List HeldClaim = held c.in_ok-book.book in
    let trains : List Occupied = c.in_ok-trains.trains.items in
    let chosen : AreSelected (is_train c.args.history.now.entries) c.args.stretch.now claims trains = subst (λ all. AreSelected (is_train c.args.history.now.entries) c.args.stretch.now all trains) (c.deref.ensures.value ∙ c.in_ok-held.ensures.claims) c.in_ok-trains.ensures in
    c.selected_trains_stand_beside_each_other.ensures.own (is_train c.args.history.now.entries) c.args.stretch.now claims trains (held_apart claims c.zones.ensures.apart c.zones.ensures.near) chosen
