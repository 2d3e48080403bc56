use Rattle.std.proofs.Common.{List, refl, subst, sym}
use Rattle.rail_types.specs.declared.tracks.Network.{Network}
use Rattle.capacity_406.specs.declared.trains.Occupied.{Occupied}
use Rattle.capacity_406.specs.Trains.{AreOwnApart}
use Rattle.capacity_406.specs.StretchTrains.{AreTrainsOn}
use Rattle.print_commands.specs.Capacities.{AreKnown}
use Rattle.print_commands.proofs.Told.{not_told_of_trains, told_of_trains}
use Rattle.print_commands.proofs.capacity_command.texts.text_of.Goals as goal

pub text_of_trains-requires-clause-own : goal.text_of_trains-requires-clause-own
text_of_trains-requires-clause-own c = subst (λ (trains : List Occupied). AreOwnApart trains) (sym c.deref.ensures.value) c.in-Ok.ensures.own

pub returns-clause-text : goal.returns-clause-text
returns-clause-text c =
    let stretch = c.args.stretch.now in
    let history = c.args.history.now in
    let here : AreKnown c.net.result.now.zones stretch = c.in_default.ensures.none refl in
    let known = subst (λ (net : Network). AreKnown net.zones stretch) c.net.ensures.net here in
    let run = subst (λ (trains : List Occupied). AreTrainsOn stretch history.timetable history.entries trains) (sym c.deref.ensures.value) c.in-Ok.ensures.selected in
    told_of_trains stretch history c.deref.result.now c.text_of_trains.result known run c.text_of_trains.ensures.few c.text_of_trains.ensures.text

pub returns-clause-refused : goal.returns-clause-refused
returns-clause-refused c =
    let stretch = c.args.stretch.now in
    let history = c.args.history.now in
    let here : AreKnown c.net.result.now.zones stretch = c.in_default.ensures.none refl in
    let known = subst (λ (net : Network). AreKnown net.zones stretch) c.net.ensures.net here in
    let run = subst (λ (trains : List Occupied). AreTrainsOn stretch history.timetable history.entries trains) (sym c.deref.ensures.value) c.in-Ok.ensures.selected in
    not_told_of_trains stretch history c.deref.result.now c.text_of_trains.result known run c.text_of_trains.ensures.refused
