-- The ids of objects.
use Rattle.std.specs.Prelude.{ℕ, List}
use Rattle.rail_types.specs.declared.infra_types.tracks.OperationalPoint.{OperationalPoint}
use Rattle.rail_types.specs.declared.infra_types.tracks.Placed.{Placed}
use Rattle.rail_types.specs.declared.infra_types.routes.Route.{Route}
use Rattle.rail_types.specs.declared.infra_types.signals.Signal.{Signal}
use Rattle.rail_types.specs.declared.infra_types.tracks.SpeedSection.{SpeedSection}
use Rattle.rail_types.specs.declared.infra_types.switches.Switch.{Switch}
use Rattle.rail_types.specs.declared.infra_types.tracks.Track.{Track}

abbrev pub id_of_track : Track → List ℕ
id_of_track track = track.id

abbrev pub id_of_switch : Switch → List ℕ
id_of_switch switch = switch.id

abbrev pub id_of_placed : Placed → List ℕ
id_of_placed placed = placed.id

abbrev pub id_of_point : OperationalPoint → List ℕ
id_of_point point = point.id

abbrev pub id_of_route : Route → List ℕ
id_of_route route = route.id

abbrev pub id_of_signal : Signal → List ℕ
id_of_signal signal = signal.id

abbrev pub id_of_speed : SpeedSection → List ℕ
id_of_speed section = section.id
