-- What rules are asked, by requests, paths and deeds.
use Rattle.std.specs.Prelude.{◌-◌, ℤ, Option, Some, None, length, option_and_then, option_map}
use Rattle.std.specs.Prelude.{slice_get}
use Rattle.admission_rules.specs.declared.rules.Wish.{Wish}
use Rattle.rail_types.specs.declared.entries.Deed.{Deed}
use Rattle.rail_types.specs.declared.entries.Deed.TheVariants.{Hold, Grant, Free}
use Rattle.rail_types.specs.declared.entries.Wanted.TheVariants.{Asked, Pinned}
use Rattle.rail_types.specs.declared.paths.Path.{Path}
use Rattle.rail_types.specs.declared.paths.Run.{Run}
use Rattle.rail_types.specs.declared.paths.Window.{Window}
use Rattle.rail_types.specs.declared.trains.Request.{Request}
use Rattle.rail_types.specs.declared.trains.Train.{Train}

-- what is wished by a request: the train's length, and the windows that it names
abbrev pub asked_wish : Request → Wish
asked_wish request = record {
  length_m = request.train.length_m;
  depart = request.depart;
  arrive = request.arrive;
}

-- the window of a single tick
abbrev pub at_tick : ℤ → Window
at_tick tick = record { from = tick; to = tick }

-- the wish of a path by its train, its first run and its last one: both windows are single ticks
abbrev pub wish_between : Train → Run → Run → Wish
wish_between train first last = record {
  length_m = train.length_m;
  depart = at_tick first.enter;
  arrive = at_tick last.leave;
}

-- what is wished by a path that is given, None where it has no runs
abbrev pub given_wish : Path → Option Wish
given_wish path =
    option_and_then (λ first. option_map (wish_between path.train first)
    (slice_get path.runs (length path.runs - 1))) (slice_get path.runs 0)

-- what was wished by a deed: by a grant, what its request asks for or its
-- path gives; by others nothing
abbrev pub wish_of : Deed → Option Wish
wish_of (Grant (Asked request) path) = Some (asked_wish request)
wish_of (Grant Pinned path) = given_wish path
wish_of (Hold claims reason) = None
wish_of (Free at) = None
