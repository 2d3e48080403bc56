-- What a client repeats when it sends a line again.
use Rattle.std.specs.Prelude.{◌≡◌, Bool, false, ◌&&◌, List, nat_eq, bytes_eq}
use Rattle.std.specs.Ordering.{int_eq}
use mathlib.Core.Bool.{beq}
use lib.Pointwise.{pointwise}
use Rattle.rail_types.specs.declared.paths.Claim.{Claim}
use Rattle.rail_types.specs.declared.paths.Window.{Window}
use Rattle.rail_types.specs.declared.paths.Run.{Run}
use Rattle.rail_types.specs.declared.paths.Path.{Path}
use Rattle.rail_types.specs.declared.trains.Train.{Train}
use Rattle.rail_types.specs.declared.trains.Stop.{Stop}
use Rattle.rail_types.specs.declared.trains.Request.{Request}
use Rattle.rail_types.specs.declared.entries.Deed.{Deed}
use Rattle.rail_types.specs.declared.entries.Deed.TheVariants.{Hold, Grant, Free}
use Rattle.rail_types.specs.declared.entries.Wanted.TheVariants.{Asked, Pinned}

-- both hold the same claims for the same reason; or grant a path to the same request,
-- with its train, whatever the path; or grant the same path, which the client gave
-- itself; or free the same entry
abbrev pub HaveSameContent : Deed → Deed → Type 0
HaveSameContent (Hold claims reason) (Hold others other) = (claims ≡ others) × (reason ≡ other)
HaveSameContent (Grant (Asked asked) path) (Grant (Asked other) granted) = asked ≡ other
HaveSameContent (Grant Pinned path) (Grant Pinned other) = path ≡ other
HaveSameContent (Free at) (Free other) = at ≡ other
HaveSameContent deed other = ⊥

-- whether two claims are equal
abbrev pub is_same_claim : Claim → Claim → Bool
is_same_claim a b =
    nat_eq a.zone b.zone && (int_eq a.span.from b.span.from && int_eq a.span.to b.span.to)

abbrev pub is_same_window : Window → Window → Bool
is_same_window a b = int_eq a.from b.from && int_eq a.to b.to

abbrev pub is_same_train : Train → Train → Bool
is_same_train a b =
    bytes_eq a.name b.name
    && (nat_eq a.length_m b.length_m
    && (nat_eq a.speed b.speed
    && (nat_eq a.accel b.accel && (nat_eq a.brake b.brake && nat_eq a.allowance b.allowance))))

abbrev pub is_same_stop : Stop → Stop → Bool
is_same_stop a b = nat_eq a.stop b.stop && nat_eq a.dwell b.dwell

abbrev pub is_same_request : Request → Request → Bool
is_same_request a b =
    is_same_train a.train b.train
    && (nat_eq a.origin b.origin
    && (nat_eq a.destination b.destination
    && (is_same_window a.depart b.depart
    && (is_same_window a.arrive b.arrive && pointwise is_same_stop a.stops b.stops))))

abbrev pub is_same_run : Run → Run → Bool
is_same_run a b =
    nat_eq a.block b.block
    && (int_eq a.enter b.enter && (int_eq a.leave b.leave && beq a.stops b.stops))

abbrev pub is_same_path : Path → Path → Bool
is_same_path a b = is_same_train a.train b.train && pointwise is_same_run a.runs b.runs

-- whether two deeds have the same content
abbrev pub has_same_content : Deed → Deed → Bool
has_same_content (Hold claims reason) (Hold others other) =
    pointwise is_same_claim claims others && bytes_eq reason other
has_same_content (Grant (Asked asked) path) (Grant (Asked other) granted) =
    is_same_request asked other
has_same_content (Grant Pinned path) (Grant Pinned other) = is_same_path path other
has_same_content (Free at) (Free other) = nat_eq at other
has_same_content deed other = false
