-- The parts of a world belong together.
use Rattle.std.proofs.Common.{◌≡◌, ℕ, Bool, List, length, map, take, ap, sym, subst, ◌∙◌}
use Rattle.occupation_book.specs.Zones.{Zone}
use Rattle.occupation_book.specs.Held.{held}
use Rattle.rail_types.specs.Timetables.{Timetable}
use Rattle.rail_types.specs.declared.entries.Entry.{Entry}
use Rattle.grant_log.specs.Following.{AreLive}
use Rattle.grant_log.specs.Legal.{Register}
use Rattle.plan_core.specs.Inside.{AreOne, Desk, IsKept, party_of, plan_of}
use Rattle.plan_core.specs.Parties.{Party}
use Rattle.plan_core.specs.Worlds.{Plan}

pub plan_is : (history : Register) (settled : ℕ) (up : Bool) (desks : List Desk) (world : Plan) → history.timetable ≡ world.timetable → history.entries ≡ world.entries → settled ≡ world.settled → up ≡ world.up → map party_of desks ≡ world.clients → plan_of history settled up desks ≡ world
plan_is history settled up desks world timetable entries count runs clients =
    ap (λ (x : Timetable). record { timetable = x; entries = history.entries; settled = settled; up = up; clients = map party_of desks }) timetable
    ∙ (ap (λ (x : List Entry). record { timetable = world.timetable; entries = x; settled = settled; up = up; clients = map party_of desks }) entries
    ∙ (ap (λ (x : ℕ). record { timetable = world.timetable; entries = world.entries; settled = x; up = up; clients = map party_of desks }) count
    ∙ (ap (λ (x : Bool). record { timetable = world.timetable; entries = world.entries; settled = world.settled; up = x; clients = map party_of desks }) runs
    ∙ ap (λ (x : List Party). record { timetable = world.timetable; entries = world.entries; settled = world.settled; up = world.up; clients = x }) clients)))

-- parts that are seen as a world which is kept, with the claims that are live among its settled entries
pub whole : (history : Register) (claims : List Zone) (settled : ℕ) (up : Bool) (desks : List Desk) (world : Plan) → IsKept world → history.timetable ≡ world.timetable → history.entries ≡ world.entries → settled ≡ world.settled → up ≡ world.up → map party_of desks ≡ world.clients → AreLive world.timetable (held claims) (take world.settled world.entries) → length claims ≡ world.timetable.net.zones → AreOne history claims settled up desks
whole history claims settled up desks world kept timetable entries count runs clients live zones = record {
  kept = subst IsKept (sym (plan_is history settled up desks world timetable entries count runs clients)) kept;
  live = subst (λ x. AreLive x (held claims) (take settled history.entries)) (sym timetable) (subst (λ x. AreLive world.timetable (held claims) (take settled x)) (sym entries) (subst (λ x. AreLive world.timetable (held claims) (take x world.entries)) (sym count) live));
  zones = zones ∙ ap (λ (x : Timetable). x.net.zones) (sym timetable);
}
