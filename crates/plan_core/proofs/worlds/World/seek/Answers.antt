use Rattle.std.proofs.Common.{◌≡◌, ◌+◌, ◌-◌, ◌<◌, ◌≤◌, ◌++◌, ◌∷◌, [], true, false, None, Some, length, map, take, refl, ap, sym, subst, ◌∙◌, arith}
use Rattle.std.specs.List.{flat_map}
use Rattle.std.proofs.lemmas.List.{take_all, take-append-le}
use Rattle.rail_types.specs.Timetables.{Timetable}
use Rattle.occupation_book.specs.Held.{held}
use Rattle.grant_log.specs.Following.{AreLive}
use Rattle.grant_log.specs.Legal.{Register}
use Rattle.plan_core.specs.Events.{begun, read, stopped, without_last, written}
use Rattle.plan_core.specs.Inside.{AreOne, party_of, plan_of}
use Rattle.plan_core.specs.Parties.{changed_at, losing, noting, restarting, seeking, writing}
use Rattle.plan_core.specs.Worlds.{IsSettled, MayWrite, Plan}
use Rattle.plan_core.proofs.Keeping.{kept_begun, kept_first, kept_lost, kept_read, kept_seek, kept_settled, kept_stopped, kept_written}
use Rattle.plan_core.proofs.Whole.{plan_is, whole}
use Rattle.plan_core.proofs.worlds.World.seek.Goals as goal

pub invariant_of-self : goal.invariant_of-self
invariant_of-self c =
    let s = c.self.inside in
    let world = plan_of s.history s.settled s.up s.clients.items in
    whole s.history s.claims s.settled s.up c.seek.new.clients.items (record world { clients = changed_at c.args.client seeking world.clients }) (kept_seek world c.self.invariant.kept c.args.client) refl refl refl refl c.seek.ensures c.self.invariant.live c.self.invariant.zones
