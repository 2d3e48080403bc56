use Rattle.std.proofs.Common.{◌≡◌, ◌+◌, ◌-◌, ◌<◌, ◌≤◌, ◌++◌, ◌∷◌, [], true, false, None, Some, length, map, take, refl, ap, sym, subst, ◌∙◌, arith}
use Rattle.std.specs.List.{flat_map}
use Rattle.std.proofs.lemmas.List.{take_all, take-append-le}
use Rattle.rail_types.specs.Timetables.{Timetable, timetable_of}
use Rattle.occupation_book.specs.Held.{held}
use Rattle.grant_log.specs.Following.{AreLive}
use Rattle.grant_log.specs.Legal.{Register}
use Rattle.plan_core.specs.Events.{begun, read, stopped, without_last, written}
use Rattle.plan_core.specs.Inside.{AreOne, party_of, plan_of}
use Rattle.plan_core.specs.Parties.{changed_at, losing, noting, restarting, seeking, writing}
use Rattle.plan_core.specs.Worlds.{first_world, IsSettled, MayWrite, Plan}
use Rattle.plan_core.proofs.Keeping.{kept_begun, kept_first, kept_lost, kept_read, kept_seek, kept_settled, kept_stopped, kept_written}
use Rattle.plan_core.proofs.Whole.{plan_is, whole}
use Rattle.plan_core.proofs.worlds.World.new.Goals as goal

pub invariant_of-result : goal.invariant_of-result
invariant_of-result c =
    let history = c.new-history.result in
    let timetable = timetable_of c.args.net c.args.base in
    let claims = c.in_ok-claims.claims in
    let live = subst (λ it. AreLive it (held claims) []) c.new-history.ensures.timetable (subst (AreLive history.timetable (held claims)) c.new-history.ensures.empty c.in_ok-claims.ensures.live) in
    whole history claims 0 true c.in_ok-clients.clients.items (first_world timetable c.args.clients) (kept_first timetable c.args.clients c.requires) c.new-history.ensures.timetable c.new-history.ensures.empty refl refl c.in_ok-clients.ensures live (c.in_ok-claims.ensures.zones ∙ ap (λ (it : Timetable). it.net.zones) c.new-history.ensures.timetable)
