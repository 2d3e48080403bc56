use Rattle.std.proofs.Common.{◌≡◌, ◌+◌, ◌-◌, ◌<◌, ◌≤◌, ◌++◌, ◌∷◌, [], true, false, None, Some, length, map, take, get_or, refl, ap, sym, subst, ◌∙◌, arith}
use Rattle.std.specs.List.{flat_map}
use Rattle.std.proofs.lemmas.List.{take_all, take-append-le, take-take}
use Rattle.rail_types.specs.Timetables.{Timetable}
use Rattle.occupation_book.specs.Held.{held}
use Rattle.grant_log.specs.Following.{AreLive}
use Rattle.grant_log.specs.Legal.{Register}
use Rattle.plan_core.specs.Events.{begun, read, stopped, without_last, written}
use Rattle.plan_core.specs.Inside.{AreOne, Desk, IsAtLast, party_of, plan_of}
use Rattle.plan_core.specs.Parties.{changed_at, losing, noting, restarting, seeking, writing}
use Rattle.plan_core.specs.Worlds.{IsSettled, MayWrite, Plan}
use Rattle.plan_core.proofs.Keeping.{at_last, short, kept_begun, kept_first, kept_lost, kept_read, kept_seek, kept_settled, kept_stopped, kept_written}
use Rattle.std.proofs.lemmas.Option.{slice_get-get_or}
use Rattle.plan_core.proofs.Lists.{mapping}
use Rattle.plan_core.proofs.Whole.{plan_is, whole}
use Rattle.plan_core.proofs.worlds.World.stop_without_last.Goals as goal

pub lose_all-requires : goal.lose_all-requires
lose_all-requires c k d within =
    let s = c.self.inside in
    let world = plan_of s.history s.settled s.up s.clients.items in
    let unsettled : world.settled < length world.entries = subst (λ (it : Plan). it.settled < length it.entries) (sym c.self.view_is) c.requires in
    let desk = get_or s.clients.items k d in
    let here = mapping party_of s.clients.items k desk (slice_get-get_or s.clients.items k d within) in
    subst (λ n. IsAtLast (n - 1) desk.party.log) (sym c.front-last.ensures.front) (at_last world c.self.invariant.kept unsettled k desk.party here)

pub invariant_of-self : goal.invariant_of-self
invariant_of-self c =
    let s = c.self.inside in
    let world = plan_of s.history s.settled s.up s.clients.items in
    let unsettled : world.settled < length world.entries = subst (λ (it : Plan). it.settled < length it.entries) (sym c.self.view_is) c.requires in
    let left = length (take (length s.history.entries - 1) s.history.entries) in
    let less : left ≡ length s.history.entries - 1 = short world c.self.invariant.kept unsettled in
    let last : c.front-last.result - 1 ≡ length s.history.entries - 1 = ap (λ n. n - 1) c.front-last.ensures.front in
    let clients : map party_of c.restart_all.new.clients.items ≡ (stopped (without_last world)).clients = c.restart_all.ensures ∙ (ap (map (restarting (c.front-last.result - 1))) c.lose_all.ensures ∙ (ap (λ n. map (restarting n) (map (losing n) world.clients)) last ∙ ap (λ n. map (restarting n) (map (losing (length s.history.entries - 1)) world.clients)) (sym less))) in
    let live = subst (AreLive s.history.timetable (held s.claims)) (sym (take-take s.settled (length s.history.entries - 1) s.history.entries (omega (arith, unsettled)))) c.self.invariant.live in
    whole c.lose_last.new.history s.claims s.settled false c.restart_all.new.clients.items (stopped (without_last world)) (kept_lost world c.self.invariant.kept unsettled) c.lose_last.ensures.timetable c.lose_last.ensures.entries refl refl clients live c.self.invariant.zones
