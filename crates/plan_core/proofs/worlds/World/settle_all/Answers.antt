use Rattle.std.proofs.Common.{◌≡◌, ◌+◌, ◌-◌, ◌<◌, ◌≤◌, ◌++◌, ◌∷◌, [], true, false, None, Some, length, map, take, refl, ap, sym, subst, ◌∙◌, arith}
use Rattle.std.specs.List.{flat_map}
use Rattle.std.proofs.lemmas.List.{take_all, take-append-le}
use Rattle.rail_types.specs.Timetables.{Timetable}
use Rattle.occupation_book.specs.Held.{held}
use Rattle.grant_log.specs.Following.{AreLive}
use Rattle.grant_log.specs.Legal.{Register}
use Rattle.plan_core.specs.Events.{begun, read, stopped, without_last, written}
use Rattle.plan_core.specs.Inside.{AreOne, party_of, plan_of}
use Rattle.plan_core.specs.Parties.{changed_at, losing, noting, restarting, seeking, writing}
use Rattle.plan_core.specs.Worlds.{IsSettled, MayWrite, Plan}
use Rattle.plan_core.proofs.Keeping.{kept_begun, kept_first, kept_lost, kept_read, kept_seek, kept_settled, kept_stopped, kept_written}
use Rattle.plan_core.proofs.Whole.{plan_is, whole}
use Rattle.plan_core.proofs.worlds.World.settle_all.Goals as goal

pub invariant_of-self : goal.invariant_of-self
invariant_of-self c =
    let s = c.self.inside in
    let claims : held c.bring_up.new.copy ≡ held s.claims = ap (λ all. flat_map (λ one. one) all) c.in_err-bring_up.ensures.err in
    record {
      kept = c.self.invariant.kept;
      live = subst (λ all. AreLive s.history.timetable all (take s.settled s.history.entries)) (sym claims) c.self.invariant.live;
      zones = c.bring_up.ensures.zones ∙ c.self.invariant.zones;
    }

pub invariant_of-self-2 : goal.invariant_of-self-2
invariant_of-self-2 c =
    let s = c.self.inside in
    let world = plan_of s.history s.settled s.up s.clients.items in
    let live = subst (λ all. AreLive s.history.timetable (held c.bring_up.new.copy) all) (sym (take_all (length s.history.entries) s.history.entries (omega arith))) c.in_ok-bring_up.ensures.live in
    whole s.history c.bring_up.new.copy c.front-self-inside.result s.up s.clients.items (record world { settled = length s.history.entries }) (kept_settled world c.self.invariant.kept s.up) refl refl c.front-self-inside.ensures.front refl refl live (c.bring_up.ensures.zones ∙ c.self.invariant.zones)
