use Rattle.std.proofs.Common.{◌≡◌, ◌+◌, ◌-◌, ◌<◌, ◌≤◌, ◌++◌, ◌∷◌, [], true, false, None, Some, length, map, take, refl, ap, sym, subst, ◌∙◌, arith, length-append}
use Rattle.std.specs.List.{flat_map}
use Rattle.std.proofs.lemmas.List.{take_all, take-append-le}
use Rattle.rail_types.specs.Timetables.{Timetable}
use Rattle.occupation_book.specs.Held.{held}
use Rattle.grant_log.specs.Following.{AreLive}
use Rattle.grant_log.specs.Legal.{Register}
use Rattle.plan_core.specs.Events.{begun, read, stopped, without_last, written}
use Rattle.plan_core.specs.Inside.{AreOne, party_of, plan_of}
use Rattle.plan_core.specs.Parties.{changed_at, losing, noting, restarting, seeking, writing}
use Rattle.plan_core.specs.Worlds.{IsSettled, MayWrite, Plan}
use Rattle.plan_core.proofs.Keeping.{kept_begun, kept_first, kept_lost, kept_read, kept_seek, kept_settled, kept_stopped, kept_written}
use Rattle.plan_core.proofs.Whole.{plan_is, whole}
use Rattle.plan_core.proofs.worlds.World.write.Goals as goal

pub join-requires-clause-live : goal.join-requires-clause-live
join-requires-clause-live c =
    let s = c.self.inside in
    let world = plan_of s.history s.settled s.up s.clients.items in
    let settled : IsSettled world = subst IsSettled (sym c.self.view_is) c.requires.settled in
    subst (AreLive s.history.timetable (held s.claims)) (take_all s.settled s.history.entries (omega (arith, settled))) c.self.invariant.live

pub invariant_of-self-in_err-join : goal.invariant_of-self-in_err-join
invariant_of-self-in_err-join c =
    let s = c.self.inside in
    let world = plan_of s.history s.settled s.up s.clients.items in
    let settled : IsSettled world = subst IsSettled (sym c.self.view_is) c.requires.settled in
    let live = subst (AreLive s.history.timetable (held c.join.new.book)) (c.in_err-join.ensures.err ∙ sym (take_all s.settled s.history.entries (omega (arith, settled)))) c.join.ensures.live in
    whole c.join.new.history c.join.new.book s.settled s.up c.make_room.new.clients.items world c.self.invariant.kept c.join.ensures.timetable c.in_err-join.ensures.err refl refl c.make_room.ensures.parties live (c.join.ensures.zones ∙ c.self.invariant.zones)

pub invariant_of-self-2 : goal.invariant_of-self-2
invariant_of-self-2 c =
    let s = c.self.inside in
    let world = plan_of s.history s.settled s.up s.clients.items in
    let client = c.args.client in
    let entry = c.args.entry.now in
    let may : MayWrite world client entry = subst (λ (it : Plan). MayWrite it client entry) (sym c.self.view_is) c.requires in
    let entries : c.join.new.history.entries ≡ s.history.entries ++ entry ∷ [] = c.in_ok-join.ensures.ok ∙ ap (λ one. s.history.entries ++ one ∷ []) c.in_ok-copy.ensures in
    let long = length-append s.history.entries (entry ∷ []) in
    let count : c.front-self-inside.result ≡ length s.history.entries + 1 = c.front-self-inside.ensures.front ∙ (ap length entries ∙ long) in
    let clients : map party_of c.write.new.clients.items ≡ (written world client entry).clients = c.write.ensures ∙ (ap (changed_at client (writing c.front-at.result)) c.make_room.ensures.parties ∙ ap (λ n. changed_at client (writing n) world.clients) c.front-at.ensures.front) in
    let live = subst (AreLive s.history.timetable (held c.join.new.book)) (entries ∙ sym (take_all (length s.history.entries + 1) (s.history.entries ++ entry ∷ []) (omega (arith, long)))) c.join.ensures.live in
    whole c.join.new.history c.join.new.book c.front-self-inside.result s.up c.write.new.clients.items (written world client entry) (kept_written world c.self.invariant.kept client entry may) c.join.ensures.timetable entries count refl clients live (c.join.ensures.zones ∙ c.self.invariant.zones)
