use Rattle.std.proofs.Common.{◌≡◌, take, length, sym, subst, arith}
use Rattle.std.proofs.lemmas.List.{take_all}
use Rattle.occupation_book.specs.Held.{held}
use Rattle.grant_log.specs.Following.{AreLive}
use Rattle.plan_core.specs.Inside.{plan_of}
use Rattle.plan_core.specs.Worlds.{IsSettled}
use Rattle.plan_core.proofs.worlds.World.may_write.Goals as goal

pub joins-requires-clause-live : goal.joins-requires-clause-live
joins-requires-clause-live c =
    let s = c.self.inside in
    let settled : IsSettled (plan_of s.history s.settled s.up s.clients.items) = subst IsSettled (sym c.self.view_is) (c.is_settled.ensures.0 c.if-not-is_settled.false) in
    subst (AreLive s.history.timetable (held s.claims)) (take_all s.settled s.history.entries (omega (arith, settled))) c.self.invariant.live
