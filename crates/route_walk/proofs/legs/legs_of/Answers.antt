use Rattle.std.proofs.Common.{rules, ◌∙◌, ◌<◌, ◌+◌, ◌*◌, sym, subst, Option, ℕ, length}
use Rattle.std.specs.Prelude.{IfSome}
use Rattle.route_walk.proofs.Passing.{short_step, step_none, step_some}
use Rattle.route_walk.proofs.legs.legs_of.Goals.{in-Some+in_ok-push-2+in_ok-push-3, in_default}
use Rattle.route_walk.proofs.legs.legs_of.Goals as goal

pub overflow_add-metres : goal.overflow_add-metres
overflow_add-metres c =
    let short = short_step _ c.args.places.now c.places.index c.places.metres c.length_m-metres.result c.requires.short c.requires.few c.places-test.true c.places.invariant.sum c.length_m-metres.ensures in
    search rules

pub places-preserved : goal.places-preserved
places-preserved c = elim c.match-number_at.branch [
  | in-Some+in_ok-push-2+in_ok-push-3 w ↦
      let number = sym c.number_at.ensures.number ∙ w.in-Some.is in
      let bound = subst (λ (o : Option ℕ). IfSome o (λ n. n < 2 * (length c.args.infra.now.detectors + length c.args.infra.now.buffer_stops))) w.in-Some.is c.number_at.ensures.bound in
      rw (w.passed-is, w.zones-is, w.in_ok-push-2.ensures.items, w.in_ok-push-3.ensures.items)
      (step_some c.args.infra.now c.args.graph.now c.args.route.now c.args.entry.now c.args.places.now c.places.index c.places.metres c.places.passed.items c.places.zones.items _ c.places.invariant c.places-test.true c.requires.behind
      c.length_m-metres.result c.length_m-metres.ensures w.in-Some.number number bound w.zone_to.result w.zone_to.ensures.zone w.zone_to.ensures.below)
  | in_default w ↦
      let none = sym c.number_at.ensures.number ∙ w.in_default.is in
      rw (w.passed-is, w.zones-is)
      (step_none c.args.infra.now c.args.graph.now c.args.route.now c.args.entry.now c.args.places.now c.places.index c.places.metres c.places.passed.items c.places.zones.items _ c.places.invariant c.places-test.true c.requires.behind
      c.length_m-metres.result c.length_m-metres.ensures none)
]
