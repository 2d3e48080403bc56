use Rattle.std.proofs.Common.{◌≡◌, ◌↔◌, ◌+◌, ◌∷◌, ◌++◌, Bool, true, false, Result, Ok, Err, [], take, length, get_or, inl, inr, refl, ap, sym, subst, ◌∙◌, arith, rules}
use Rattle.std.specs.Bool.{IsTrue}
use Rattle.std.specs.Result.{OnErr}
use Rattle.std.proofs.lemmas.List.{take_all, take_more}
use Rattle.plan_core.specs.declared.events.Event.{Event}
use Rattle.plan_core.specs.Events.{after, IsEnabled}
use Rattle.plan_core.specs.Runs.{Runs, Takes}
use Rattle.plan_core.specs.Worlds.{Plan}
use Rattle.plan_core.proofs.Running.{runs_more}
use Rattle.plan_core.proofs.worlds.World.run.Goals as goal

on_err : {T E : Type 0} (r : Result T E) (P : Type 0) → P → OnErr r P
on_err (Ok x) P known = tt
on_err (Err e) P known = known

takes_by : (old : Plan) (event : Event) (done : Bool) (new : Plan) → (IsTrue done ↔ IsEnabled old event) → (IsTrue done → new ≡ after old event) → ((¬ IsTrue done) → new ≡ old) → Takes old event new
takes_by old event true new enabled effect idle = inl (enabled.0 refl, effect refl)
takes_by old event false new enabled effect idle = inr (λ is. let wrong : ◌≡◌ {A = Bool} false true = enabled.1 is in cc, idle (λ yes. let wrong : ◌≡◌ {A = Bool} false true = yes in cc))

pub returns-in_err-step-clause-some : goal.returns-in_err-step-clause-some
returns-in_err-step-clause-some c = on_err c.from_residual.result _ (c.loop-event.event-index, subst (Runs c.args.self.now (take c.loop-event.event-index c.args.events.now)) (sym c.in_err-step.ensures.err) c.loop-event.invariant)

pub loop-event-preserved : goal.loop-event-preserved
loop-event-preserved c =
    let old = c.args.self.now in
    let events = c.args.events.now in
    let at = c.loop-event.event-index in
    let event = c.event-item.result in
    let takes : Takes c.loop-event.self event c.step.new.self = takes_by c.loop-event.self event c.in_ok-step.field-0 c.step.new.self c.in_ok-step.ensures.enabled c.in_ok-step.ensures.effect c.in_ok-step.ensures.idle in
    let more : take (at + 1) events ≡ take at events ++ event ∷ [] = take_more events at event c.loop-event-test.true ∙ ap (λ it. take at events ++ it ∷ []) (sym c.event-item.is) in
    subst (λ all. Runs old all c.step.new.self) (sym more) (runs_more old (take at events) c.loop-event.self event c.step.new.self c.loop-event.invariant takes)
