use Rattle.std.proofs.Common.{ℕ, List, arith, subst}
use Rattle.demo_command.specs.Counts.{DemoSession, IsCounted}
use Rattle.demo_command.specs.declared.summaries.Counts.{Counts}
use Rattle.demo_command.proofs.Holding.{are_held}
use Rattle.demo_command.proofs.Planned.{known_sound, one_plan_apart, one_plan_long, one_plan_named}
use Rattle.demo_command.proofs.sessions.hold_session.Goals as goal

pub serve_clients-requires-clause-some : goal.serve_clients-requires-clause-some
serve_clients-requires-clause-some g c κs within = let long = one_plan_long c.args.number c.in_ok-plans.plans.items c.in_ok-plans.ensures in omega arith

pub serve_clients-requires-clause-few : goal.serve_clients-requires-clause-few
serve_clients-requires-clause-few g c κs within = let long = one_plan_long c.args.number c.in_ok-plans.plans.items c.in_ok-plans.ensures in omega arith

pub serve_clients-requires-clause-named : goal.serve_clients-requires-clause-named
serve_clients-requires-clause-named g c κs within = one_plan_named c.args.number c.in_ok-plans.plans.items c.in_ok-plans.ensures

pub serve_clients-requires-clause-names : goal.serve_clients-requires-clause-names
serve_clients-requires-clause-names g c κs within = one_plan_apart c.args.number c.in_ok-plans.plans.items c.in_ok-plans.ensures

pub serve_clients-requires-clause-known : goal.serve_clients-requires-clause-known
serve_clients-requires-clause-known g c κs within = known_sound c.in_ok-known.known c.in_ok-known.ensures

pub returns-in_ok-counts-in-Ok : goal.returns-in_ok-counts-in-Ok
returns-in_ok-counts-in-Ok g c =
    let sessions : List DemoSession = c.in-Ok.sessions.items in
    let front : ℕ = c.front-front.result in
    let counts : Counts = c.in_ok-counts-in-Ok.counts in
    let counted : IsCounted sessions front counts = subst (λ (ss : List DemoSession). IsCounted ss front counts) c.deref.ensures.value c.in_ok-counts-in-Ok.ensures in
    are_held c.args.number _ c.in_ok-known.known c.in_ok-book.book c.in-Ok.book c.in_ok-plans.plans.items sessions front counts c.in_ok-known.ensures c.in_ok-book.ensures.timetable c.in_ok-book.ensures.empty c.in_ok-plans.ensures
    c.in-Ok.ensures.served counted c.front-front.ensures
