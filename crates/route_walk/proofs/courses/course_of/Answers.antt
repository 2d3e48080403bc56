use Rattle.std.proofs.Common.{◌≡◌, ◌∙◌, ◌+◌, ◌*◌, ◌<◌, length, arith, sym, subst, length-append}
use Rattle.std.proofs.lemmas.List.Elements.{All-push}
use Rattle.route_walk.specs.declared.passages.Passage.TheVariants.{On}
use Rattle.route_walk.specs.Places.{IsPlace}
use Rattle.route_walk.specs.Ways.{Comes}
use Rattle.route_walk.proofs.Runs.{last_on, ends_here, goes_on, seen_on, not_twice, on_or_twice}
use Rattle.route_walk.specs.declared.places.Place.{Place}
use Rattle.route_walk.specs.Courses.{IsOpen}
use Rattle.route_walk.proofs.Shortness.{open_short}
use Rattle.route_walk.proofs.courses.course_of.Goals as goal

pub unreachable-requires : goal.unreachable-requires
unreachable-requires c =
    let entry = c.requires.entry in
    let runs = subst (λ (p : Place). IsOpen (Comes c.args.infra.now c.args.graph.now c.args.ways.now) p c.args.exit c.steps.places.items) entry.is c.steps.invariant.runs in
    let short = open_short c.args.infra.now c.args.graph.now c.args.ways.now entry.route.direction entry.route.entry entry.route.exit c.args.exit c.requires.infra c.requires.layout entry.point c.steps.places.items runs c.steps.invariant.places in
    omega (arith, c.steps.invariant.count, c.requires.limit)

pub returns-then-not-goes_on-clause-ends : goal.returns-then-not-goes_on-clause-ends
returns-then-not-goes_on-clause-ends c =
    rw (c.in_ok-push.ensures.items, c.ending_of.ensures) (ends_here (Comes c.args.infra.now c.args.graph.now c.args.ways.now) c.args.entry.now c.args.exit c.steps.places.items c.steps.place c.in-Some.next c.steps.detectors.keys c.in_ok-passage.passage c.steps.invariant.runs c.steps.invariant.place c.steps.invariant.passed ((c.ahead.ensures.next c.in-Some.next).0 c.in-Some.is) c.in_ok-passage.ensures.passage (λ e. absurd (let on = c.goes_on.ensures.1 e in let off = c.if-not-goes_on.true in cc)))

pub returns-then-not-goes_on-clause-places : goal.returns-then-not-goes_on-clause-places
returns-then-not-goes_on-clause-places c = rw c.in_ok-push.ensures.items (All-push (IsPlace c.args.infra.now c.args.graph.now) c.steps.places.items c.in-Some.next c.steps.invariant.places c.in-Some.ensures.on)

pub returns-then-not-goes_on-clause-passed : goal.returns-then-not-goes_on-clause-passed
returns-then-not-goes_on-clause-passed c = λ e.
    rw c.in_ok-push.ensures.items (seen_on (Comes c.args.infra.now c.args.graph.now c.args.ways.now) c.args.entry.now c.args.exit c.steps.places.items c.steps.place c.in-Some.next c.steps.detectors.keys c.in_ok-passage.passage c.steps.invariant.runs c.steps.invariant.place c.steps.invariant.passed ((c.ahead.ensures.next c.in-Some.next).0 c.in-Some.is) c.in_ok-passage.ensures.passage c.pass.new.passed.keys (not_twice c.in_ok-passage.passage (sym c.ending_of.ensures ∙ e)) c.in_ok-passage.ensures.passed)

pub steps-preserved : goal.steps-preserved
steps-preserved c =
    let next = Comes c.args.infra.now c.args.graph.now c.args.ways.now in
    let on : c.in_ok-passage.passage ≡ On = c.goes_on.ensures.0 c.if-not-goes_on.false in
    rw c.in_ok-push.ensures.items (record {
      runs = goes_on next c.args.entry.now c.args.exit c.steps.places.items c.steps.place c.in-Some.next c.steps.detectors.keys c.in_ok-passage.passage c.steps.invariant.runs c.steps.invariant.place c.steps.invariant.passed ((c.ahead.ensures.next c.in-Some.next).0 c.in-Some.is) c.in_ok-passage.ensures.passage on;
      place = sym (last_on c.args.entry.now c.steps.places.items c.in-Some.next);
      passed = seen_on next c.args.entry.now c.args.exit c.steps.places.items c.steps.place c.in-Some.next c.steps.detectors.keys c.in_ok-passage.passage c.steps.invariant.runs c.steps.invariant.place c.steps.invariant.passed ((c.ahead.ensures.next c.in-Some.next).0 c.in-Some.is) c.in_ok-passage.ensures.passage c.pass.new.passed.keys (λ e. absurd (on_or_twice c.in_ok-passage.passage on e)) c.in_ok-passage.ensures.passed;
      here = c.in-Some.ensures.on;
      places = All-push (IsPlace c.args.infra.now c.args.graph.now) c.steps.places.items c.in-Some.next c.steps.invariant.places c.in-Some.ensures.on;
      count = (let count = c.steps.invariant.count in simp length-append (omega arith));
    })
