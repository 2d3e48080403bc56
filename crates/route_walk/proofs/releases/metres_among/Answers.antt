use Rattle.std.proofs.Common.{◌∙◌, sym}
use Rattle.route_walk.proofs.Strays.{release_more, release_none}
use Rattle.route_walk.proofs.releases.metres_among.Goals.{in-Some+in_ok-push, in_default}
use Rattle.route_walk.proofs.releases.metres_among.Goals as goal

pub points-preserved : goal.points-preserved
points-preserved c = elim c.match-release_at.branch [
  | in-Some+in_ok-push w ↦ rw (w.metres-is, w.in_ok-push.ensures.items) (release_more c.args.detectors c.args.releases.now.keys c.args.passed.now c.points.one-index _ c.points.metres.items c.points-test.true c.points.invariant w.in-Some.metre (sym c.release_at.ensures ∙ w.in-Some.is))
  | in_default w ↦ rw w.metres-is (release_none c.args.detectors c.args.releases.now.keys c.args.passed.now c.points.one-index _ c.points.metres.items c.points-test.true c.points.invariant (sym c.release_at.ensures ∙ w.in_default.is))
]
