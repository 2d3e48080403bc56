use Rattle.std.proofs.Common.{◌∙◌, sym}
use Rattle.route_walk.proofs.Strays.{stray_here, stray_further}
use Rattle.route_walk.proofs.releases.first_stray.Goals as goal

pub returns-then-not-has : goal.returns-then-not-has
returns-then-not-has c = stray_here c.args.detectors.now.keys c.args.releases.now c.releases.release-index _ c.releases-test.true c.releases.invariant (sym c.has.ensures ∙ c.if-not-has.true)

pub releases-preserved : goal.releases-preserved
releases-preserved c = stray_further c.args.detectors.now.keys c.args.releases.now c.releases.release-index _ c.releases-test.true c.releases.invariant (sym c.has.ensures ∙ c.if-not-has.false)
