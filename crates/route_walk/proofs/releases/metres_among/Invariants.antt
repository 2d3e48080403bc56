use Rattle.std.proofs.Common.{◌≡◌, take}
use Rattle.route_walk.specs.Releases.{releases_at}
use Rattle.route_walk.proofs.releases.metres_among.Given as goal

abbrev pub invariant-points : goal.invariant-points
invariant-points l = l.metres.items ≡ releases_at l.detectors l.releases.keys (take l.one-index l.passed)
