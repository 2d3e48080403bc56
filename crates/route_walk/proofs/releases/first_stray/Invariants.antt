use Rattle.std.proofs.Common.{◌≡◌, drop}
use Rattle.route_walk.specs.Releases.{first_stray}
use Rattle.route_walk.proofs.releases.first_stray.Given as goal

abbrev pub invariant-releases : goal.invariant-releases
invariant-releases l = first_stray l.detectors.keys (drop l.release-index l.releases) ≡ first_stray l.detectors.keys l.releases
