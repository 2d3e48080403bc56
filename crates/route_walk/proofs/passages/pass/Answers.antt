use Rattle.std.proofs.Common.{ap, ◌∙◌, sym, Some}
use Rattle.std.proofs.lemmas.Map.Views.{Contains-from_any}
use Rattle.std.proofs.lemmas.Bool.{eqb-true, not-false}
use Rattle.route_walk.specs.declared.places.Point.{Point}
use Rattle.route_walk.specs.Passages.{detector_of}
use Rattle.route_walk.proofs.passages.pass.Goals as goal

pub returns-then-not-branch-clause-passage : goal.returns-then-not-branch-clause-passage
returns-then-not-branch-clause-passage c =
    (c.in-Detector.detector, ap detector_of (c.in-Some.is ∙ ap (λ (p : Point). Some p) c.in-Detector.is), Contains-from_any eqb-true c.in-Detector.detector c.args.passed.now.keys (not-false _ (sym c.in_ok-insert.ensures.added ∙ c.if-not-branch.true)))
