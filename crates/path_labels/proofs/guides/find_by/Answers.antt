use Rattle.std.proofs.Common.{subst}
use Rattle.path_labels.specs.Guides.{IsGuide}
use Rattle.path_labels.proofs.guides.find_by.Goals as goal

pub find_along-requires-clause-course : goal.find_along-requires-clause-course
find_along-requires-clause-course c = subst (IsGuide c.args.net.now c.args.settings.now c.args.request.now) c.in-Listed.is c.requires.guide

pub find_over-requires-clause-course : goal.find_over-requires-clause-course
find_over-requires-clause-course c = subst (IsGuide c.args.net.now c.args.settings.now c.args.request.now) c.in-Charted.is c.requires.guide
