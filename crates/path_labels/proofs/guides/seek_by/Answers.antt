use Rattle.std.proofs.Common.{subst}
use Rattle.path_labels.specs.Guides.{IsGuide}
use Rattle.path_labels.proofs.guides.seek_by.Goals as goal

pub seek_along-requires-clause-course : goal.seek_along-requires-clause-course
seek_along-requires-clause-course c = subst (IsGuide c.args.net.now c.args.settings.now c.args.request.now) c.in-Listed.is c.requires.guide

pub seek_over-requires-clause-course : goal.seek_over-requires-clause-course
seek_over-requires-clause-course c = subst (IsGuide c.args.net.now c.args.settings.now c.args.request.now) c.in-Charted.is c.requires.guide
