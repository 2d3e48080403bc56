use Rattle.label_search.specs.Labels.{IsPartOf}
use Rattle.label_search.proofs.Covers.{covered_ready, covered_arrived, covered_with_ready, covered_with_arrived}
use Rattle.label_search.proofs.labels.extend_at.Goals as goal

pub extend-requires-clause-covered : goal.extend-requires-clause-covered
extend-requires-clause-covered c = covered_ready _ c.args.seen.now c.requires.covered _ c.requires.place _ c.if-wanted.true

pub returns-then-wanted-clause-covered : goal.returns-then-wanted-clause-covered
returns-then-wanted-clause-covered c = covered_with_ready _ c.args.seen.now c.requires.covered _ c.requires.place _ (IsPartOf c.args.wanted.now) _ c.extend.ensures.grown _ c.extend.ensures.covered c.if-wanted.true

pub extend-requires-else-wanted-clause-covered : goal.extend-requires-else-wanted-clause-covered
extend-requires-else-wanted-clause-covered c = covered_arrived _ c.args.seen.now c.requires.covered _ c.requires.place _ c.if-wanted.false

pub returns-else-wanted-clause-covered : goal.returns-else-wanted-clause-covered
returns-else-wanted-clause-covered c = covered_with_arrived _ c.args.seen.now c.requires.covered _ c.requires.place _ (IsPartOf c.args.wanted.now) _ c.extend-else-wanted.ensures.grown _ c.extend-else-wanted.ensures.covered c.if-wanted.false
