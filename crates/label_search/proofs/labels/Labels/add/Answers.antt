use Rattle.std.proofs.Common.{sym, subst, ap, ◌∙◌}
use Rattle.label_search.specs.declared.seen.SeenPlace.{SeenPlace}
use Rattle.label_search.specs.Labels.{IsCoveredAt, IsGrown, IsPartOf}
use Rattle.label_search.proofs.Covers.{all_covered_with, grown_none}
use Rattle.label_search.proofs.labels.Labels.add.Goals as goal

pub invariant_of-self : goal.invariant_of-self
invariant_of-self c = c.place_in.ensures.covered c.self.inside.labels.items c.self.invariant

pub returns-in_err-at-clause-grown : goal.returns-in_err-at-clause-grown
returns-in_err-at-clause-grown c = subst (λ known. IsGrown (IsPartOf c.args.wanted.now) known.labels c.self.inside.labels.items) c.self.view_is (grown_none (IsPartOf c.args.wanted.now) c.self.inside.labels.items)

pub extend_at-requires-clause-place : goal.extend_at-requires-clause-place
extend_at-requires-clause-place c = ap (λ (one : SeenPlace). one.place) c.index_mut-seen.ensures.value ∙ c.in_ok-at.ensures.place c.index_mut-seen.result.now

pub extend_at-requires-clause-covered : goal.extend_at-requires-clause-covered
extend_at-requires-clause-covered c = subst (IsCoveredAt c.self.inside.labels.items) (sym c.index_mut-seen.ensures.value) (c.place_in.ensures.covered c.self.inside.labels.items c.self.invariant c.in_ok-at.at c.index_mut-seen.result.now c.in_ok-at.ensures.within)

pub invariant_of-self-2 : goal.invariant_of-self-2
invariant_of-self-2 c = all_covered_with (IsPartOf c.args.wanted.now) c.self.inside.labels.items _ _ c.in_ok-at.at _ (c.place_in.ensures.covered c.self.inside.labels.items c.self.invariant) c.extend_at.ensures.grown c.extend_at.ensures.covered
