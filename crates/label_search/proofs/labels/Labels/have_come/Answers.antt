use Rattle.std.proofs.Common.{false, sym, subst, refl}
use Rattle.label_search.specs.Labels.{AreCovered, IsCoveredAt, IsReached}
use Rattle.label_search.proofs.Covers.{covered_arrived, reached_when_seen}
use Rattle.label_search.proofs.labels.Labels.have_come.Goals as goal

pub returns : goal.returns
returns c known tick held =
    let one = c.in-Some.one.now in
    let all : AreCovered c.self.inside.labels.items c.deref.result.now = subst (AreCovered c.self.inside.labels.items) (sym c.deref.ensures.value) c.self.invariant in
    let covered : IsCoveredAt c.self.inside.labels.items one = subst (IsCoveredAt c.self.inside.labels.items) (sym (c.in-Some.ensures.lookup.3.1 one)) (all _ one c.in-Some.ensures.lookup.3.0) in
    subst (λ known. IsReached known.labels c.args.place false tick) c.self.view_is
    (reached_when_seen c.self.inside.labels.items c.args.place false one.arrived tick (covered_arrived c.self.inside.labels.items one covered c.args.place c.if-one-place.false false refl) (c.has.ensures known tick held))
