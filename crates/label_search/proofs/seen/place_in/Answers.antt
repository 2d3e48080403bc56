use Rattle.std.proofs.Common.{List, get_or, sym, subst, ap, ◌∙◌, arith}
use Rattle.std.proofs.lemmas.List.{get_or_push}
use Rattle.std.proofs.lemmas.List.Elements.{All-push}
use Rattle.label_search.specs.declared.seen.SeenPlace.{SeenPlace}
use Rattle.label_search.specs.Labels.{AreCovered, IsCoveredAt}
use Rattle.label_search.proofs.Covers.{covered_new}
use Rattle.label_search.proofs.seen.place_in.Goals as goal

pub returns-in_err-push-clause-covered : goal.returns-in_err-push-clause-covered
returns-in_err-push-clause-covered c labels covered = subst (AreCovered labels) (sym c.in_err-push.ensures.items) covered

pub returns-clause-place : goal.returns-clause-place
returns-clause-place c d =
    let there = ap (λ (places : List SeenPlace). get_or places c.len-number.result d) c.in_ok-push.ensures.items ∙ get_or_push c.args.seen.now.items c.new.result d c.len-number.result (omega (arith, c.len-number.ensures)) in
    ap (λ (one : SeenPlace). one.place) there ∙ c.new.ensures.place

pub returns-clause-covered : goal.returns-clause-covered
returns-clause-covered c labels covered = subst (AreCovered labels) (sym c.in_ok-push.ensures.items) (All-push (λ one. IsCoveredAt labels one) c.args.seen.now.items c.new.result covered (covered_new labels c.new.result c.new.ensures.arrived c.new.ensures.ready))
