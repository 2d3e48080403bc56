use Rattle.std.proofs.Common.{◌∙◌, ap, sym, subst, All, ℕ, List}
use Rattle.std.proofs.lemmas.List.Elements.{All-push}
use Rattle.label_search.specs.Endings.{spots_before}
use Rattle.label_search.specs.Nearing.{IsNearTo}
use Rattle.path_labels.specs.declared.kept_nears.KeptNear.{KeptNear}
use Rattle.path_labels.specs.KeptNears.{IsNearKept}
use Rattle.path_labels.proofs.kept_nears.number_of.Goals as goal

pub returns-clause-kept : goal.returns-clause-kept
returns-clause-kept c =
    let spots = c.args.chart.now.spots in
    let near = c.in_ok-near.near in
    let lasts = c.in_ok-lasts.lasts in
    let one : KeptNear = record { blocks = c.in_ok-copy.field-0; near = near; lasts = lasts } in
    let is : IsNearKept spots one = record {
      near_is = subst (λ (blocks : List ℕ). IsNearTo spots blocks near) (c.as_slice-3.ensures ∙ sym c.in_ok-copy.ensures) c.in_ok-near.ensures;
      lasts_are = c.in_ok-lasts.ensures ∙ ap (λ (blocks : List ℕ). spots_before blocks spots) (c.as_slice-4.ensures ∙ sym c.in_ok-copy.ensures);
    } in
    subst (All (IsNearKept spots)) (sym c.in_ok-push.ensures.items) (All-push (IsNearKept spots) c.args.kept.now.items one c.requires.kept is)
