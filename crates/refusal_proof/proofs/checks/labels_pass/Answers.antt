use Rattle.std.proofs.lemmas.List.{get_or_default}
use Rattle.std.proofs.lemmas.List.Elements.{AllWithin-more}
use Rattle.std.proofs.Common.{pos, subst}
use Rattle.refusal_proof.specs.declared.labels.Label.{Label}
use Rattle.refusal_proof.specs.Proofs.{claims_held}
use Rattle.refusal_proof.specs.Inside.{LabelPasses}
use Rattle.refusal_proof.proofs.checks.labels_pass.Goals as goal

pub label_passes-requires-clause-here : goal.label_passes-requires-clause-here
label_passes-requires-clause-here c =
    let e : Label = record { number = 0; window = record { from = pos 0; to = pos 0 } } in
    c.requires.moves.moves c.loop-label.label-index e c.loop-label-test.true

pub loop-label-preserved : goal.loop-label-preserved
loop-label-preserved c =
    let labels = c.args.labels.now in
    let k = c.loop-label.label-index in
    let e : Label = record { number = 0; window = record { from = pos 0; to = pos 0 } } in
    AllWithin-more (LabelPasses c.args.net.now c.args.settings.now c.args.request.now (claims_held c.args.book.now) c.args.places.now.members labels) labels 0 k c.loop-label.invariant
    (λ d. subst (LabelPasses c.args.net.now c.args.settings.now c.args.request.now (claims_held c.args.book.now) c.args.places.now.members labels) (get_or_default labels k e d c.loop-label-test.true) (c.in_ok-label_passes.ensures.0 c.if-not-branch.false))
