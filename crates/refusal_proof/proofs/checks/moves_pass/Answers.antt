use Rattle.std.proofs.lemmas.List.{get_or_default}
use Rattle.std.proofs.lemmas.List.Elements.{AllWithin-more}
use Rattle.std.proofs.Common.{subst}
use Rattle.occupation_book.specs.Held.{held}
use Rattle.running_time.specs.declared.edges.Edge.TheVariants.{Still}
use Rattle.tail_states.specs.declared.moves.Move.{Move}
use Rattle.tail_states.specs.declared.moves.Next.TheVariants.{End}
use Rattle.refusal_proof.specs.Inside.{MovePasses}
use Rattle.refusal_proof.proofs.checks.moves_pass.Goals as goal

pub loop-one-preserved : goal.loop-one-preserved
loop-one-preserved c =
    let moves = c.args.moves.now in
    let k = c.loop-one.one-index in
    let e : Move = record { step = record { block = 0; exit = Still }; next = End } in
    AllWithin-more (MovePasses c.args.net.now c.args.settings.now c.args.request.now (held c.args.book.now) c.args.labels.now c.args.onward.now.going.now c.args.onward.now.place.now) moves 0 k c.loop-one.invariant
    (λ d. subst (MovePasses c.args.net.now c.args.settings.now c.args.request.now (held c.args.book.now) c.args.labels.now c.args.onward.now.going.now c.args.onward.now.place.now) (get_or_default moves k e d c.loop-one-test.true) (c.in_ok-move_passes.ensures.0 c.if-not-branch.false))
