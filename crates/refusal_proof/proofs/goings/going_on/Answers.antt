use Rattle.occupation_book.specs.Held.{held}
use Rattle.refusal_proof.proofs.Staying.{rolls_at_once}
use Rattle.refusal_proof.proofs.goings.going_on.Goals as goal

pub returns-then-not-place-clause-goes : goal.returns-then-not-place-clause-goes
returns-then-not-place-clause-goes c = rolls_at_once c.args.book.now c.args.net.now c.args.settings.now c.args.request.now c.args.place.now c.args.window.now c.requires.some c.at_once.result c.if-not-place.true (c.at_once.ensures.goes (held c.args.book.now))
