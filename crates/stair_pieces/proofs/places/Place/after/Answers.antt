use Rattle.std.proofs.Common.{◌≡◌, [], sym, subst}
use Rattle.stair_pieces.specs.declared.places.Place.{Place}
use Rattle.stair_pieces.specs.Steps.{IsTailIn}
use Rattle.stair_pieces.proofs.Asked.{under_some}
use Rattle.stair_pieces.proofs.Walks.{tail_after}
use Rattle.stair_pieces.proofs.places.Place.after.Goals as goal

pub returns-clause-tail : goal.returns-clause-tail
returns-clause-tail c = subst (λ (place : Place). IsTailIn c.args.net.now c.args.train.now place.tail) (sym c.in_ok-place.ensures.value) (tail_after c.args.net.now c.args.train.now c.args.self.now.tail c.args.step.block c.requires.tail c.requires.step)

pub returns-clause-gone : goal.returns-clause-gone
returns-clause-gone c = subst (λ (place : Place). place.tail ≡ [] → ⊥) (sym c.in_ok-place.ensures.value) (under_some c.args.net.now c.args.train.now c.requires.tail.train_fits.length_m.0 c.args.self.now.tail c.args.step.block)
