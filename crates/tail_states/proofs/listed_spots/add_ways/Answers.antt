use Rattle.std.proofs.Common.{◌≡◌, [], sym, subst, true≢false}
use Rattle.tail_states.proofs.Striding.{rolls, rolls_or_halts}
use Rattle.tail_states.proofs.listed_spots.add_ways.Goals as goal

pub returns-in_ok-add_way-2-clause-added : goal.returns-in_ok-add_way-2-clause-added
returns-in_ok-add_way-2-clause-added c =
    rolls_or_halts c.args.net.now c.args.train.now c.args.spot.now c.args.block c.add_way.new.members c.add_way-then-is_served.new.members
    c.args.ways.now c.add_way.new.ways c.add_way-then-is_served.new.ways c.in_ok-add_way-2.ensures.grown c.in_ok-add_way.ensures.added c.in_ok-add_way-2.ensures.added

pub returns-else-is_served-clause-added : goal.returns-else-is_served-clause-added
returns-else-is_served-clause-added c =
    rolls c.args.net.now c.args.train.now c.args.spot.now c.args.block c.add_way.new.members c.args.ways.now c.add_way.new.ways c.in_ok-add_way.ensures.added
    (λ served. true≢false (sym (c.if-is_served.ensures.1 (subst (λ b. b.serves ≡ [] → ⊥) (sym c.block_of.ensures) served))))
