use Rattle.std.proofs.Common.{◌≡◌, [], refl, subst, Some}
use Rattle.std.specs.Prelude.{slice_get}
use Rattle.running_time.specs.declared.edges.Edge.TheVariants.{Still as Halted, Rolling}
use Rattle.tail_states.specs.Spots.{spot_after}
use Rattle.tail_states.proofs.Spotting.{sets_out}
use Rattle.tail_states.proofs.Striding.{starts_more}
use Rattle.tail_states.proofs.listed_spots.add_start.Goals as goal

pub spot_behind-requires-clause-step : goal.spot_behind-requires-clause-step
spot_behind-requires-clause-step c =
    sets_out c.args.net.now c.args.train.now c.args.block c.args.start.now Rolling c.requires.block (subst (λ b. b.serves ≡ [] → ⊥) c.block_of.ensures (c.if-not-is_served.ensures.0 refl)) c.requires.start

pub spot_behind-requires-2-clause-step : goal.spot_behind-requires-2-clause-step
spot_behind-requires-2-clause-step c =
    sets_out c.args.net.now c.args.train.now c.args.block c.args.start.now Halted c.requires.block (subst (λ b. b.serves ≡ [] → ⊥) c.block_of.ensures (c.if-not-is_served.ensures.0 refl)) c.requires.start

pub returns-clause-starts : goal.returns-clause-starts
returns-clause-starts c =
    let net = c.args.net.now in
    let train = c.args.train.now in
    let rolled = c.in_ok-spot_behind.ensures in
    let halted = c.in_ok-spot_behind-2.ensures in
    starts_more net train c.args.block c.args.members.now c.spot_behind.new.members c.spot_behind-2.new.members c.in_ok-spot_behind.field-0 c.in_ok-spot_behind-2.field-0
    c.requires.starts rolled.grown halted.grown
    (subst (λ p. slice_get c.spot_behind.new.members c.in_ok-spot_behind.field-0 ≡ Some (spot_after net train p (record { block = c.args.block; exit = Rolling }))) c.requires.start rolled.at)
    (subst (λ p. slice_get c.spot_behind-2.new.members c.in_ok-spot_behind-2.field-0 ≡ Some (spot_after net train p (record { block = c.args.block; exit = Halted }))) c.requires.start halted.at)
