use Rattle.std.proofs.Common.{◌≡◌, ◌<◌, sym, subst, arith, length, All}
use Rattle.blocking_time.specs.Runs.{block_at}
use Rattle.tail_states.specs.Following.{AreServing, AreServedBy}
use Rattle.tail_states.proofs.Firsts.{none_served, one_served_more}
use Rattle.tail_states.proofs.adjacency.by_stop.Goals as goal

pub loop-at-init : goal.loop-at-init
loop-at-init c = none_served c.args.net.now c.in_ok-serving.serving c.in_ok-serving.ensures.count c.in_ok-serving.ensures.empty

pub add_served-requires : goal.add_served-requires
add_served-requires c =
    let served : All (λ stop. stop < c.args.net.now.stops) (block_at c.args.net.now c.loop-at.at).serves = c.requires.served c.loop-at.at _ (omega (arith, c.loop-at-test.true, c.len-at-end.ensures)) in
    subst (λ block. All (λ stop. stop < length c.loop-at.serving) block.serves) (sym c.block_of.ensures)
    (subst (λ stops. All (λ stop. stop < stops) (block_at c.args.net.now c.loop-at.at).serves) (sym c.loop-at.invariant.stops) served)

pub loop-at-preserved : goal.loop-at-preserved
loop-at-preserved c =
    one_served_more c.args.net.now c.loop-at.at c.loop-at.serving _ c.loop-at.invariant
    (subst (λ block. AreServedBy block.serves c.loop-at.at c.loop-at.serving c.add_served.new.serving) c.block_of.ensures c.in_ok-add_served.ensures)

pub returns : goal.returns
returns c =
    let all : c.loop-at.at ≡ length c.args.net.now.blocks = omega (arith, c.loop-at-test.false, c.loop-at.auto.at-end, c.len-at-end.ensures) in
    subst (λ n. AreServing c.args.net.now n c.loop-at.serving) all c.loop-at.invariant
