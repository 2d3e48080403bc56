use Rattle.std.proofs.Common.{arith}
use Rattle.std.specs.List.{Contains}
use Rattle.signal_blocks.proofs.Ahead.{number_below, point_below}
use Rattle.track_graph.specs.Stands.{stands_of}
use Rattle.signal_blocks.proofs.posts.post_of_bal.Goals as goal

pub post_at-requires : goal.post_at-requires
post_at-requires c =
    let member : Contains (stands_of c.args.graph.now.stands c.args.bal.now.track) c.in_ok-stand.stand = rw (← c.stands.ensures.stands) c.in_ok-stand.ensures.member in
    let below = number_below _ _ _ c.in_ok-stand.stand c.stands.ensures.row member in
    let few = c.requires.few in
    omega (arith, below, few)

pub returns-clause-within : goal.returns-clause-within
returns-clause-within c =
    let member : Contains (stands_of c.args.graph.now.stands c.args.bal.now.track) c.in_ok-stand.stand = rw (← c.stands.ensures.stands) c.in_ok-stand.ensures.member in
    let below = number_below _ _ _ c.in_ok-stand.stand c.stands.ensures.row member in
    rw c.post_at.ensures (point_below c.args.bal.now.direction c.in_ok-stand.stand.number _ below)
