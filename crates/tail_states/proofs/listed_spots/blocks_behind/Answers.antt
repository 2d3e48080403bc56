use Rattle.std.proofs.Common.{◌≡◌, ◌∙◌, ◌<◌, sym, subst, ap, length, Some}
use Rattle.std.specs.Prelude.{slice_get}
use Rattle.blocking_time.specs.Runs.{block_at}
use Rattle.stair_pieces.specs.Places.{head_block}
use Rattle.tail_states.proofs.Firsts.{ends_within, head_within}
use Rattle.tail_states.proofs.Striding.{behind}
use Rattle.tail_states.proofs.listed_spots.blocks_behind.Goals as goal

pub beginning_at-requires : goal.beginning_at-requires
beginning_at-requires c =
    let net = c.args.net.now in
    let tail = c.args.spot.now.tail in
    let head : c.block_of-head.result.now ≡ block_at net (head_block tail) = c.block_of-head.ensures ∙ ap (λ tail. block_at net (head_block tail)) c.as_slice-tail.ensures in
    subst (λ block. block.to_point < length c.args.followers.now.by_point) (sym head)
    (ends_within net c.requires.points c.args.followers.now.by_point c.requires.followers.by_point.points (head_block tail) (head_within (length net.blocks) tail c.requires.gone c.requires.numbers))

pub returns : goal.returns
returns c =
    let net = c.args.net.now in
    let tail = c.args.spot.now.tail in
    let head : c.block_of-head.result.now ≡ block_at net (head_block tail) = c.block_of-head.ensures ∙ ap (λ tail. block_at net (head_block tail)) c.as_slice-tail.ensures in
    behind net c.args.followers.now.by_point tail c.beginning_at.result.now c.requires.followers.by_point c.requires.gone
    (subst (λ block. slice_get c.args.followers.now.by_point block.to_point ≡ Some c.beginning_at.result.now) head c.beginning_at.ensures)
