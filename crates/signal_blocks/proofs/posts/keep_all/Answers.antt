use Rattle.std.proofs.Common.{◌≡◌, ◌<◌, get_or, length, arith}
use Rattle.std.proofs.lemmas.List.{get_or_default}
use Rattle.signal_blocks.specs.declared.posts.Post.{Post}
use Rattle.signal_blocks.specs.Inside.{IsPost}
use Rattle.signal_blocks.proofs.Nearest.{none_limited, none_nearest, post_kept, post_limited}
use Rattle.signal_blocks.proofs.posts.keep_all.Goals as goal

abbrev no_post : Post
no_post = record { point = 0; gap_m = 0; sight_m = 0 }

pub posts-init : goal.posts-init
posts-init c = record {
  nearest = none_nearest c.args.table.now c.requires.none;
  limits = none_limited _ c.args.table.now c.requires.none;
}

pub posts-preserved : goal.posts-preserved
posts-preserved c =
    let post : Post = get_or c.args.posts.now c.posts.post-index no_post in
    let lt = c.posts-test.true in
    let is : IsPost (length c.args.table.now) post = c.requires.posts c.posts.post-index no_post lt in
    let within : post.point < length c.posts.table = omega (arith, is.0, c.posts.auto.table) in
    let here : get_or c.args.posts.now c.posts.post-index post ≡ post = get_or_default c.args.posts.now c.posts.post-index post no_post lt in
    rw c.keep_nearest.ensures record {
      nearest = post_kept c.args.posts.now c.posts.table c.posts.post-index post lt here within c.posts.invariant.nearest;
      limits = post_limited (length c.args.table.now) c.posts.table post within is c.posts.invariant.limits;
    }
