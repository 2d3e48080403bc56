use Rattle.tail_states.proofs.Firsts.{first_serving}
use Rattle.tail_states.proofs.searches.first_blocks.Goals as goal

pub returns : goal.returns
returns c = first_serving c.args.net.now c.args.request.now c.args.followers.now.by_stop _ c.requires.followers.by_stop c.serving.ensures
