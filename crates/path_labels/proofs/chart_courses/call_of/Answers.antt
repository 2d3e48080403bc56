use Rattle.std.proofs.Common.{◌∙◌, [], ap, get_or, rules, sym}
use Rattle.tail_states.specs.Asked.{next_stop}
use Rattle.path_labels.proofs.Calling.{called_where_served}
use Rattle.path_labels.proofs.chart_courses.call_of.Goals as goal

pub returns : goal.returns
returns c =
    let blocks =
    c.from_vec.ensures ∙ c.in_ok-blocks.ensures.items ∙ sym c.serving.ensures
    ∙ ap (λ stop. get_or c.args.followers.now.by_stop stop []) c.stop_ahead.ensures in
    record {
      dwells = search rules;
      halts = called_where_served c.args.net.now (next_stop c.args.request.now c.args.made) c.args.followers.now.by_stop c.from_vec.result c.requires.followers.by_stop blocks;
    }
