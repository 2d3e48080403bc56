use Rattle.std.proofs.Common.{◌∙◌, ap}
use Rattle.label_search.specs.Charts.{move_of_way}
use Rattle.label_search.proofs.Lending.{way_numbered}
use Rattle.label_search.proofs.lent.charted_move.Goals as goal

pub move_along-requires : goal.move_along-requires
move_along-requires c =
    way_numbered c.args.charted.now.levels c.args.charted.now.made c.args.charted.now.call.now
    c.args.charted.now.ways.now c.args.number c.open_way.result.now c.args.charted.now.few
    c.requires c.open_way.ensures

pub returns : goal.returns
returns c =
    c.move_along.ensures
    ∙ ap (move_of_way c.args.charted.now.levels c.args.charted.now.made) c.open_way.ensures
