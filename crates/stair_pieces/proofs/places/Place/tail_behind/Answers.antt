use Rattle.std.proofs.Common.{◌≡◌, ◌++◌, ◌∷◌, [], subst, sym, ◌∙◌}
use Rattle.stair_pieces.specs.Steps.{IsTailIn}
use Rattle.stair_pieces.proofs.Walks.{tail_with}
use Rattle.stair_pieces.proofs.places.Place.tail_behind.Goals as goal

pub first_under-gone-requires : goal.first_under-gone-requires
first_under-gone-requires c =
    let net = c.args.net.now in
    let train = c.args.train.now in
    let before = c.args.self.now.tail in
    let block = c.args.block in
    let blocks : c.as_slice.result.now ≡ before ++ block ∷ [] =
    c.as_slice.ensures ∙ c.in_ok-blocks.ensures in
    record { tail = subst (IsTailIn net train) (sym blocks) (tail_with net train before block c.requires.tail c.requires.block) }
