-- Paths that keep a request, and paths made of its moves.
use Rattle.rail_types.specs.declared.entries.Wanted.TheVariants.{Asked}
use Rattle.blocking_time.specs.Laws.{LegsAreTheRuns, TheFirstIsTold}
use Rattle.stair_pieces.specs.Places.{start_place}
use Rattle.stair_pieces.specs.Moves.{PathsAreMoves, MovesAreAPath}
use Rattle.stair_pieces.proofs.Asked.{paths_are_moves}
use Rattle.stair_pieces.proofs.Made.{moves_are_a_path, within_net}
use Rattle.stair_pieces.proofs.Requests.{request_kept, rules_kept}

module _ (legs : LegsAreTheRuns) (told : TheFirstIsTold) where
  pub a_path_is_a_list_of_moves : PathsAreMoves
  a_path_is_a_list_of_moves net settings request path long some within none =
      let keeps = (told.keeps net settings path (Asked request)).0 none in
      let asked = request_kept net request path some keeps.1 in
      let made = paths_are_moves net settings request path long within ((legs.keeps net settings path).0 keeps.0) asked in (
        record { train = asked.train_is; moves = made.0; times = made.1; departs = asked.departs; arrives = asked.arrives },
        made.2,
      )

  pub moves_make_a_path : MovesAreAPath
  moves_make_a_path net settings request path long some made =
      let kept = moves_are_a_path net settings request path long some made in (
        within_net net request path.runs start_place made.moves,
        (told.keeps net settings path (Asked request)).1 ((legs.keeps net settings path).1 kept.0, rules_kept net request path kept.1),
      )
