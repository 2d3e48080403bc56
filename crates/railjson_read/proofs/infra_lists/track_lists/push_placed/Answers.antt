use Rattle.std.proofs.Common.{length}
use Rattle.std.proofs.lemmas.List.Elements.{All-push}
use Rattle.rail_types.specs.Infras.{IsPlaced}
use Rattle.railjson_read.proofs.infra_lists.track_lists.push_placed.Goals as goal

pub returns-clause-within : goal.returns-clause-within
returns-clause-within c = rw c.in_ok-push.ensures.ok (All-push (IsPlaced (length c.args.tracks.now)) c.args.found.now c.in_ok-placed.placed c.requires.within c.in_ok-placed.ensures.within)
