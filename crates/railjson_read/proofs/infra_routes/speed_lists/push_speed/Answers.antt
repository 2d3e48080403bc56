use Rattle.std.proofs.lemmas.List.Elements.{All-push}
use Rattle.rail_types.specs.Infras.{IsSpeed, lengths_of}
use Rattle.railjson_read.proofs.infra_routes.speed_lists.push_speed.Goals as goal

pub returns-clause-within : goal.returns-clause-within
returns-clause-within c = rw c.in_ok-push.ensures.ok (All-push (IsSpeed (lengths_of c.args.tracks.now)) c.args.speeds.now c.in_ok-section.section c.requires.within c.in_ok-section.ensures.within)
