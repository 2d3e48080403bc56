use Rattle.std.proofs.lemmas.List.Elements.{All-push}
use Rattle.rail_types.specs.Named.{IsId}
use Rattle.rail_types.specs.declared.infra_types.tracks.Track.{Track}
use Rattle.rail_types.specs.Infras.{IsTrack}
use Rattle.railjson_read.proofs.infra_lists.track_lists.push_track.Goals as goal

pub returns-clause-within : goal.returns-clause-within
returns-clause-within c = rw c.in_ok-push.ensures.ok (All-push (IsTrack) c.args.tracks.now c.in_ok-track.track c.requires.within c.in_ok-track.ensures.within)

pub returns-clause-named : goal.returns-clause-named
returns-clause-named c = rw c.in_ok-push.ensures.ok (All-push (λ (track : Track). IsId track.id) c.args.tracks.now c.in_ok-track.track c.requires.named (rw c.in_ok-track.ensures.id c.in_ok-id.ensures.named))
