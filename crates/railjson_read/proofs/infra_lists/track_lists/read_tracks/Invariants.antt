use Rattle.rail_types.specs.InfraIds.{id_of_track}
use Rattle.std.proofs.Common.{◌≡◌, length, map, drop, []}
use Rattle.std.specs.Prelude.{All}
use Rattle.serde_json.specs.View.{view}
use Rattle.rail_types.specs.Named.{IsId}
use Rattle.infra_fields.specs.Fields.{read_each}
use Rattle.rail_types.specs.Infras.{IsTrack}
use Rattle.railjson_read.specs.Objects.{track_at}
use Rattle.railjson_read.proofs.infra_lists.track_lists.read_tracks.Given as goal

abbrev pub invariant-objects : goal.invariant-objects
invariant-objects l = record {
  read : read_each id_of_track track_at l.tracks (map view (drop l.value-index l.list)) ≡ read_each id_of_track track_at [] (map view l.list);
  count : length l.tracks ≡ l.value-index;
  within : All IsTrack l.tracks;
  named : All (λ track. IsId track.id) l.tracks;
}
