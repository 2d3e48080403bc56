use Rattle.std.proofs.Common.{length}
use Rattle.std.proofs.lemmas.List.Elements.{All-filter}
use Rattle.signal_blocks.specs.Inside.{IsOwn}
use Rattle.signal_blocks.specs.Names.{is_in_zone}
use Rattle.signal_blocks.specs.declared.zones.ZonedPiece.{ZonedPiece}
use Rattle.signal_blocks.proofs.zones.name_of.Goals as goal

pub zone_name-requires-clause-own : goal.zone_name-requires-clause-own
zone_name-requires-clause-own c =
    rw c.in_row.ensures (All-filter (is_in_zone c.args.zone) (λ (one : ZonedPiece). IsOwn (length c.args.tracks.now) one.piece) c.args.rows.now c.requires.own)
