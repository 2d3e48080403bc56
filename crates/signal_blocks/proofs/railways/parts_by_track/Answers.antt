use Rattle.std.proofs.Common.{rules, ◌≡◌, ◌<◌, length}
use Rattle.std.specs.List.{All}
use Rattle.signal_blocks.specs.declared.block_cuts.lines.StopPart.{StopPart}
use Rattle.signal_blocks.specs.Lines.{stop_parts}
use Rattle.signal_blocks.proofs.Limits.{parts_numbered, parts_on_tracks}
use Rattle.signal_blocks.proofs.railways.parts_by_track.Goals as goal

pub of-requires : goal.of-requires
of-requires c =
    let same : c.in_ok-parts.parts ≡ stop_parts c.args.infra.now.points = search rules in
    let all : All (λ (part : StopPart). part.part.track < length c.args.infra.now.tracks) c.in_ok-parts.parts = rw same (parts_on_tracks c.args.infra.now c.requires) in
    rw c.len-tracks.ensures all

pub returns-clause-numbers : goal.returns-clause-numbers
returns-clause-numbers c =
    let same : c.in_ok-rows.rows ≡ stop_parts c.args.infra.now.points = search rules in
    rw same (parts_numbered c.args.infra.now c.requires)
