use Rattle.std.proofs.Common.{rules, ◌≡◌, ◌<◌, length}
use Rattle.std.specs.List.{All}
use Rattle.signal_blocks.specs.declared.block_cuts.lines.SpeedRange.{SpeedRange}
use Rattle.signal_blocks.specs.Lines.{speed_ranges}
use Rattle.signal_blocks.proofs.Limits.{ranges_limited, ranges_on_tracks}
use Rattle.signal_blocks.proofs.railways.ranges_by_track.Goals as goal

pub of-requires : goal.of-requires
of-requires c =
    let same : c.in_ok-ranges.ranges ≡ speed_ranges c.args.infra.now.speeds = search rules in
    let all : All (λ (range : SpeedRange). range.range.track < length c.args.infra.now.tracks) c.in_ok-ranges.ranges = rw same (ranges_on_tracks c.args.infra.now c.requires) in
    rw c.len-tracks.ensures all

pub returns-clause-limits : goal.returns-clause-limits
returns-clause-limits c =
    let same : c.in_ok-rows.rows ≡ speed_ranges c.args.infra.now.speeds = search rules in
    rw same (ranges_limited c.args.infra.now c.requires)
