use Rattle.carry_command.proofs.Parts.{parts_moments, parts_whole}
use Rattle.carry_command.proofs.whole_files.parts.write_parts.Goals as goal

pub returns-clause-whole : goal.returns-clause-whole
returns-clause-whole g c =
    parts_whole g.D.Disk c.args.disk.now c.sync.new.self c.write_through.new.disk c.write_through-2.new.disk c.write_through-3.new.disk c.args.file.now c.split_at.result.0.now c.split_at.result.1.now c.requires.marked c.split_at.ensures.front c.split_at.ensures.back c.requires.empty c.in_ok-sync.ensures.durable
    c.sync.ensures.contents c.sync.ensures.crash c.in_ok-write_through.ensures.written c.in_ok-write_through.ensures.contents c.in_ok-write_through-2.ensures.written c.in_ok-write_through-2.ensures.contents c.in_ok-write_through-3.ensures.written

pub returns-clause-moments : goal.returns-clause-moments
returns-clause-moments g c =
    parts_moments g.D.Disk c.args.disk.now c.sync.new.self c.write_through.new.disk c.write_through-2.new.disk c.write_through-3.new.disk c.args.file.now c.split_at.result.0.now c.split_at.result.1.now c.requires.marked c.split_at.ensures.front c.split_at.ensures.back c.requires.empty c.in_ok-sync.ensures.durable
    c.sync.ensures.contents c.sync.ensures.crash c.in_ok-write_through.ensures.written c.in_ok-write_through.ensures.contents c.in_ok-write_through-2.ensures.written c.in_ok-write_through-2.ensures.contents c.in_ok-write_through-3.ensures.written
    c.sync.ensures.time c.write_through.ensures.time c.write_through-2.ensures.time c.write_through-3.ensures.time
