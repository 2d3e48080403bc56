use Rattle.std.proofs.Common.{◌≡◌, ◌∙◌, ap}
use Rattle.rail_types.specs.declared.tracks.Network.{Network}
use Rattle.rail_types.specs.Timetables.{timetable_of}
use Rattle.command_files.specs.Timetables.{timetable_on}
use Rattle.print_commands.proofs.Histories.{history_on_disk, refused_on_disk}
use Rattle.carry_command.proofs.olds.history_on.Goals as goal

pub returns-in-Ok-read_journal-clause-history : goal.returns-in-Ok-read_journal-clause-history
returns-in-Ok-read_journal-clause-history g c =
    let e = c.in-Ok-read_journal.ensures in
    let found = c.in-Ok-read_journal.found in
    let same : c.new-empty.result.timetable ≡ timetable_on c.args.network.now c.args.base = c.new-empty.ensures.timetable ∙ ap (λ (net : Network). timetable_of net c.args.base.base) c.in-Ok.ensures in
    history_on_disk g.D.Disk c.args.network.now c.args.base c.new-empty.result.timetable found.history.entries found.gate c.args.disk.now c.read_journal.new.disk c.one_reading.ensures.found same e.found e.durable e.read e.cause

pub returns-in-Err-clause-refused : goal.returns-in-Err-clause-refused
returns-in-Err-clause-refused g c =
    let e = c.in-Err.ensures in
    let same : c.new-empty.result.timetable ≡ timetable_on c.args.network.now c.args.base = c.new-empty.ensures.timetable ∙ ap (λ (net : Network). timetable_of net c.args.base.base) c.in-Ok.ensures in
    refused_on_disk g.D.Disk c.args.network.now c.args.base c.new-empty.result.timetable c.in-Err.fault c.args.disk.now c.read_journal.new.disk same e.refused e.whole e.read e.cause
