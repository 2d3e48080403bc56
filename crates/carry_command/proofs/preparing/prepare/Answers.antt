use Rattle.std.proofs.Common.{◌≡◌, ◌∙◌, sym, ap, subst}
use Rattle.rail_types.specs.declared.tracks.Network.{Network}
use Rattle.rail_types.specs.Timetables.{Timetable, timetable_of}
use Rattle.command_files.specs.Timetables.{timetable_on}
use Rattle.carry_command.specs.Carried.{entries_at, IsCarriedOf}
use Rattle.carry_command.proofs.Whole.{told_prepares}
use Rattle.carry_command.proofs.preparing.prepare.Goals as goal

pub returns-in-Ok-carry-clause-prepares : goal.returns-in-Ok-carry-clause-prepares
returns-in-Ok-carry-clause-prepares c =
    let e = c.in-Ok-carry.ensures in
    let carried = c.in-Ok-carry.carried in
    let old = c.args.old.history in
    let same : c.new-empty.result.timetable ≡ timetable_on c.args.network.now c.args.base = c.new-empty.ensures.timetable ∙ ap (λ (n : Network). timetable_of n c.args.base.base) c.in-Ok.ensures in
    told_prepares c.args.network.now c.args.base old c.args.may_leave carried c.told_by.result
    (subst (λ (t : Timetable). IsCarriedOf t old.entries (entries_at old.entries carried.kept.items) carried.kept.items carried.left.items) same e.carried) e.spelled e.has c.requires.short c.told_by.ensures
