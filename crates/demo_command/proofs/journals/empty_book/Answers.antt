use Rattle.std.proofs.Common.{[], subst, sym}
use Rattle.rail_types.specs.Timetables.{IsTimetable, timetable_of}
use Rattle.rail_types.specs.declared.bases.Base.{Base}
use Rattle.rail_types.specs.declared.tracks.Network.{Network}
use Rattle.demo_command.specs.Railways.{demo_network}
use Rattle.demo_command.proofs.Empty.{nothing_told}
use Rattle.demo_command.proofs.Sound.{is_timetable}
use Rattle.demo_command.proofs.journals.empty_book.Goals as goal

pub open-requires : goal.open-requires
open-requires c =
    subst (λ (net : Network). IsTimetable (timetable_of net c.base.result)) (sym c.requires)
    (subst (λ (base : Base). IsTimetable (timetable_of demo_network base)) (sym c.base.ensures) is_timetable)

pub returns-in-Ok-open-clause-empty : goal.returns-in-Ok-open-clause-empty
returns-in-Ok-open-clause-empty c =
    c.one_reading.ensures.once _ 2 _ _ _ c.in-Ok-open.book.entries [] c.in-Ok-open.ensures.tells (nothing_told _ _ _ _ c.in-Ok.ensures.contents)
