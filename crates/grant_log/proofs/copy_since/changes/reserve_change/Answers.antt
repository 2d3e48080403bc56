use Rattle.std.proofs.Common.{◌<◌, length, All, subst, sym, ◌∙◌}
use Rattle.rail_types.specs.Occupation.{HeldClaim}
use Rattle.grant_log.proofs.Changing.{gained_zones}
use Rattle.grant_log.proofs.copy_since.changes.reserve_change.Goals as goal

pub reserve_for-requires : goal.reserve_for-requires
reserve_for-requires c =
    let t = c.args.history.now.timetable in
    let entry = c.args.entry.now in
    let change = rw c.in-One.is at c.requires.change in
    record { zones = subst (All (λ (one : HeldClaim). one.0.zone < length c.args.book.now)) (sym change.1) (gained_zones t entry.deed (length c.args.history.now.entries) (length c.args.book.now) c.requires.zones (c.claims_are_on_the_network.ensures.zones t entry c.net.ensures.timetable c.requires.joins.in_range)) }

pub reserve_for-requires-in-Gained : goal.reserve_for-requires-in-Gained
reserve_for-requires-in-Gained c =
    let t = c.args.history.now.timetable in
    let entry = c.args.entry.now in
    let change = rw c.in-Gained.is at c.requires.change in
    record { zones = subst (All (λ (one : HeldClaim). one.0.zone < length c.args.book.now)) (sym (c.as_slice.ensures ∙ change.1)) (gained_zones t entry.deed (length c.args.history.now.entries) (length c.args.book.now) c.requires.zones (c.claims_are_on_the_network.ensures.zones t entry c.net.ensures.timetable c.requires.joins.in_range)) }
