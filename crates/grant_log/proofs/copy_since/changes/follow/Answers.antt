use Rattle.std.proofs.Common.{◌<◌, length, All, AllPairs, subst, sym, ◌∙◌}
use Rattle.rail_types.specs.declared.entries.Owner.TheVariants.{Entry as of_entry}
use Rattle.rail_types.specs.Occupation.{Clash, HeldClaim}
use Rattle.occupation_book.specs.Held.{AreOnZonesOf, IsFree, held}
use Rattle.grant_log.specs.Following.{Gains}
use Rattle.grant_log.specs.Rooms.{MayBeHeld}
use Rattle.grant_log.proofs.Changing.{follow_gained, follow_lost, fresh_keeps, gained_apart, gained_free, gained_may, lost_all, lost_zones}
use Rattle.grant_log.proofs.copy_since.changes.follow.Goals as goal

pub hold_all-requires-clause-each : goal.hold_all-requires-clause-each
hold_all-requires-clause-each c =
    let t = c.args.history.now.timetable in
    let entries = c.args.history.now.entries in
    let entry = c.args.entry.now in
    let change = rw c.in-One.is at c.requires.change in
    let keeps = fresh_keeps t entries entry _ c.requires.joins.fresh (c.verdicts_say_what_they_mean.ensures.says t entries entry) in
    let laws = c.claims_are_on_the_network.ensures in
    let in_range = c.requires.joins.in_range in
    subst (All (MayBeHeld (length c.args.book.now))) (sym change.1) (gained_may t entry.deed (length entries) (length c.args.book.now) c.requires.zones (laws.zones t entry c.net.ensures.timetable in_range) (laws.joined t entry in_range) (laws.near t entry c.net.ensures.timetable in_range keeps))

pub hold_all-requires-clause-free : goal.hold_all-requires-clause-free
hold_all-requires-clause-free c =
    let t = c.args.history.now.timetable in
    let entries = c.args.history.now.entries in
    let entry = c.args.entry.now in
    let change = rw c.in-One.is at c.requires.change in
    subst (All (λ (one : HeldClaim). IsFree (held c.args.book.now) one.0)) (sym change.1) (gained_free (held c.args.book.now) (length entries) _ (c.fresh_claims_are_free.ensures.fresh t entries entry (held c.args.book.now) c.requires.live c.requires.joins.fresh))

pub hold_all-requires-clause-apart : goal.hold_all-requires-clause-apart
hold_all-requires-clause-apart c =
    let t = c.args.history.now.timetable in
    let entry = c.args.entry.now in
    let change = rw c.in-One.is at c.requires.change in
    subst (AllPairs (λ (one other : HeldClaim). ¬ Clash one.0 other.0)) (sym change.1) (gained_apart (length c.args.history.now.entries) _ (c.claims_are_on_the_network.ensures.joined t entry c.requires.joins.in_range))

pub hold_all-requires-in-Gained-clause-each : goal.hold_all-requires-in-Gained-clause-each
hold_all-requires-in-Gained-clause-each c =
    let t = c.args.history.now.timetable in
    let entries = c.args.history.now.entries in
    let entry = c.args.entry.now in
    let change = rw c.in-Gained.is at c.requires.change in
    let keeps = fresh_keeps t entries entry _ c.requires.joins.fresh (c.verdicts_say_what_they_mean.ensures.says t entries entry) in
    let laws = c.claims_are_on_the_network.ensures in
    let in_range = c.requires.joins.in_range in
    subst (All (MayBeHeld (length c.args.book.now))) (sym (c.as_slice.ensures ∙ change.1)) (gained_may t entry.deed (length entries) (length c.args.book.now) c.requires.zones (laws.zones t entry c.net.ensures.timetable in_range) (laws.joined t entry in_range) (laws.near t entry c.net.ensures.timetable in_range keeps))

pub hold_all-requires-in-Gained-clause-free : goal.hold_all-requires-in-Gained-clause-free
hold_all-requires-in-Gained-clause-free c =
    let t = c.args.history.now.timetable in
    let entries = c.args.history.now.entries in
    let entry = c.args.entry.now in
    let change = rw c.in-Gained.is at c.requires.change in
    subst (All (λ (one : HeldClaim). IsFree (held c.args.book.now) one.0)) (sym (c.as_slice.ensures ∙ change.1)) (gained_free (held c.args.book.now) (length entries) _ (c.fresh_claims_are_free.ensures.fresh t entries entry (held c.args.book.now) c.requires.live c.requires.joins.fresh))

pub hold_all-requires-in-Gained-clause-apart : goal.hold_all-requires-in-Gained-clause-apart
hold_all-requires-in-Gained-clause-apart c =
    let t = c.args.history.now.timetable in
    let entry = c.args.entry.now in
    let change = rw c.in-Gained.is at c.requires.change in
    subst (AllPairs (λ (one other : HeldClaim). ¬ Clash one.0 other.0)) (sym (c.as_slice.ensures ∙ change.1)) (gained_apart (length c.args.history.now.entries) _ (c.claims_are_on_the_network.ensures.joined t entry c.requires.joins.in_range))

pub take_out-requires-clause-zones : goal.take_out-requires-clause-zones
take_out-requires-clause-zones c =
    let t = c.args.history.now.timetable in
    let entries = c.args.history.now.entries in
    let change = rw c.in-Lost.is at c.requires.change in
    subst (All (λ claim. claim.zone < length c.args.book.now)) (sym (c.as_slice-in-Lost.ensures ∙ change.1)) (lost_zones t entries _ (length c.args.book.now) c.requires.zones c.front.ensures.legal (λ entry in_range. c.claims_are_on_the_network.ensures.zones t entry c.net.ensures.timetable in_range))

pub take_out-requires-clause-all : goal.take_out-requires-clause-all
take_out-requires-clause-all c =
    let t = c.args.history.now.timetable in
    let entries = c.args.history.now.entries in
    let change = rw c.in-Lost.is at c.requires.change in
    subst (AreOnZonesOf (of_entry c.in-Lost.at) (held c.args.book.now)) (sym (c.as_slice-in-Lost.ensures ∙ change.1)) (lost_all t entries (held c.args.book.now) _ c.requires.live (λ claim at. c.live_claims_are_unfreed.ensures.unfreed t entries claim at))

pub returns-in-One-clause-follow : goal.returns-in-One-clause-follow
returns-in-One-clause-follow c =
    let change = rw c.in-One.is at c.requires.change in
    follow_gained c.args.history.now.timetable c.args.history.now.entries c.args.entry.now.deed (held c.args.book.now) (held c.hold_all.new.book) change.0 (subst (λ l. Gains (held c.args.book.now) l (held c.hold_all.new.book)) change.1 c.hold_all.ensures.gained)

pub returns-in-Gained-clause-follow : goal.returns-in-Gained-clause-follow
returns-in-Gained-clause-follow c =
    let change = rw c.in-Gained.is at c.requires.change in
    follow_gained c.args.history.now.timetable c.args.history.now.entries c.args.entry.now.deed (held c.args.book.now) (held c.hold_all-in-Gained.new.book) change.0 (subst (λ l. Gains (held c.args.book.now) l (held c.hold_all-in-Gained.new.book)) (c.as_slice.ensures ∙ change.1) c.hold_all-in-Gained.ensures.gained)

pub returns-in-Lost-clause-follow : goal.returns-in-Lost-clause-follow
returns-in-Lost-clause-follow c =
    let change = rw c.in-Lost.is at c.requires.change in
    follow_lost c.args.history.now.timetable c.args.history.now.entries c.args.entry.now.deed _ (held c.args.book.now) (held c.take_out.new.self) change.0 c.take_out.ensures.held
