use Rattle.std.proofs.Common.{◌<◌, length, take, All, AllPairs, subst, sym, ◌∙◌, arith}
use Rattle.std.proofs.lemmas.List.{take_all}
use Rattle.rail_types.specs.Occupation.{Clash, HeldClaim}
use Rattle.rail_types.specs.declared.entries.Owner.TheVariants.{Entry as of_entry}
use Rattle.occupation_book.specs.Held.{AreOnZonesOf, IsFree, held}
use Rattle.grant_log.specs.Following.{AreLive, Gains}
use Rattle.grant_log.specs.Legal.{NoneClash}
use Rattle.grant_log.specs.Live.{live_claims}
use Rattle.grant_log.specs.Rooms.{MayBeHeld}
use Rattle.grant_log.specs.Since.{brought_since as brought_of}
use Rattle.grant_log.proofs.Elements.{all_by}
use Rattle.std.proofs.lemmas.List.Elements.{All-contains}
use Rattle.grant_log.proofs.Bringing.{brought_apart, brought_free, brought_up, freed_own, freed_zones, may_be_held}
use Rattle.grant_log.proofs.Gaining.{Left}
use Rattle.grant_log.proofs.copy_since.since.bring_up.Goals as goal

pub reserve_for-requires : goal.reserve_for-requires
reserve_for-requires c =
    let t = c.args.history.now.timetable in
    let entries = c.args.history.now.entries in
    let front = c.args.front in
    let laws = c.claims_are_on_the_network.ensures in
    let held_each = may_be_held t entries front c.net.ensures.timetable c.front.ensures.legal (laws.zones t) (laws.joined t) (laws.near t) (c.grants_keep_their_requests.ensures.requests t entries) (subst (λ l. NoneClash (live_claims t l)) (take_all (length entries) entries (omega arith)) (c.legal_histories_never_clash.ensures.none t entries (length entries) c.net.ensures.timetable c.front.ensures.legal)) (length c.args.copy.now) c.requires.zones in
    record { zones = subst (All (λ (one : HeldClaim). one.0.zone < length c.args.copy.now)) (sym (c.deref.ensures.value ∙ c.in_ok-brought.ensures)) (all_by (λ (one : HeldClaim). one.0.zone < length c.args.copy.now) (brought_of t entries front) (λ one inside. (All-contains (MayBeHeld (length c.args.copy.now)) (brought_of t entries front) one held_each inside).zone)) }

pub take_out_all-requires-clause-zones : goal.take_out_all-requires-clause-zones
take_out_all-requires-clause-zones c =
    let t = c.args.history.now.timetable in
    let entries = c.args.history.now.entries in
    let front = c.args.front in
    let laws = c.claims_are_on_the_network.ensures in
    subst (All (λ one. All (λ claim. claim.zone < length c.reserve_for.new.book) one.claims)) (sym c.deref-2.ensures.value) (freed_zones t entries front c.net.ensures.timetable c.front.ensures.legal (laws.zones t) (laws.joined t) (laws.near t) (c.grants_keep_their_requests.ensures.requests t entries) (subst (λ l. NoneClash (live_claims t l)) (take_all (length entries) entries (omega arith)) (c.legal_histories_never_clash.ensures.none t entries (length entries) c.net.ensures.timetable c.front.ensures.legal)) c.in_ok-freed.freed.items c.in_ok-freed.ensures (length c.reserve_for.new.book) (c.reserve_for.ensures.zones ∙ c.requires.zones))

pub take_out_all-requires-clause-all : goal.take_out_all-requires-clause-all
take_out_all-requires-clause-all c =
    let t = c.args.history.now.timetable in
    let entries = c.args.history.now.entries in
    let live : AreLive t (held c.reserve_for.new.book) (take c.args.front entries) = subst (λ l. AreLive t l (take c.args.front entries)) (sym c.reserve_for.ensures.held) c.requires.live in
    subst (All (λ one. AreOnZonesOf (of_entry one.at) (held c.reserve_for.new.book) one.claims)) (sym c.deref-2.ensures.value) (freed_own t entries c.args.front c.in_ok-freed.freed.items c.in_ok-freed.ensures (held c.reserve_for.new.book) live)

pub hold_in_order-requires-clause-each : goal.hold_in_order-requires-clause-each
hold_in_order-requires-clause-each c =
    let t = c.args.history.now.timetable in
    let entries = c.args.history.now.entries in
    let front = c.args.front in
    let laws = c.claims_are_on_the_network.ensures in
    subst (All (MayBeHeld (length c.take_out_all.new.book))) (sym c.in_ok-brought.ensures) (may_be_held t entries front c.net.ensures.timetable c.front.ensures.legal (laws.zones t) (laws.joined t) (laws.near t) (c.grants_keep_their_requests.ensures.requests t entries) (subst (λ l. NoneClash (live_claims t l)) (take_all (length entries) entries (omega arith)) (c.legal_histories_never_clash.ensures.none t entries (length entries) c.net.ensures.timetable c.front.ensures.legal)) (length c.take_out_all.new.book) (c.take_out_all.ensures.zones ∙ c.reserve_for.ensures.zones ∙ c.requires.zones))

pub hold_in_order-requires-clause-free : goal.hold_in_order-requires-clause-free
hold_in_order-requires-clause-free c =
    let t = c.args.history.now.timetable in
    let entries = c.args.history.now.entries in
    let front = c.args.front in
    let laws = c.claims_are_on_the_network.ensures in
    let none = (subst (λ l. NoneClash (live_claims t l)) (take_all (length entries) entries (omega arith)) (c.legal_histories_never_clash.ensures.none t entries (length entries) c.net.ensures.timetable c.front.ensures.legal)) in
    let live : AreLive t (held c.reserve_for.new.book) (take front entries) = subst (λ l. AreLive t l (take front entries)) (sym c.reserve_for.ensures.held) c.requires.live in
    let left : Left (held c.reserve_for.new.book) (held c.take_out_all.new.book) c.in_ok-freed.freed.items = subst (Left (held c.reserve_for.new.book) (held c.take_out_all.new.book)) c.deref-2.ensures.value c.take_out_all.ensures.left in
    subst (All (λ (one : HeldClaim). IsFree (held c.take_out_all.new.book) one.0)) (sym c.in_ok-brought.ensures) (brought_free t entries front c.net.ensures.timetable c.front.ensures.legal (laws.zones t) (laws.joined t) (laws.near t) (c.grants_keep_their_requests.ensures.requests t entries) none c.in_ok-freed.freed.items c.in_ok-freed.ensures (held c.reserve_for.new.book) (held c.take_out_all.new.book) live left)

pub hold_in_order-requires-clause-apart : goal.hold_in_order-requires-clause-apart
hold_in_order-requires-clause-apart c =
    let t = c.args.history.now.timetable in
    let entries = c.args.history.now.entries in
    let front = c.args.front in
    let laws = c.claims_are_on_the_network.ensures in
    subst (AllPairs (λ (one other : HeldClaim). ¬ Clash one.0 other.0)) (sym c.in_ok-brought.ensures) (brought_apart t entries front c.net.ensures.timetable c.front.ensures.legal (laws.zones t) (laws.joined t) (laws.near t) (c.grants_keep_their_requests.ensures.requests t entries) (subst (λ l. NoneClash (live_claims t l)) (take_all (length entries) entries (omega arith)) (c.legal_histories_never_clash.ensures.none t entries (length entries) c.net.ensures.timetable c.front.ensures.legal)))

pub returns-clause-live : goal.returns-clause-live
returns-clause-live c =
    let t = c.args.history.now.timetable in
    let entries = c.args.history.now.entries in
    let front = c.args.front in
    let live : AreLive t (held c.reserve_for.new.book) (take front entries) = subst (λ l. AreLive t l (take front entries)) (sym c.reserve_for.ensures.held) c.requires.live in
    let left : Left (held c.reserve_for.new.book) (held c.take_out_all.new.book) c.in_ok-freed.freed.items = subst (Left (held c.reserve_for.new.book) (held c.take_out_all.new.book)) c.deref-2.ensures.value c.take_out_all.ensures.left in
    let gains : Gains (held c.take_out_all.new.book) (brought_of t entries front) (held c.hold_in_order.new.book) = subst (λ l. Gains (held c.take_out_all.new.book) l (held c.hold_in_order.new.book)) c.in_ok-brought.ensures c.hold_in_order.ensures.gained in
    brought_up t entries front c.in_ok-freed.freed.items c.in_ok-freed.ensures (held c.reserve_for.new.book) (held c.take_out_all.new.book) (held c.hold_in_order.new.book) live left gains
