use Rattle.std.proofs.Common.{◌<◌, [], length, take, All, AllPairs, subst, sym, ◌∙◌, arith}
use Rattle.std.proofs.lemmas.List.{take_all}
use Rattle.std.proofs.lemmas.List.Elements.{All-contains}
use Rattle.rail_types.specs.Occupation.{Clash, HeldClaim}
use Rattle.occupation_book.specs.Held.{IsFree, held}
use Rattle.grant_log.specs.Following.{AreLive, Gains}
use Rattle.grant_log.specs.Legal.{NoneClash}
use Rattle.grant_log.specs.Live.{live_claims}
use Rattle.grant_log.specs.Rooms.{MayBeHeld}
use Rattle.grant_log.specs.Since.{brought_since as brought_of}
use Rattle.grant_log.proofs.Elements.{all_by}
use Rattle.grant_log.proofs.Bringing.{brought_apart, brought_free, brought_up, may_be_held}
use Rattle.grant_log.proofs.Gaining.{left_none}
use Rattle.grant_log.proofs.copy_since.since.hold_brought.Goals as goal

pub reserve_for-requires : goal.reserve_for-requires
reserve_for-requires c =
    let t = c.args.history.now.timetable in
    let entries = c.args.history.now.entries in
    let front = c.args.front in
    let laws = c.claims_are_on_the_network.ensures in
    let held_each = may_be_held t entries front c.net.ensures.timetable c.front.ensures.legal (laws.zones t) (laws.joined t) (laws.near t) (c.grants_keep_their_requests.ensures.requests t entries) (subst (λ l. NoneClash (live_claims t l)) (take_all (length entries) entries (omega arith)) (c.legal_histories_never_clash.ensures.none t entries (length entries) c.net.ensures.timetable c.front.ensures.legal)) (length c.args.copy.now) c.requires.zones in
    record { zones = subst (All (λ (one : HeldClaim). one.0.zone < length c.args.copy.now)) (sym c.requires.brought) (all_by (λ (one : HeldClaim). one.0.zone < length c.args.copy.now) (brought_of t entries front) (λ one inside. (All-contains (MayBeHeld (length c.args.copy.now)) (brought_of t entries front) one held_each inside).zone)) }

pub hold_all-requires-clause-each : goal.hold_all-requires-clause-each
hold_all-requires-clause-each c =
    let t = c.args.history.now.timetable in
    let entries = c.args.history.now.entries in
    let front = c.args.front in
    let laws = c.claims_are_on_the_network.ensures in
    subst (All (MayBeHeld (length c.reserve_for.new.book))) (sym c.requires.brought) (may_be_held t entries front c.net.ensures.timetable c.front.ensures.legal (laws.zones t) (laws.joined t) (laws.near t) (c.grants_keep_their_requests.ensures.requests t entries) (subst (λ l. NoneClash (live_claims t l)) (take_all (length entries) entries (omega arith)) (c.legal_histories_never_clash.ensures.none t entries (length entries) c.net.ensures.timetable c.front.ensures.legal)) (length c.reserve_for.new.book) (c.reserve_for.ensures.zones ∙ c.requires.zones))

pub hold_all-requires-clause-free : goal.hold_all-requires-clause-free
hold_all-requires-clause-free c =
    let t = c.args.history.now.timetable in
    let entries = c.args.history.now.entries in
    let front = c.args.front in
    let laws = c.claims_are_on_the_network.ensures in
    let now = held c.reserve_for.new.book in
    let live : AreLive t now (take front entries) = subst (λ l. AreLive t l (take front entries)) (sym c.reserve_for.ensures.held) c.requires.live in
    subst (All (λ (one : HeldClaim). IsFree now one.0)) (sym c.requires.brought) (brought_free t entries front c.net.ensures.timetable c.front.ensures.legal (laws.zones t) (laws.joined t) (laws.near t) (c.grants_keep_their_requests.ensures.requests t entries) (subst (λ l. NoneClash (live_claims t l)) (take_all (length entries) entries (omega arith)) (c.legal_histories_never_clash.ensures.none t entries (length entries) c.net.ensures.timetable c.front.ensures.legal)) [] c.requires.freed now now live (left_none now))

pub hold_all-requires-clause-apart : goal.hold_all-requires-clause-apart
hold_all-requires-clause-apart c =
    let t = c.args.history.now.timetable in
    let entries = c.args.history.now.entries in
    let front = c.args.front in
    let laws = c.claims_are_on_the_network.ensures in
    subst (AllPairs (λ (one other : HeldClaim). ¬ Clash one.0 other.0)) (sym c.requires.brought) (brought_apart t entries front c.net.ensures.timetable c.front.ensures.legal (laws.zones t) (laws.joined t) (laws.near t) (c.grants_keep_their_requests.ensures.requests t entries) (subst (λ l. NoneClash (live_claims t l)) (take_all (length entries) entries (omega arith)) (c.legal_histories_never_clash.ensures.none t entries (length entries) c.net.ensures.timetable c.front.ensures.legal)))

pub returns-clause-live : goal.returns-clause-live
returns-clause-live c =
    let t = c.args.history.now.timetable in
    let entries = c.args.history.now.entries in
    let front = c.args.front in
    let now = held c.reserve_for.new.book in
    let live : AreLive t now (take front entries) = subst (λ l. AreLive t l (take front entries)) (sym c.reserve_for.ensures.held) c.requires.live in
    let gains : Gains now (brought_of t entries front) (held c.hold_all.new.book) = subst (λ l. Gains now l (held c.hold_all.new.book)) c.requires.brought c.hold_all.ensures.gained in
    brought_up t entries front [] c.requires.freed now now (held c.hold_all.new.book) live (left_none now) gains
