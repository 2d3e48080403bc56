use Rattle.std.proofs.Common.{◌≡◌, ◌<◌, length, All, AllPairs, subst, sym, ap, ◌∙◌}
use Rattle.rail_types.specs.Occupation.{Clash, HeldClaim}
use Rattle.rail_types.specs.Timetables.{base_claims}
use Rattle.occupation_book.specs.Held.{held}
use Rattle.grant_log.specs.Following.{Gains}
use Rattle.grant_log.specs.Rooms.{MayBeHeld}
use Rattle.std.proofs.lemmas.List.Elements.{All-contains}
use Rattle.grant_log.proofs.Elements.{all_by}
use Rattle.grant_log.proofs.Bringing.{planned_apart, planned_live, planned_may}
use Rattle.grant_log.proofs.copy_since.since.copy_of.Goals as goal

pub reserve_for-requires : goal.reserve_for-requires
reserve_for-requires c =
    let t = c.args.history.now.timetable in
    let count : length c.in_ok-book.book ≡ t.net.zones = c.in_ok-book.ensures.zones ∙ ap (λ net. net.zones) c.net.ensures.net in
    record { zones = subst (All (λ (one : HeldClaim). one.0.zone < length c.in_ok-book.book)) (sym (c.deref.ensures.value ∙ c.in_ok-planned.ensures)) (all_by (λ (one : HeldClaim). one.0.zone < length c.in_ok-book.book) (base_claims t) (λ one inside. (All-contains (MayBeHeld (length c.in_ok-book.book)) (base_claims t) one (planned_may t (length c.in_ok-book.book) c.net.ensures.timetable count) inside).zone)) }

pub hold_in_order-requires-clause-each : goal.hold_in_order-requires-clause-each
hold_in_order-requires-clause-each c =
    let t = c.args.history.now.timetable in
    let count : length c.reserve_for.new.book ≡ t.net.zones = c.reserve_for.ensures.zones ∙ c.in_ok-book.ensures.zones ∙ ap (λ net. net.zones) c.net.ensures.net in
    subst (All (MayBeHeld (length c.reserve_for.new.book))) (sym c.in_ok-planned.ensures) (planned_may t (length c.reserve_for.new.book) c.net.ensures.timetable count)

pub hold_in_order-requires-clause-apart : goal.hold_in_order-requires-clause-apart
hold_in_order-requires-clause-apart c = subst (AllPairs (λ (one other : HeldClaim). ¬ Clash one.0 other.0)) (sym c.in_ok-planned.ensures) (planned_apart c.args.history.now.timetable c.net.ensures.timetable)

pub bring_up-requires-clause-live : goal.bring_up-requires-clause-live
bring_up-requires-clause-live c =
    let t = c.args.history.now.timetable in
    planned_live t (held c.reserve_for.new.book) (held c.hold_in_order.new.book) (c.live_claims_follow.ensures.begin t) (c.reserve_for.ensures.held ∙ c.in_ok-book.ensures.empty) (subst (λ l. Gains (held c.reserve_for.new.book) l (held c.hold_in_order.new.book)) c.in_ok-planned.ensures c.hold_in_order.ensures.gained)
