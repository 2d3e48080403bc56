use Rattle.std.proofs.Common.{◌≡◌, ℕ, length, All, AllPairs, List, refl, sym, subst, ◌∙◌}
use Rattle.rail_types.specs.declared.paths.Claim.{Claim}
use Rattle.rail_types.specs.Occupation.{Clash, HeldClaim}
use Rattle.path_recover.specs.claims.Held.{held, IsFree}
use Rattle.path_recover.specs.history.Following.{Gains}
use Rattle.path_recover.specs.history.Live.{claims_of, owned_by}
use Rattle.path_recover.specs.history.Rooms.{MayBeHeld}
use Rattle.path_recover.proofs.history_lemmas.Changing.{follow_gained, fresh_keeps, gained_apart}
use Rattle.path_recover.proofs.history_lemmas.Changing.{gained_free, gained_may}
use Rattle.carry_command.specs.CarriedInside.{carried_of}
use Rattle.carry_command.proofs.Going.{goes_with}
use Rattle.carry_command.proofs.carried_history.joining.keep.Goals as goal

pub hold_each-requires : goal.hold_each-requires
hold_each-requires c =
    let t = c.args.empty.now.timetable in
    let next = c.requires.next in
    let entries = carried_of c.args.old.now.entries c.args.carrying.now in
    let entry = c.args.entry.now in
    let place = c.len-place.result in
    let book = c.args.carrying.now.book in
    let laws = c.claims_are_on_the_network.ensures in
    let planned = c.net.ensures.timetable in
    let keeps = fresh_keeps t entries entry _ c.requires.joins.fresh (c.verdicts_say_what_they_mean.ensures.says t entries entry) in
    let own = sym c.requires.claims in
    record {
      each = subst (λ (claims : List Claim). All (MayBeHeld (length book)) (owned_by place claims)) own (gained_may t entry.deed place (length book) next.carried.zones (laws.zones t entry planned next.in_range) (laws.joined t entry next.in_range) (laws.near t entry planned next.in_range keeps));
      free = subst (λ (claims : List Claim). All (λ (one : HeldClaim). IsFree (held book) one.0) (owned_by place claims)) own (gained_free (held book) place (claims_of t entry.deed) (c.fresh_claims_are_free.ensures.fresh t entries entry (held book) next.carried.live c.requires.joins.fresh));
      apart = subst (λ (claims : List Claim). AllPairs (λ (one other : HeldClaim). ¬ Clash one.0 other.0) (owned_by place claims)) own (gained_apart place (claims_of t entry.deed) (laws.joined t entry next.in_range));
    }

pub returns : goal.returns
returns c =
    let t = c.args.empty.now.timetable in
    let next = c.requires.next in
    let old = c.args.old.now.entries in
    let before = c.args.carrying.now in
    let entries = carried_of old before in
    let entry = c.args.entry.now in
    let place : c.len-place.result ≡ length entries = c.len-place.ensures ∙ before.kept.ok.0 ∙ next.carried.carried.are_kept.count in
    let gained = subst (λ (p : ℕ × List Claim). Gains (held before.book) (owned_by p.0 p.1) (held c.hold_each.new.book)) (λ i. (place i, c.requires.claims i)) c.in_ok-hold_each.ensures.gained in
    let live = c.live_claims_follow.ensures.follow t entries entry (held before.book) (held c.hold_each.new.book) next.carried.live (follow_gained t entries entry.deed (held before.book) (held c.hold_each.new.book) next.live.takes_zones gained) in
    goes_with t old c.args.at before _ entry next c.requires.joins live c.in_ok-hold_each.ensures.zones c.in_ok-push_record.ensures.spelled c.in_ok-push_record.ensures.has c.in_ok-push.ensures.items refl
