use Rattle.std.proofs.Common.{◌≡◌, ◌+◌, ◌<◌, ◌≤◌, ◌++◌, ◌∷◌, [], length, take, get_or, subst, sym}
use Rattle.std.proofs.Common.{ap, ◌∙◌, rules, refl, arith}
use Rattle.std.specs.Prelude.{IsPermutation}
use Rattle.std.proofs.lemmas.List.{length-map, take_all, take_more}
use Rattle.rail_types.specs.declared.paths.Claim.{Claim}
use Rattle.rail_types.specs.declared.entries.Owner.TheVariants.{Entry as of_entry}
use Rattle.rail_types.specs.Occupation.{HeldClaim}
use Rattle.path_recover.specs.claims.Held.{held, IsFree}
use Rattle.path_recover.specs.history.Following.{Gains}
use Rattle.path_recover.specs.history.Live.{owned_by}
use Rattle.path_recover.specs.history.Rooms.{MayBeHeld}
use Rattle.path_recover.proofs.history_lemmas.Gaining.{gains_more, gains_none, next_free, unheld}
use Rattle.carry_command.proofs.Held.{owned_at, owned_within}
use Rattle.carry_command.proofs.carried_history.holding.hold_each.Goals as goal

pub loop-claim-init : goal.loop-claim-init
loop-claim-init c = record { gained = gains_none (held c.args.book.now); zones = refl }

pub reserve-requires : goal.reserve-requires
reserve-requires c =
    let claims = c.args.claims.now in
    let at = c.loop-claim.claim-index in
    let here = owned_at c.args.at claims at unheld unheld.0 c.loop-claim-test.true in
    let may = subst (MayBeHeld (length c.args.book.now)) here (c.requires.each at unheld (owned_within c.args.at claims at c.loop-claim-test.true)) in
    subst (λ n. (get_or claims at unheld.0).zone < n) (sym c.loop-claim.invariant.zones) may.zone

pub insert-requires : goal.insert-requires
insert-requires c =
    let claims = c.args.claims.now in
    let at = c.loop-claim.claim-index in
    let owned = owned_by c.args.at claims in
    let next : HeldClaim = (get_or claims at unheld.0, of_entry c.args.at) in
    let within = owned_within c.args.at claims at c.loop-claim-test.true in
    let may = subst (MayBeHeld (length c.args.book.now)) (owned_at c.args.at claims at unheld unheld.0 c.loop-claim-test.true) (c.requires.each at unheld within) in
    let e = c.in_ok-reserve.ensures in
    record {
      zone = subst (λ n. next.0.zone < n) (sym (e.zones ∙ c.loop-claim.invariant.zones)) may.zone;
      ticks = may.ticks;
      near = may.near;
      free = subst (λ l. IsFree l next.0) (sym e.held) (next_free (held c.args.book.now) (held c.loop-claim.book) owned at next within (owned_at c.args.at claims at next unheld.0 c.loop-claim-test.true) c.loop-claim.invariant.gained c.requires.free c.requires.apart);
      room = e.room;
    }

pub loop-claim-preserved : goal.loop-claim-preserved
loop-claim-preserved c =
    let claims = c.args.claims.now in
    let at = c.loop-claim.claim-index in
    let owned = owned_by c.args.at claims in
    let next : HeldClaim = (get_or claims at unheld.0, of_entry c.args.at) in
    let within = owned_within c.args.at claims at c.loop-claim-test.true in
    let more : take (at + 1) owned ≡ take at owned ++ next ∷ [] = take_more owned at unheld within ∙ ap (λ (one : HeldClaim). take at owned ++ one ∷ []) (owned_at c.args.at claims at unheld unheld.0 c.loop-claim-test.true) in
    let before = held c.loop-claim.book in
    let gained = subst (λ l. IsPermutation (next ∷ l) (held c.insert.new.self)) c.in_ok-reserve.ensures.held c.insert.ensures.gained in
    record {
      gained = subst (λ l. Gains (held c.args.book.now) l (held c.insert.new.self)) (sym more) (gains_more (held c.args.book.now) (take at owned) before (held c.insert.new.self) next c.loop-claim.invariant.gained gained);
      zones = c.insert.ensures.zones ∙ (c.in_ok-reserve.ensures.zones ∙ c.loop-claim.invariant.zones);
    }

pub returns-clause-gained : goal.returns-clause-gained
returns-clause-gained c =
    let owned = owned_by c.args.at c.args.claims.now in
    let same : length owned ≡ length c.args.claims.now = length-map c.args.claims.now (λ (claim : Claim). (claim, of_entry c.args.at)) in
    let end : length c.args.claims.now ≤ c.loop-claim.claim-index = search rules in
    subst (λ l. Gains (held c.args.book.now) l (held c.loop-claim.book)) (take_all c.loop-claim.claim-index owned (omega (arith, same, end))) c.loop-claim.invariant.gained
