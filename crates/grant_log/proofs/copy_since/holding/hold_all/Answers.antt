use Rattle.std.proofs.Common.{◌≡◌, ◌+◌, ◌<◌, ◌++◌, ◌∷◌, [], take, get_or, subst, sym, ◌∙◌, rules, refl}
use Rattle.std.proofs.lemmas.List.{take_all, take_more, get_or_default}
use Rattle.occupation_book.specs.Held.{held}
use Rattle.grant_log.specs.Following.{Gains}
use Rattle.grant_log.proofs.Gaining.{gains_more, gains_none, next_free, room_now, room_then, unheld}
use Rattle.grant_log.proofs.copy_since.holding.hold_all.Goals as goal

pub loop-one-init : goal.loop-one-init
loop-one-init c = record { gained = gains_none (held c.args.book.now); zones = refl; room = c.requires.room }

pub insert-requires-clause-zone : goal.insert-requires-clause-zone
insert-requires-clause-zone c = subst (λ n. (get_or c.args.claims.now c.loop-one.one-index unheld).0.zone < n) (sym c.loop-one.invariant.zones) (c.requires.each c.loop-one.one-index unheld c.loop-one-test.true).zone

pub insert-requires-clause-free : goal.insert-requires-clause-free
insert-requires-clause-free c =
    let claims = c.args.claims.now in
    let at = c.loop-one.one-index in
    let next = get_or claims at unheld in
    next_free (held c.args.book.now) (held c.loop-one.book) claims at next c.loop-one-test.true (get_or_default claims at next unheld c.loop-one-test.true) c.loop-one.invariant.gained c.requires.free c.requires.apart

pub insert-requires-clause-room : goal.insert-requires-clause-room
insert-requires-clause-room c =
    let claims = c.args.claims.now in
    let at = c.loop-one.one-index in
    let next = get_or claims at unheld in
    room_now c.loop-one.book claims at next c.loop-one-test.true (get_or_default claims at next unheld c.loop-one-test.true) c.loop-one.invariant.room

pub loop-one-preserved : goal.loop-one-preserved
loop-one-preserved c =
    let claims = c.args.claims.now in
    let at = c.loop-one.one-index in
    let next = get_or claims at unheld in
    let within = c.loop-one-test.true in
    let here = get_or_default claims at next unheld within in
    let more : take (at + 1) claims ≡ take at claims ++ next ∷ [] = take_more claims at unheld within in
    record {
      gained = subst (λ l. Gains (held c.args.book.now) l (held c.insert.new.self)) (sym more) (gains_more (held c.args.book.now) (take at claims) (held c.loop-one.book) (held c.insert.new.self) next c.loop-one.invariant.gained c.insert.ensures.gained);
      zones = c.insert.ensures.zones ∙ c.loop-one.invariant.zones;
      room = room_then c.loop-one.book c.insert.new.self claims at next within here c.loop-one.invariant.room c.insert.ensures.room c.insert.ensures.others;
    }

pub returns-clause-gained : goal.returns-clause-gained
returns-clause-gained c = subst (λ l. Gains (held c.args.book.now) l (held c.loop-one.book)) (take_all c.loop-one.one-index c.args.claims.now (search rules)) c.loop-one.invariant.gained
