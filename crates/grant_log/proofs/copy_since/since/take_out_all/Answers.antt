use Rattle.std.proofs.Common.{◌≡◌, ◌+◌, ◌++◌, ◌∷◌, [], length, take, inl, inr, ap, subst, sym, refl, ◌∙◌, rules, arith}
use Rattle.std.proofs.lemmas.Bool.{cases_lt}
use Rattle.std.proofs.lemmas.List.{get_or_past, take_all, take_more}
use Rattle.rail_types.specs.declared.entries.Owner.TheVariants.{Entry as of_entry}
use Rattle.occupation_book.specs.Zones.{Zone}
use Rattle.occupation_book.specs.Held.{AreOnZonesOf, held, zone_at}
use Rattle.grant_log.proofs.Gaining.{Left, left_more, left_none, still_on}
use Rattle.grant_log.proofs.copy_since.since.take_out_all.Goals as goal

pub loop-one-init : goal.loop-one-init
loop-one-init c = record { left = left_none (held c.args.book.now); zones = refl; room = λ number. omega arith }

pub take_out-requires-clause-all : goal.take_out-requires-clause-all
take_out-requires-clause-all c =
    let one = c.one-item.result in
    let all = c.requires.all c.loop-one.one-index one c.loop-one-test.true in
    let mine : AreOnZonesOf (of_entry one.at) (held c.args.book.now) one.claims = subst (λ it. AreOnZonesOf (of_entry it.at) (held c.args.book.now) it.claims) (sym c.one-item.is) all in
    subst (AreOnZonesOf (of_entry one.at) (held c.loop-one.book)) (sym c.as_slice.ensures) (still_on (of_entry one.at) one.claims (held c.args.book.now) (held c.loop-one.book) (λ it inside. ((c.loop-one.invariant.left it).0 inside).0) mine)

pub loop-one-preserved : goal.loop-one-preserved
loop-one-preserved c =
    let freed = c.args.freed.now in
    let at = c.loop-one.one-index in
    let one = c.one-item.result in
    let within = c.loop-one-test.true in
    let more : take (at + 1) freed ≡ take at freed ++ one ∷ [] = take_more freed at one within ∙ ap (λ it. take at freed ++ it ∷ []) (sym c.one-item.is) in
    record {
      left = subst (Left (held c.args.book.now) (held c.take_out.new.self)) (sym more) (left_more (held c.args.book.now) (held c.loop-one.book) (held c.take_out.new.self) (take at freed) one c.loop-one.invariant.left c.take_out.ensures.held);
      zones = c.take_out.ensures.zones ∙ c.loop-one.invariant.zones;
      room = λ number. elim (cases_lt number (length c.loop-one.book)) [
        | inl less ↦ omega (arith, c.loop-one.invariant.room number, (c.take_out.ensures.each number less).room)
        | inr past ↦
            let none : (zone_at c.args.book.now number).spare ≡ 0 = ap (λ (zone : Zone). zone.spare) (get_or_past c.args.book.now number _ (omega (arith, past, c.loop-one.invariant.zones))) in
            omega (arith, none)
      ];
    }

pub returns-clause-left : goal.returns-clause-left
returns-clause-left c = subst (Left (held c.args.book.now) (held c.loop-one.book)) (take_all c.loop-one.one-index c.args.freed.now (search rules)) c.loop-one.invariant.left
