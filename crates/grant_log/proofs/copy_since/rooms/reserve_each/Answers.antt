use Rattle.std.proofs.Common.{◌≡◌, ◌<◌, ◌≤◌, ◌+◌, ◌-◌, ℕ, get_or, take, length, inl, inr, sym, subst, ap, ◌∙◌, arith, rules}
use Rattle.std.proofs.lemmas.Bool.{cases_eq}
use Rattle.occupation_book.specs.Held.{zone_at}
use Rattle.grant_log.specs.Rooms.{count_of}
use Rattle.grant_log.proofs.Counted.{count_more_other, count_more_same}
use Rattle.grant_log.proofs.copy_since.rooms.reserve_each.Goals as goal

pub loop-at-preserved : goal.loop-at-preserved
loop-at-preserved c =
    let known = c.loop-at.invariant in
    let zones = c.args.zones.now in
    let at = c.loop-at.at in
    let within : at < length zones = c.loop-at-test.true in
    let one : c.in_ok-same.same ≡ c.number_before-before.result + 1 = search rules in
    let before : (d : ℕ) → c.in_ok-same.same ≡ count_of (get_or zones at d) (take (at + 1) zones) = λ d. one ∙ ap (λ n. n + 1) (c.number_before-before.ensures d) ∙ sym (count_more_same zones at d within) in
    record {
      claims = c.reserve.ensures.claims ∙ known.claims;
      held = c.reserve.ensures.held ∙ known.held;
      zones = c.reserve.ensures.zones ∙ known.zones;
      room = λ number. elim (cases_eq number (get_or zones at 0)) [
        | inl here ↦ subst (λ n. count_of n (take (at + 1) zones) ≤ (zone_at c.reserve.new.self n).spare) (sym here) (let enough = c.in_ok-reserve.ensures.room in omega (arith, enough, before 0))
        | inr other ↦ rw (count_more_other number zones at 0 within other, c.reserve.ensures.others number other) (known.room number)
      ];
      same = λ d some. let here : at + 1 - 1 ≡ at = omega arith in rw here (before d);
      kept = λ number. elim (cases_eq number (get_or zones at 0)) [
        | inl here ↦ let more : (zone_at c.loop-at.book number).spare ≤ (zone_at c.reserve.new.self number).spare = subst (λ n. (zone_at c.loop-at.book n).spare ≤ (zone_at c.reserve.new.self n).spare) (sym here) c.reserve.ensures.kept in omega (arith, more, known.kept number)
        | inr other ↦ rw (c.reserve.ensures.others number other) (known.kept number)
      ];
    }
