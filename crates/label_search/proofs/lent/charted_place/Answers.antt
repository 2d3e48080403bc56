use Rattle.std.proofs.Common.{ℕ, ap, arith, length, ◌-◌, ◌%◌, ◌∙◌, sym}
use Rattle.label_search.specs.Charts.{spot_at, stay_over}
use Rattle.label_search.proofs.Lending.{place_stays}
use Rattle.label_search.proofs.lent.charted_place.Goals as goal

pub returns : goal.returns
returns c =
    let some = c.if-number-eq0.false in
    let spots = c.args.charted.now.spots.now in let calls = c.args.charted.now.calls.now in
    let stay = c.stay_of-stay.result in let is = c.stay_of-stay.ensures in
    c.charted_stay.ensures
    ∙ (ap (λ (made : ℕ). stay_over calls made (spot_at spots stay.spot)) is.made
    ∙ (ap (λ (spot : ℕ). stay_over calls ((c.args.number - 1) % length calls) (spot_at spots spot)) is.spot
    ∙ sym (place_stays spots c.args.charted.now.starts.now calls c.args.number (c.args.number - 1) (omega arith))))
