use Rattle.std.proofs.Common.{◌≡◌, ◌-◌, get_or, sym, ap, ◌∙◌, take, arith}
use Rattle.std.proofs.lemmas.List.{get_or_default}
use Rattle.grant_log.specs.Rooms.{count_of}
use Rattle.grant_log.proofs.Counted.{count_first}
use Rattle.grant_log.proofs.copy_since.rooms.number_before.Goals.{else-at-gt0-via-then-at-gt0+else-zones-at, else-at-gt0-via-else-at-gt0}
use Rattle.grant_log.proofs.copy_since.rooms.number_before.Goals as goal

pub returns-then-zones-at : goal.returns-then-zones-at
returns-then-zones-at c d =
    let zones = c.args.zones.now in
    let at = c.args.at in
    let within = c.requires.within in
    let here : get_or zones (at - 1) d ≡ get_or zones at d = get_or_default zones (at - 1) d 0 (omega arith) ∙ c.if-zones-at.true ∙ get_or_default zones at 0 d within in
    c.requires.counted d c.if-at-gt0.true ∙ ap (λ number. count_of number (take at zones)) here

pub returns-else-at-gt0 : goal.returns-else-at-gt0
returns-else-at-gt0 c d =
    let zones = c.args.zones.now in
    let at = c.args.at in
    let within = c.requires.within in
    sym (count_first zones at d c.requires.order within (λ some same. elim c.else-at-gt0.branch [
      | else-at-gt0-via-then-at-gt0+else-zones-at w ↦ w.if-zones-at.false (get_or_default zones (at - 1) 0 d (omega arith) ∙ same ∙ get_or_default zones at d 0 within)
      | else-at-gt0-via-else-at-gt0 w ↦ absurd (let none = w.if-at-gt0.false in omega (arith, none))
    ]))
