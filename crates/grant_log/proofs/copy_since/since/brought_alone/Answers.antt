use Rattle.std.proofs.Common.{◌≡◌, ◌∷◌, [], ◌+◌, length, get_or, sym, ◌∙◌, arith}
use Rattle.grant_log.specs.Since.{claims_at}
use Rattle.grant_log.proofs.Bringing.{brought_one, none_freed}
use Rattle.grant_log.proofs.Elements.{only_one}
use Rattle.grant_log.proofs.Gaining.{unheld}
use Rattle.grant_log.proofs.copy_since.since.brought_alone.Goals as goal

pub returns-in-len1-clause-brought : goal.returns-in-len1-clause-brought
returns-in-len1-clause-brought c =
    let t = c.args.history.now.timetable in
    let entries = c.args.history.now.entries in
    let claim = get_or c.in_ok-claims_of_hold.field-0.now 0 unheld.0 in
    let alone : length entries ≡ c.args.front + 1 = omega (arith, c.front.ensures.front) in
    let claims : claims_at t entries c.args.front ≡ claim ∷ [] = sym c.in_ok-claims_of_hold.ensures ∙ only_one c.in_ok-claims_of_hold.field-0.now unheld.0 (omega arith) in
    brought_one t entries c.args.front claim alone claims

pub returns-in-len1-clause-freed : goal.returns-in-len1-clause-freed
returns-in-len1-clause-freed c =
    let t = c.args.history.now.timetable in
    let entries = c.args.history.now.entries in
    let claim = get_or c.in_ok-claims_of_hold.field-0.now 0 unheld.0 in
    let alone : length entries ≡ c.args.front + 1 = omega (arith, c.front.ensures.front) in
    let claims : claims_at t entries c.args.front ≡ claim ∷ [] = sym c.in_ok-claims_of_hold.ensures ∙ only_one c.in_ok-claims_of_hold.field-0.now unheld.0 (omega arith) in
    none_freed t entries c.args.front claim alone claims
