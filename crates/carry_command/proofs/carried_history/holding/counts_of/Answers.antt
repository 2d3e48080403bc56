use Rattle.std.proofs.Common.{◌≡◌, ◌<◌, ◌≤◌, ◌∙◌, [], ℕ, length, map, get_or, ap, rules}
use Rattle.std.proofs.lemmas.List.{take_all}
use Rattle.path_recover.specs.claims.Zones.{Zone}
use Rattle.carry_command.proofs.Held.{counted_more}
use Rattle.carry_command.proofs.carried_history.holding.counts_of.Goals as goal

pub loop-zone-preserved : goal.loop-zone-preserved
loop-zone-preserved c =
    let count_of : Zone → ℕ = λ zone. length zone.claims in
    let at = c.loop-zone.zone in
    let none : Zone = record { claims = []; spare = 0 } in
    let within : at < length c.args.claims = search rules in
    let count : c.len.result ≡ count_of (get_or c.args.claims at none) = c.len.ensures ∙ ap length c.of_zone.ensures.claims in
    counted_more c.args.claims at none within c.loop-zone.counts.items c.push.new.self.items c.len.result c.loop-zone.invariant c.in_ok-push.ensures.items count

pub returns : goal.returns
returns c =
    let count_of : Zone → ℕ = λ zone. length zone.claims in
    let end : length c.args.claims ≤ c.loop-zone.zone = search rules in
    c.loop-zone.invariant ∙ ap (map count_of) (take_all c.loop-zone.zone c.args.claims end)
