use Rattle.std.proofs.Common.{◌≡◌, ◌<◌, map, All, sum_by, sym, ◌∙◌, ap, subst, rules}
use Rattle.std.proofs.lemmas.List.{take_all}
use Rattle.std.proofs.lemmas.List.Elements.{All-map}
use Rattle.std.proofs.lemmas.List.Sorted.{All-permutation, sum_by-IsPermutation}
use Rattle.rail_types.specs.Occupation.{HeldClaim}
use Rattle.grant_log.proofs.Counted.{ascending, count_zones, one_if}
use Rattle.grant_log.proofs.copy_since.rooms.sorted_zones.Goals as goal

pub returns-clause-all : goal.returns-clause-all
returns-clause-all c count all =
    let whole : c.loop-one.zones.items ≡ map (λ (one : HeldClaim). one.0.zone) c.args.claims.now = c.loop-one.invariant ∙ ap (map (λ (one : HeldClaim). one.0.zone)) (take_all c.loop-one.one-index c.args.claims.now (search rules)) in
    All-permutation (λ zone. zone < count) c.loop-one.zones.items c.sort.new.self.items c.in_ok-sort.ensures.permutation (subst (All (λ zone. zone < count)) (sym whole) (All-map (λ zone. zone < count) (λ (one : HeldClaim). one.0.zone) c.args.claims.now all))

pub returns-clause-count : goal.returns-clause-count
returns-clause-count c number =
    let whole : c.loop-one.zones.items ≡ map (λ (one : HeldClaim). one.0.zone) c.args.claims.now = c.loop-one.invariant ∙ ap (map (λ (one : HeldClaim). one.0.zone)) (take_all c.loop-one.one-index c.args.claims.now (search rules)) in
    sum_by-IsPermutation (one_if number) c.loop-one.zones.items c.sort.new.self.items c.in_ok-sort.ensures.permutation ∙ ap (λ zones. sum_by (one_if number) zones) whole ∙ count_zones number c.args.claims.now

pub returns-clause-order : goal.returns-clause-order
returns-clause-order c = ascending c.sort.new.self.items c.in_ok-sort.ensures.sorted
