use Rattle.std.proofs.Common.{◌∙◌, map, sym, subst, ap, All}
use Rattle.rail_types.specs.declared.entries.Owner.{Owner}
use Rattle.rail_types.specs.Occupation.{HeldClaim}
use Rattle.capacity_406.specs.InsideStretch.{IsOf}
use Rattle.capacity_406.proofs.Grouping.{IsGrouping, begins_grouping, grouped_more}
use Rattle.capacity_406.proofs.stretch_trains.groups.group.Goals as goal

pub loop-rest-init : goal.loop-rest-init
loop-rest-init c = subst (IsGrouping c.args.stretch.now c.args.taken.now c.args.taken.now) (sym c.new-standing.ensures.items) (begins_grouping c.args.stretch.now c.args.taken.now c.requires.sorted)

pub loop-rest-preserved : goal.loop-rest-preserved
loop-rest-preserved c =
    let parted = c.count_of_first.ensures.parted in
    let owner : Owner = parted.0 in
    subst (λ others. IsGrouping c.args.stretch.now c.args.taken.now others c.push_if_runs.new.standing.items) (sym c.split_at.ensures.back) (
    grouped_more c.args.stretch.now c.args.taken.now c.loop-rest.rest.now c.loop-rest.standing.items c.push_if_runs.new.standing.items c.loop-rest.invariant c.count_of_first.result c.count_of_first.ensures.some c.count_of_first.ensures.bound owner parted.1 parted.2 c.in_ok-one.one
    (c.in_ok-one.ensures.claims ∙ ap (map (λ (held : HeldClaim). held.0)) c.split_at.ensures.front)
    (c.in_ok-one.ensures.owner owner (subst (All (IsOf owner)) (sym c.split_at.ensures.front) parted.1))
    c.in_ok-one.ensures.first
    c.in_ok-push_if_runs.ensures
    )
