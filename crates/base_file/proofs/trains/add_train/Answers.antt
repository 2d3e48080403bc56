use Rattle.std.proofs.Common.{◌∙◌, ap, ◌+◌, ◌++◌, List, length, map, subst, sym}
use Rattle.rail_types.specs.declared.bases.BaseClaim.{BaseClaim}
use Rattle.rail_types.specs.declared.paths.Claim.{Claim}
use Rattle.base_file.specs.Claims.{of_train}
use Rattle.base_file.specs.Sound.{ArePlanned}
use Rattle.base_file.proofs.Joining.{train_planned}
use Rattle.base_file.proofs.trains.add_train.Goals as goal

pub returns-clause-sound : goal.returns-clause-sound
returns-clause-sound c =
    let planned = train_planned c.args.zones c.args.planned.now c.args.claims.now c.requires.sound c.requires.claims (c.joined_claims_are_one.ensures.joined c.args.claims.now) c.requires.count in
    let whole = c.as_slice.ensures.value ∙ c.in_ok-together.ensures in
    let moved = c.in_ok-push_claims.ensures ∙ ap (λ (list : List Claim). c.args.planned.now.claims ++ map (of_train c.args.planned.now.trains) list) whole in
    subst (λ (list : List BaseClaim). ArePlanned c.args.zones (record { trains = c.args.planned.now.trains + 1; elements = c.args.planned.now.elements + length c.args.claims.now; claims = list })) (sym moved) planned
