use Rattle.std.proofs.Common.{◌≡◌, ◌∙◌, ◌*◌, ◌-◌, ◌<◌, arith, get_or, length, sym}
use Rattle.stair_pieces.specs.Places.{start_place}
use Rattle.path_labels.specs.ChartCourses.{member_along, members_along}
use Rattle.path_labels.proofs.Product.{members_count, numbered_or}
use Rattle.path_labels.proofs.chart_seeks.numbered_member.Goals as goal

pub numbered_place-requires-clause-number : goal.numbered_place-requires-clause-number
numbered_place-requires-clause-number c =
    let long = members_count c.args.spots.now.spots c.args.levels in
    let low = c.requires.behind.0 in let high = c.requires.behind.1 in
    omega (arith, low, high, long)

pub returns : goal.returns
returns c =
    let spots = c.args.spots.now.spots in let levels = c.args.levels in
    let number = c.args.member.now.place - 1 in
    let long = members_count spots levels in
    let low = c.requires.behind.0 in let high = c.requires.behind.1 in
    let within : number < length spots * levels = omega (arith, low, high, long) in
    let place : c.in_ok-place.place ≡ get_or (members_along spots levels) number start_place =
    c.in_ok-place.ensures ∙ sym (numbered_or (member_along spots levels) (length spots * levels) number start_place within) in
    λ j. record { place = place j; window = c.args.member.now.window }
