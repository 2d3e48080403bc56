use Rattle.std.proofs.Common.{◌∙◌, ◌/◌, ◌%◌, ap, length, sym}
use Rattle.std.proofs.lemmas.Nat.{div_below}
use Rattle.std.proofs.lemmas.Option.{get_or_from_slice_get}
use Rattle.stair_pieces.specs.declared.places.Place.{Place}
use Rattle.stair_pieces.specs.Places.{start_place}
use Rattle.tail_states.specs.Spots.{with_made}
use Rattle.path_labels.proofs.chart_seeks.numbered_place.Goals as goal

pub spot-spot-requires : goal.spot-spot-requires
spot-spot-requires c = div_below c.args.number c.args.levels (length c.args.spots.now.spots) c.requires.levels c.requires.number

pub returns : goal.returns
returns c =
    c.in_ok-place.ensures
    ∙ ap (λ (spot : Place). with_made spot (c.args.number % c.args.levels))
    (sym (get_or_from_slice_get c.args.spots.now.spots (c.args.number / c.args.levels) c.spot-spot.result.now start_place c.spot-spot.ensures))
