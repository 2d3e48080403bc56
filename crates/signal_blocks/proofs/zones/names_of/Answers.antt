use Rattle.std.proofs.Common.{rules, ◌≡◌, ◌∷◌, ◌++◌, [], arith, refl}
use Rattle.std.specs.List.{All}
use Rattle.std.proofs.lemmas.List.Elements.{All-append, All-cons, All-nil}
use Rattle.std.proofs.lemmas.List.FromFn.{map-range_with_len_more}
use Rattle.rail_types.specs.Named.{IsId}
use Rattle.rail_types.specs.declared.named_network.TrackPiece.{TrackPiece}
use Rattle.rail_types.specs.declared.named_network.ZoneName.{ZoneName}
use Rattle.signal_blocks.specs.Names.{zone_name}
use Rattle.signal_blocks.proofs.zones.names_of.Goals as goal

abbrev AreIds : ZoneName → Type 0
AreIds zone = All (λ (piece : TrackPiece). IsId piece.track) zone.pieces

pub zones-preserved : goal.zones-preserved
zones-preserved c =
    let name = c.in_ok-name_of.field-0 in
    let pushed : c.push.new.self ≡ c.zones.names ++ name ∷ [] = search rules in
    let is : name ≡ zone_name c.args.tracks.now c.args.rows.now c.zones.zone = c.in_ok-name_of.ensures.name in
    rw pushed record {
      same = rw (map-range_with_len_more (zone_name c.args.tracks.now c.args.rows.now) 0 c.zones.zone c.zones.zone (omega arith), c.zones.invariant.same, is) refl;
      ids = All-append AreIds c.zones.names (name ∷ []) c.zones.invariant.ids (All-cons AreIds name [] c.in_ok-name_of.ensures.ids (All-nil AreIds));
    }
