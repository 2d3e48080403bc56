use Rattle.std.proofs.Common.{rules, ◌≡◌, ◌<◌, ◌∷◌, ◌++◌, [], append_assoc, length, slice_index_or}
use Rattle.std.proofs.lemmas.List.Elements.{All-append, All-cons, All-nil}
use Rattle.track_graph.specs.Layouts.{zone_at}
use Rattle.track_graph.specs.Pieces.{pieces_of}
use Rattle.signal_blocks.specs.declared.zones.ZonedPiece.{ZonedPiece}
use Rattle.signal_blocks.specs.Inside.{IsZoned}
use Rattle.signal_blocks.specs.Names.{no_piece, zoned_up_to}
use Rattle.signal_blocks.proofs.Growing.{zoned_more}
use Rattle.signal_blocks.proofs.zones.add_zoned.Goals as goal

pub pieces-preserved : goal.pieces-preserved
pieces-preserved c =
    let layout = c.args.graph.now in
    let track = c.args.track in
    let number = c.pieces.number in
    let item : ZonedPiece = record { zone = zone_at layout track number; piece = slice_index_or (pieces_of layout.pieces track) number no_piece } in
    let pushed : c.push.new.self ≡ c.pieces.to ++ item ∷ [] = search rules in
    let lt : number < length (pieces_of layout.pieces track) = search rules in
    let is : IsZoned (length layout.infra.tracks) layout.count item = (c.requires.own number no_piece lt, c.zone_of.ensures.below) in
    rw pushed record {
      same = rw (zoned_more layout track number, c.pieces.invariant.same) (append_assoc c.args.to.now (zoned_up_to layout track number) (item ∷ []));
      zoned = All-append (IsZoned (length layout.infra.tracks) layout.count) c.pieces.to (item ∷ []) c.pieces.invariant.zoned (All-cons (IsZoned (length layout.infra.tracks) layout.count) item [] is (All-nil (IsZoned (length layout.infra.tracks) layout.count)));
    }
