use Rattle.std.proofs.Common.{◌≡◌, ℕ, ◌+◌, ◌∙◌, ap, length, subst, arith, List, []}
use Rattle.std.proofs.lemmas.List.{get_or_default}
use Rattle.track_graph.proofs.Cuttings.{rows_next, length_read}
use Rattle.track_graph.specs.declared.stands.Stand.{Stand}
use Rattle.track_graph.specs.Pieces.{AreCuts, pieces_from}
use Rattle.track_graph.specs.Stands.{stands_of}
use Rattle.track_graph.proofs.pieces.pieces_by_track.Goals as goal

pub tracks-preserved : goal.tracks-preserved
tracks-preserved c =
    let within = c.tracks-test.true in
    let cuts = c.in_ok-cuts.cuts.items in
    let row : c.as_slice.result.now ≡ stands_of c.args.stands.now c.tracks.number = c.as_slice.ensures ∙ (c.index-stands-number.is ∙ get_or_default c.args.stands.now c.tracks.number _ [] (omega (arith, c.requires.long))) in
    let value = c.deref.ensures.value in
    rw c.in_ok-push.ensures.items (rows_next c.args.tracks.now c.args.stands.now c.tracks.number c.tracks.rows.items _ cuts c.tracks.invariant (omega (arith, c.requires.long))
    (subst (λ (s : List Stand). AreCuts s cuts) row c.in_ok-cuts.ensures.cuts)
    (omega (arith, c.in_ok-cuts.ensures.short, ap length row))
    (c.in_ok-pieces_between.ensures.pieces ∙ (ap (λ (cs : List ℕ). pieces_from c.tracks.number 0 cs c.from-length_m.result) value ∙ ap (λ (m : ℕ). pieces_from c.tracks.number 0 cuts m) (c.from-length_m.ensures ∙ length_read c.args.tracks.now c.tracks.number _ within)))
    (c.in_ok-pieces_between.ensures.count ∙ ap (λ (cs : List ℕ). length cs + 1) value))
