-- Lists over a range of numbers, as the range grows by one.
use Rattle.std.proofs.Common.{◌≡◌, ℕ, zero, suc, ◌+◌, List, [], ◌∷◌, ◌++◌, slice_index_or, sym, ap, ◌∙◌, append_assoc, arith, Option}
use Rattle.std.specs.List.{filter_map, flat_map, range_with_len}
use Rattle.std.proofs.lemmas.Grind.{flat_map-append}
use Rattle.std.proofs.lemmas.List.{append-nil}
use Rattle.std.proofs.lemmas.List.Elements.{filter_map-append}
use Rattle.std.proofs.lemmas.List.FromFn.{map-range_with_len_more}
use Rattle.track_graph.specs.Layouts.{Layout, zone_at}
use Rattle.track_graph.specs.Pieces.{pieces_of}
use Rattle.signal_blocks.specs.Names.{no_piece, route_parts, zoned_on, zoned_pieces, zoned_up_to}

range_more : (a n j : ℕ) → a + n ≡ j → range_with_len a (suc n) ≡ range_with_len a n ++ j ∷ []
range_more a zero j e = let same : a ≡ j = omega (arith, e) in ap (λ k. k ∷ []) same
range_more a (suc n) j e = ap (λ ks. a ∷ ks) (range_more (a + 1) n j (omega (arith, e)))

pub parts_more : (id : List ℕ) (n : ℕ) → route_parts id (n + 1) ≡ route_parts id n ++ record { route = id; part = n } ∷ []
parts_more id n = map-range_with_len_more (λ part. record { route = id; part = part }) 0 n n (omega arith)

pub zoned_more : (layout : Layout) (track n : ℕ) → zoned_up_to layout track (n + 1) ≡ zoned_up_to layout track n ++ record { zone = zone_at layout track n; piece = slice_index_or (pieces_of layout.pieces track) n no_piece } ∷ []
zoned_more layout track n = map-range_with_len_more (λ n. record { zone = zone_at layout track n; piece = slice_index_or (pieces_of layout.pieces track) n no_piece }) 0 n n (omega arith)

pub tracks_more : (layout : Layout) (n : ℕ) → zoned_pieces layout (n + 1) ≡ zoned_pieces layout n ++ zoned_on layout n
tracks_more layout n =
    let on : n + 1 ≡ suc n = omega arith in
    let longer : range_with_len 0 (n + 1) ≡ range_with_len 0 n ++ n ∷ [] = ap (range_with_len 0) on ∙ range_more 0 n n (omega arith) in
    ap (flat_map (zoned_on layout)) longer ∙ flat_map-append (zoned_on layout) (range_with_len 0 n) (n ∷ []) ∙ ap (λ xs. zoned_pieces layout n ++ xs) (append-nil (zoned_on layout n))

pub ruleset tracks_grow = (tracks_more)

-- what a list gives where one element is taken from the rest
pub one_more : {X Y : Type 0} (h : X → Option Y) (x : X) (before : List Y) (rest : List X) → (before ++ filter_map h (x ∷ [])) ++ filter_map h rest ≡ before ++ filter_map h (x ∷ rest)
one_more h x before rest = append_assoc before (filter_map h (x ∷ [])) (filter_map h rest) ∙ sym (ap (λ l. before ++ l) (filter_map-append h (x ∷ []) rest))
