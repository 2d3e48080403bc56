-- How many stand before a metre of a track.
use Rattle.std.specs.Prelude.{ℕ, Bool, true, false, nat_eq, nat_lt, List, if◌then◌else◌}
use Rattle.std.specs.List.{count_by}
use Rattle.track_graph.specs.declared.pieces.Piece.{Piece}
use Rattle.track_graph.specs.declared.stands.Stand.{Stand}

-- how many of those along a track stand before this metre
abbrev pub below : ℕ → List Stand → ℕ
below metre row = count_by (λ stand. nat_lt stand.position metre) row

-- whether it stands before one with this number at this metre
abbrev pub stands_before : ℕ → ℕ → Stand → Bool
stands_before metre number stand =
    if nat_lt stand.position metre then true
    else (if nat_eq stand.position metre then nat_lt stand.number number else false)

-- how many of those along a track stand before one with this number at this metre
abbrev pub rank_of : ℕ → ℕ → List Stand → ℕ
rank_of metre number row = count_by (stands_before metre number) row

-- how many pieces of a track begin before this metre
abbrev pub begun_before : ℕ → List Piece → ℕ
begun_before metre pieces = count_by (λ piece. nat_lt piece.begin metre) pieces
