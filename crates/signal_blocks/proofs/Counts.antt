-- The blocks of a walk have as many cells as the walk passes zones.
use Rattle.std.proofs.Common.{◌≡◌, ℕ, zero, suc, ◌+◌, ◌-◌, ◌<◌, ◌≤◌, Bool, true, false, ◌||◌, nat_eq, cond, List, [], ◌∷◌, ◌++◌, map, length, sum, Option, Some, None, option_map, slice_index, slice_index_or, ap, sym, refl, ◌∙◌, arith, length-append}
use Rattle.std.specs.List.{All, count_by, sum_by, filter, filter_map, range_with_len, cons_option}
use Rattle.std.specs.List.Sorted.{IsStrictlyIncreasing}
use Rattle.std.proofs.lemmas.List.{get_or_push}
use Rattle.std.proofs.lemmas.List.Elements.{All-head, All-tail}
use Rattle.std.proofs.lemmas.List.Sums.{sum-map, sum_by-append, sum_by-cons}
use Rattle.std.proofs.lemmas.List.Recursion.{is_count_by}
use Rattle.rail_types.specs.declared.tracks.Block.{Block}
use Rattle.rail_types.specs.declared.tracks.Cell.{Cell}
use Rattle.signal_blocks.specs.Blocks.{AreBlocksOf}
use Rattle.signal_blocks.specs.Cells.{cell_at}
use Rattle.signal_blocks.specs.Cuts.{cut_places, has_signal, is_cut, is_some, block_count, point_at}
use Rattle.signal_blocks.specs.Faults.{cell_count, count_blocks, count_cells}
use Rattle.signal_blocks.specs.CutNetworks.{AreInOrder}
use Rattle.signal_blocks.specs.declared.block_cuts.lines.Lines.{Lines}
use Rattle.signal_blocks.proofs.Cuttings.{cuts_rise}
use Rattle.signal_blocks.proofs.Ranges.{filter_range_more}
use Rattle.route_walk.specs.Sound.{IsWalk}
use Rattle.route_walk.specs.declared.walks.Passed.{Passed}
use Rattle.route_walk.specs.declared.walks.Walk.{Walk}

abbrev marked : Option ℕ → ℕ
marked None = 0
marked (Some zone) = 1

-- how many zones are passed from a place on, up to n places further
abbrev passed_in : List (Option ℕ) → ℕ → ℕ → ℕ
passed_in zones a zero = 0
passed_in zones a (suc n) = marked (slice_index_or zones a None) + passed_in zones (a + 1) n

cells_here : (f : ℕ → Cell) (zone : Option ℕ) (cells : List Cell) → length (cons_option (option_map f zone) cells) ≡ marked zone + length cells
cells_here f None cells = omega arith
cells_here f (Some zone) cells = omega arith

cells_in : (walk : Walk) (from to a n : ℕ) → length (filter_map (cell_at walk from to) (range_with_len a n)) ≡ passed_in walk.zones a n
cells_in walk from to a zero = refl
cells_in walk from to a (suc n) = cells_here _ (slice_index_or walk.zones a None) _ ∙ ap (λ c. marked (slice_index_or walk.zones a None) + c) (cells_in walk from to (a + 1) n)

passed_further : (zones : List (Option ℕ)) (a n m : ℕ) → passed_in zones a (n + m) ≡ passed_in zones a n + passed_in zones (a + n) m
passed_further zones a zero m =
    let same : a + 0 ≡ a = omega arith in
    let none : 0 + m ≡ m = omega arith in
    rw (same, none) (omega arith)
passed_further zones a (suc n) m =
    let rest = passed_further zones (a + 1) n m in
    let on : a + 1 + n ≡ a + suc n = omega arith in
    let there = rw on at rest in
    let long : suc n + m ≡ suc (n + m) = omega arith in
    rw long (omega (arith, there))

passed_behind : (first : Option ℕ) (zones : List (Option ℕ)) (a n : ℕ) → passed_in (first ∷ zones) (suc a) n ≡ passed_in zones a n
passed_behind first zones a zero = refl
passed_behind first zones a (suc n) =
    let on : suc a + 1 ≡ suc (a + 1) = omega arith in
    ap (λ c. marked (slice_index_or zones a None) + c) (ap (λ k. passed_in (first ∷ zones) k n) on ∙ passed_behind first zones (a + 1) n)

count_here : (zone : Option ℕ) (count : ℕ) → marked zone + count ≡ cond (is_some zone) (1 + count) count
count_here None count = omega arith
count_here (Some zone) count = refl

all_passed : (zones : List (Option ℕ)) → passed_in zones 0 (length zones) ≡ count_by is_some zones
all_passed zones = is_count_by (λ zones. passed_in zones 0 (length zones)) is_some refl
    (λ zone zones. ap (λ c. marked zone + c) (passed_behind zone zones 0 (length zones)) ∙ count_here zone (passed_in zones 0 (length zones))) zones

abbrev cells_of : List Block → ℕ
cells_of blocks = sum_by (λ block. length block.cells) blocks

-- as many cells as zones are passed from the first cut to the last
up_to_last : (zones : List (Option ℕ)) (cuts : List ℕ) (blocks : List Block) → IsStrictlyIncreasing cuts → length blocks + 1 ≡ length cuts
    → ((k : ℕ) (d : Block) → k < length blocks → length (slice_index_or blocks k d).cells ≡ passed_in zones (slice_index cuts k) (slice_index cuts (k + 1) - slice_index cuts k))
    → (cells_of blocks ≡ passed_in zones (slice_index cuts 0) (slice_index cuts (length blocks) - slice_index cuts 0)) × (slice_index cuts 0 ≤ slice_index cuts (length blocks))
up_to_last zones cuts [] rise many each =
    let none : slice_index cuts 0 - slice_index cuts 0 ≡ 0 = omega arith in
    (rw none refl, omega arith)
up_to_last zones [] (block ∷ blocks) rise many each = absurd (omega (arith, many))
up_to_last zones (cut ∷ []) (block ∷ blocks) rise many each = absurd (omega (arith, many))
up_to_last zones (cut ∷ next ∷ cuts) (block ∷ blocks) rise many each =
    let up : cut < next = rise 0 (omega arith) in
    let rest = up_to_last zones (next ∷ cuts) blocks (λ k lt. let on : suc k + 1 ≡ suc (k + 1) = omega arith in let h = rise (suc k) (omega (arith, lt)) in rw on at h) (omega (arith, many))
    (λ k d lt. let on : suc k + 1 ≡ suc (k + 1) = omega arith in let h = each (suc k) d (omega (arith, lt)) in rw on at h) in
    let here : length block.cells ≡ passed_in zones cut (next - cut) = each 0 block (omega arith) in
    let last = slice_index (next ∷ cuts) (length blocks) in
    let ahead : next ≤ last = rest.1 in
    let whole = passed_further zones cut (next - cut) (last - next) in
    let middle : cut + (next - cut) ≡ next = omega (arith, up) in
    let span : (next - cut) + (last - next) ≡ last - cut = omega (arith, up, ahead) in
    let both = rw (middle, span) at whole in
    let told = rest.0 in
    let first = sum_by-cons (λ (block : Block). length block.cells) block blocks in
    (omega (arith, both, here, told, first), omega (arith, up, ahead))

first_kept : (p : ℕ → Bool) (n : ℕ) → p 0 ≡ true → 0 < n → slice_index (filter p (range_with_len 0 n)) 0 ≡ 0
first_kept p zero first lt = absurd (omega (arith, lt))
first_kept p (suc n) first lt = rw first refl

last_kept : (p : ℕ → Bool) (n : ℕ) → p n ≡ true → slice_index (filter p (range_with_len 0 (n + 1))) (length (filter p (range_with_len 0 (n + 1))) - 1) ≡ n
last_kept p n last =
    let more = filter_range_more p n in
    let kept = rw last at more in
    let xs = filter p (range_with_len 0 n) in
    let long = length-append xs (n ∷ []) in
    rw kept (get_or_push xs n 0 (length (xs ++ n ∷ []) - 1) (omega (arith, long)))

either : (a b : Bool) → (a || (true || b)) ≡ true
either true b = refl
either false b = refl

is_cut_last : (sights : List (Option ℕ)) (passed : List Passed) (n : ℕ) → n + 1 ≡ length passed → is_cut sights passed n ≡ true
is_cut_last sights passed n e =
    let last : length passed - 1 ≡ n = omega (arith, e) in
    let same : nat_eq n n ≡ true = grind arith in
    rw (last, same) (either (nat_eq n 0) (has_signal sights (point_at passed n).point))

walk_cells : (lines : Lines) (walk : Walk) (own : List Block) → IsWalk walk → AreBlocksOf lines walk own → cells_of own ≡ cell_count walk
walk_cells lines walk own is are =
    let cuts = cut_places lines.sights walk.passed in
    let legs = is.legs in
    let many = are.many in
    let whole = up_to_last walk.zones cuts own (cuts_rise lines.sights walk.passed) many
    (λ k d lt. ap length (are.each k d lt).cells ∙ cells_in walk (slice_index cuts k) (slice_index cuts (k + 1)) (slice_index cuts k) (slice_index cuts (k + 1) - slice_index cuts k)) in
    let begin : slice_index cuts 0 ≡ 0 = first_kept (is_cut lines.sights walk.passed) (length walk.passed) refl (omega (arith, legs)) in
    let on : length walk.passed ≡ length walk.zones + 1 = sym legs in
    let end : slice_index cuts (length cuts - 1) ≡ length walk.zones = ap (λ n. slice_index (filter (is_cut lines.sights walk.passed) (range_with_len 0 n)) (length (filter (is_cut lines.sights walk.passed) (range_with_len 0 n)) - 1)) on ∙ last_kept (is_cut lines.sights walk.passed) (length walk.zones) (is_cut_last lines.sights walk.passed (length walk.zones) legs) in
    let place : length cuts - 1 ≡ length own = omega (arith, many) in
    let last : slice_index cuts (length own) ≡ length walk.zones = ap (slice_index cuts) (sym place) ∙ end in
    let told = whole.0 in
    let whole_walk : length walk.zones - 0 ≡ length walk.zones = omega arith in
    let spanned = rw (begin, last, whole_walk) at told in
    spanned ∙ all_passed walk.zones

cells_in_all : (lines : Lines) (walks : List Walk) (blocks : List Block) → All IsWalk walks → AreInOrder lines walks blocks → cells_of blocks ≡ count_cells walks
cells_in_all lines [] blocks is same = rw same refl
cells_in_all lines (walk ∷ walks) blocks is (own, rest, same, of, more) =
    let here = walk_cells lines walk own (All-head IsWalk walk walks is) of in
    let behind = cells_in_all lines walks rest (All-tail IsWalk walk walks is) more in
    let both = sum_by-append (λ (block : Block). length block.cells) own rest in
    let count = sum_by-cons cell_count walk walks in
    rw same (omega (arith, here, behind, both, count))

pub all_cells : (lines : Lines) (walks : List Walk) (blocks : List Block) → All IsWalk walks → AreInOrder lines walks blocks → sum (map (λ block. length block.cells) blocks) ≡ count_cells walks
all_cells lines walks blocks is are = sum-map (λ (block : Block). length block.cells) blocks ∙ cells_in_all lines walks blocks is are

pub all_counted : (lines : Lines) (walks : List Walk) (blocks : List Block) → AreInOrder lines walks blocks → length blocks ≡ count_blocks lines.sights walks
all_counted lines [] blocks same = rw same refl
all_counted lines (walk ∷ walks) blocks (own, rest, same, of, more) =
    let many = of.many in
    let behind = all_counted lines walks rest more in
    let both = length-append own rest in
    let count = sum_by-cons (block_count lines.sights) walk walks in
    rw same (omega (arith, many, behind, both, count))
