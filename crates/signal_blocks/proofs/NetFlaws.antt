-- The network of a railway without fault has no flaw.
use Rattle.std.proofs.Common.{◌≡◌, ℕ, ◌+◌, ◌<◌, ◌≤◌, Bool, true, false, ◌||◌, nat_lt, if◌then◌else◌, List, [], ◌∷◌, map, sum, length, Option, Some, None, option_map, slice_index, slice_index_or, refl, arith, ltb-false}
use Rattle.std.specs.List.{All}
use Rattle.std.proofs.lemmas.List.Elements.{All-nil, All-cons, All-append, All-head, All-tail}
use Rattle.rail_types.specs.declared.limits.TheConstants.{MAX_OBJECTS, MAX_CELLS}
use Rattle.rail_types.specs.declared.tracks.Block.{Block}
use Rattle.rail_types.specs.declared.tracks.NetFlaw.TheVariants as flaws
use Rattle.rail_types.specs.declared.tracks.Network.{Network}
use Rattle.rail_types.specs.Flaws.{first_flaw, flaw_of_block, flaw_of_blocks}
use Rattle.signal_blocks.specs.Blocks.{AreBlocksOf}
use Rattle.signal_blocks.specs.Cuts.{cut_places}
use Rattle.signal_blocks.specs.Faults.{count_blocks, count_cells, count_fault, empty_fault, empty_in, limit_over, long_fault, long_in, or_fault, railway_fault, told}
use Rattle.signal_blocks.specs.CutNetworks.{AreInOrder, IsNetwork, IsRailway}
use Rattle.signal_blocks.specs.declared.block_cuts.faults.Fault.{Fault}
use Rattle.signal_blocks.specs.declared.block_cuts.faults.Fault.TheVariants.{EmptyBlock, Limit}
use Rattle.signal_blocks.specs.declared.block_cuts.faults.Railway.{Railway}
use Rattle.signal_blocks.specs.declared.block_cuts.faults.What.{What}
use Rattle.signal_blocks.specs.declared.block_cuts.faults.What.TheVariants.{Zones, Points, Blocks, Cells}
use Rattle.signal_blocks.specs.declared.block_cuts.lines.Lines.{Lines}
use Rattle.signal_blocks.proofs.Counts.{all_cells, all_counted}
use Rattle.signal_blocks.proofs.Cuttings.{cuts_rise, cut_inside}
use Rattle.signal_blocks.proofs.Empties.{cuts_apart}
use Rattle.signal_blocks.proofs.Flawless.{AreLimited, no_flaw, not_lt}
use Rattle.signal_blocks.proofs.Lengths.{short_from, none_or, none_map, long_none}
use Rattle.route_walk.specs.Sound.{IsSound, IsWalk}
use Rattle.route_walk.specs.declared.walks.Walk.{Walk}

empty_none : (sights : List (Option ℕ)) (route : ℕ) (walks : List Walk) → empty_fault sights route walks ≡ None → All (λ walk. empty_in sights walk ≡ None) walks
empty_none sights route [] e = All-nil (λ walk. empty_in sights walk ≡ None)
empty_none sights route (walk ∷ walks) e =
    let parts = none_or (option_map (λ at. EmptyBlock route at) (empty_in sights walk)) (empty_fault sights (route + 1) walks) e in
    All-cons (λ walk. empty_in sights walk ≡ None) walk walks (none_map (λ at. EmptyBlock route at) (empty_in sights walk) parts.0) (empty_none sights (route + 1) walks parts.1)

of_walk : (net : Network) (lines : Lines) (walk : Walk) (own : List Block) → AreLimited net.stops lines → IsSound net.zones net.points walk → empty_in lines.sights walk ≡ None → long_in lines.sights walk ≡ None → AreBlocksOf lines walk own → All (λ block. flaw_of_block net block ≡ None) own
of_walk net lines walk own within is none short are k d lt =
    let cuts = cut_places lines.sights walk.passed in
    let many = are.many in
    let next : k + 1 < length cuts = omega (arith, many, lt) in
    no_flaw net lines walk (slice_index cuts k) (slice_index cuts (k + 1)) (slice_index_or own k d) is within
    (cuts_rise lines.sights walk.passed k next) (cut_inside lines.sights walk.passed (k + 1) next)
    (short_from walk.passed cuts short k next) (cuts_apart lines.sights walk none k next) (are.each k d lt)

of_walks : (net : Network) (lines : Lines) (walks : List Walk) (blocks : List Block) → AreLimited net.stops lines → All (IsSound net.zones net.points) walks → All (λ walk. empty_in lines.sights walk ≡ None) walks → All (λ walk. long_in lines.sights walk ≡ None) walks → AreInOrder lines walks blocks → All (λ block. flaw_of_block net block ≡ None) blocks
of_walks net lines [] blocks within is none short same = rw same (All-nil (λ block. flaw_of_block net block ≡ None))
of_walks net lines (walk ∷ walks) blocks within is none short (own, rest, same, of, more) =
    rw same (All-append (λ block. flaw_of_block net block ≡ None) own rest
    (of_walk net lines walk own within (All-head (IsSound net.zones net.points) walk walks is) (All-head (λ walk. empty_in lines.sights walk ≡ None) walk walks none) (All-head (λ walk. long_in lines.sights walk ≡ None) walk walks short) of)
    (of_walks net lines walks rest within (All-tail (IsSound net.zones net.points) walk walks is) (All-tail (λ walk. empty_in lines.sights walk ≡ None) walk walks none) (All-tail (λ walk. long_in lines.sights walk ≡ None) walk walks short) more))

no_flaws : (net : Network) (blocks : List Block) → All (λ block. flaw_of_block net block ≡ None) blocks → flaw_of_blocks net blocks ≡ None
no_flaws net [] all = refl
no_flaws net (block ∷ blocks) all = rw (All-head (λ block. flaw_of_block net block ≡ None) block blocks all) (no_flaws net blocks (All-tail (λ block. flaw_of_block net block ≡ None) block blocks all))

over_if : (over : Bool) (fault : Fault) → (if over then Some fault else None) ≡ None → over ≡ false
over_if true fault none = absurd (cc none)
over_if false fault none = refl

not_over : (what : What) (most count : ℕ) → limit_over what most count ≡ None → nat_lt most count ≡ false
not_over what most count none = over_if (nat_lt most count) (Limit what (told count)) none

none_past : (a b c d e : Bool) → a ≡ false → b ≡ false → c ≡ false → d ≡ false → e ≡ false → (if (a || (b || (c || (d || e)))) then Some flaws.Limit else None) ≡ None
none_past a b c d e fa fb fc fd fe = rw (fa, fb, fc, fd, fe) refl

pub few_blocks : (railway : Railway) → railway_fault railway ≡ None → count_blocks railway.lines.sights railway.walks ≤ MAX_OBJECTS
few_blocks railway none =
    let sights = railway.lines.sights in
    let first = none_or (empty_fault sights 0 railway.walks) (or_fault (count_fault railway) (long_fault sights railway.walks)) none in
    let rest = none_or (count_fault railway) (long_fault sights railway.walks) first.1 in
    let of_zones = none_or (limit_over Zones MAX_OBJECTS railway.zones) (or_fault (limit_over Points MAX_OBJECTS railway.points) (or_fault (limit_over Blocks MAX_OBJECTS (count_blocks sights railway.walks)) (limit_over Cells MAX_CELLS (count_cells railway.walks)))) rest.0 in
    let of_points = none_or (limit_over Points MAX_OBJECTS railway.points) (or_fault (limit_over Blocks MAX_OBJECTS (count_blocks sights railway.walks)) (limit_over Cells MAX_CELLS (count_cells railway.walks))) of_zones.1 in
    let of_blocks = none_or (limit_over Blocks MAX_OBJECTS (count_blocks sights railway.walks)) (limit_over Cells MAX_CELLS (count_cells railway.walks)) of_points.1 in
    ltb-false _ _ (not_over Blocks MAX_OBJECTS (count_blocks sights railway.walks) of_blocks.0)

-- the network of a railway without fault has no flaw
pub no_flaw_in : (railway : Railway) (net : Network) → IsRailway railway → railway_fault railway ≡ None → IsNetwork railway net → first_flaw net ≡ None
no_flaw_in railway net is none it =
    let sights = railway.lines.sights in
    let first = none_or (empty_fault sights 0 railway.walks) (or_fault (count_fault railway) (long_fault sights railway.walks)) none in
    let rest = none_or (count_fault railway) (long_fault sights railway.walks) first.1 in
    let of_zones = none_or (limit_over Zones MAX_OBJECTS railway.zones) (or_fault (limit_over Points MAX_OBJECTS railway.points) (or_fault (limit_over Blocks MAX_OBJECTS (count_blocks sights railway.walks)) (limit_over Cells MAX_CELLS (count_cells railway.walks)))) rest.0 in
    let of_points = none_or (limit_over Points MAX_OBJECTS railway.points) (or_fault (limit_over Blocks MAX_OBJECTS (count_blocks sights railway.walks)) (limit_over Cells MAX_CELLS (count_cells railway.walks))) of_zones.1 in
    let of_blocks = none_or (limit_over Blocks MAX_OBJECTS (count_blocks sights railway.walks)) (limit_over Cells MAX_CELLS (count_cells railway.walks)) of_points.1 in
    let limited : AreLimited net.stops railway.lines = rw it.stops record { parts = is.parts; limits = is.limits; sights = is.sights } in
    let sound : All (IsSound net.zones net.points) railway.walks = rw (it.zones, it.points) is.walks in
    let blocks : flaw_of_blocks net net.blocks ≡ None = no_flaws net net.blocks (of_walks net railway.lines railway.walks net.blocks limited sound (empty_none sights 0 railway.walks first.0) (long_none sights railway.walks rest.1) it.blocks) in
    let zones : nat_lt MAX_OBJECTS net.zones ≡ false = rw it.zones (not_over Zones MAX_OBJECTS railway.zones of_zones.0) in
    let points : nat_lt MAX_OBJECTS net.points ≡ false = rw it.points (not_over Points MAX_OBJECTS railway.points of_points.0) in
    let stops : nat_lt MAX_OBJECTS net.stops ≡ false = rw it.stops (not_lt MAX_OBJECTS railway.stops is.stops) in
    let count : nat_lt MAX_OBJECTS (length net.blocks) ≡ false = rw (all_counted railway.lines railway.walks net.blocks it.blocks) (not_over Blocks MAX_OBJECTS (count_blocks sights railway.walks) of_blocks.0) in
    let walked : All IsWalk railway.walks = λ k d lt. (is.walks k d lt).sound in
    let cells : nat_lt MAX_CELLS (sum (map (λ block. length block.cells) net.blocks)) ≡ false = rw (all_cells railway.lines railway.walks net.blocks walked it.blocks) (not_over Cells MAX_CELLS (count_cells railway.walks) of_blocks.1) in
    rw blocks (none_past (nat_lt MAX_OBJECTS net.zones) (nat_lt MAX_OBJECTS net.points) (nat_lt MAX_OBJECTS net.stops) (nat_lt MAX_OBJECTS (length net.blocks)) (nat_lt MAX_CELLS (sum (map (λ block. length block.cells) net.blocks))) zones points stops count cells)
