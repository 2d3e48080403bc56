-- Blocks in order, as a walk's blocks are put behind them.
use Rattle.std.proofs.Common.{◌≡◌, ℕ, ◌+◌, ◌<◌, List, [], ◌∷◌, ◌++◌, length, take, get_or, append_assoc, refl}
use Rattle.rail_types.specs.declared.tracks.Block.{Block}
use Rattle.std.proofs.lemmas.List.{take_more, append-nil}
use Rattle.signal_blocks.specs.CutNetworks.{AreInOrder}
use Rattle.signal_blocks.specs.Blocks.{AreBlocksOf}
use Rattle.signal_blocks.specs.declared.block_cuts.lines.Lines.{Lines}
use Rattle.route_walk.specs.declared.walks.Walk.{Walk}

in_order_more : (lines : Lines) (walks : List Walk) (walk : Walk) (blocks own : List Block) → AreInOrder lines walks blocks → AreBlocksOf lines walk own → AreInOrder lines (walks ++ walk ∷ []) (blocks ++ own)
in_order_more lines [] walk blocks own none it =
    let same : blocks ++ own ≡ own ++ [] = rw (none, append-nil own) refl in
    (own, [], same, it, refl)
in_order_more lines (first ∷ walks) walk blocks own (ahead, rest, same, of, more) it =
    let whole : blocks ++ own ≡ ahead ++ (rest ++ own) = rw same (append_assoc ahead rest own) in
    (ahead, rest ++ own, whole, of, in_order_more lines walks walk rest own more it)

pub in_order_taken : (lines : Lines) (walks : List Walk) (i : ℕ) (d : Walk) (blocks own : List Block) → i < length walks → AreInOrder lines (take i walks) blocks → AreBlocksOf lines (get_or walks i d) own → AreInOrder lines (take (i + 1) walks) (blocks ++ own)
in_order_taken lines walks i d blocks own lt ahead it = rw (take_more walks i d lt) (in_order_more lines (take i walks) (get_or walks i d) blocks own ahead it)
