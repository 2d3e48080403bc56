-- Blocks release within them.
use Rattle.std.proofs.Common.{inl, inr, sym, subst, ℕ, ◌≤◌, [], length, All}
use Rattle.std.proofs.lemmas.Bool.Decides.{leb_tells}
use Rattle.std.proofs.lemmas.List.Elements.{All-nil}
use Rattle.std.proofs.lemmas.List.{get_or_past}
use Rattle.rail_types.specs.declared.tracks.Cell.{Cell}
use Rattle.rail_types.specs.declared.tracks.Network.{Network}
use Rattle.rail_types.specs.Limits.{IsBlockWithinLimits}
use Rattle.blocking_time.specs.Runs.{block_at}

-- each release point lies within its block
abbrev pub ReleaseWithin : Network → Type 0
ReleaseWithin net = (block : ℕ) → All (λ cell. cell.release_m ≤ (block_at net block).length_m) (block_at net block).cells

-- blocks within their limits release within them
pub releases_within : (net : Network) → All IsBlockWithinLimits net.blocks → ReleaseWithin net
releases_within net all block = elim (leb_tells (length net.blocks) block) [
  | inl tells ↦ subst (λ b. All (λ cell. cell.release_m ≤ b.length_m) b.cells) (sym (get_or_past net.blocks block (record { length_m = 0; speed = 0; sight_m = 0; cells = []; from_point = 0; to_point = 0; serves = [] }) (tells.1))) (All-nil (λ (cell : Cell). cell.release_m ≤ 0))
  | inr tells ↦ (all block _ (tells.1)).releases
]
