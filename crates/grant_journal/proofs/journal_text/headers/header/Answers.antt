use Rattle.std.proofs.Common.{refl, [], ◌∷◌}
use Rattle.std.specs.Prelude.{replicate}
use Rattle.grant_journal.specs.Headers.{magic}
use Rattle.grant_journal.proofs.Spelled.{filled}
use Rattle.grant_journal.proofs.journal_text.headers.header.Goals as goal

pub returns : goal.returns
returns c = filled (replicate 76 0) _ _ _ _ magic (0 ∷ 0 ∷ 0 ∷ 2 ∷ []) c.args.network.now c.args.base.now refl refl refl c.told-network c.told-base c.put.ensures (rw c.to_be_bytes.ensures at c.put-2.ensures) c.put-3.ensures c.put-4.ensures
