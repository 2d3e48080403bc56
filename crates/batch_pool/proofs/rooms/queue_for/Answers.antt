use Rattle.batch_pool.proofs.Moves.{begins}
use Rattle.batch_pool.proofs.rooms.queue_for.Goals as goal

pub ruled-requires-clause-rule : goal.ruled-requires-clause-rule
ruled-requires-clause-rule c = begins
