use Rattle.std.proofs.Common.{rules}
use Rattle.blocking_time.proofs.Passing.{claims_on}
use Rattle.blocking_time.proofs.stairways.stairway_of.Goals as goal

pub loop-index-preserved : goal.loop-index-preserved
loop-index-preserved c = record {
  claims = claims_on c.args.net.now c.args.settings.now c.args.path.now c.loop-index.index c.loop-index.claims.items _ _ (search rules) c.loop-index.invariant.claims c.in_ok-push_claims.ensures.claims;
  cursor = c.for_next_run-cursor.ensures;
}
