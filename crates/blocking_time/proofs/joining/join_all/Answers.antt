use Rattle.std.proofs.Common.{ap, refl}
use Rattle.blocking_time.proofs.Unions.{up_to_it, up_without}
use Rattle.blocking_time.proofs.joining.join_all.Goals as goal
use Rattle.blocking_time.proofs.joining.join_all.Goals.{then-has_ticks+in_ok-join_into, else-has_ticks}

pub loop-claim-preserved : goal.loop-claim-preserved
loop-claim-preserved c = elim c.if-has_ticks.branch [
  | then-has_ticks+in_ok-join_into w ↦ rw (w.made-is) (up_to_it c.loop-claim.made.items w.join_into.new.made.items c.args.sorted.now c.loop-claim.claim-index _ _ c.loop-claim-test.true refl c.requires c.loop-claim.invariant w.in_ok-join_into.ensures)
  | else-has_ticks w ↦ up_without c.loop-claim.made.items c.if-has_ticks.made.items c.args.sorted.now c.loop-claim.claim-index _ _ c.loop-claim-test.true refl c.loop-claim.invariant (λ some. let told = w.if-has_ticks.ensures.1 some in cc) (ap (λ v. v.items) w.made-is)
]
