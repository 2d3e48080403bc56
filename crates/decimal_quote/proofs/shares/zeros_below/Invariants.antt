use Rattle.std.proofs.Common.{◌≡◌, ◌<◌, ◌*◌, ◌^◌}
use Rattle.decimal_quote.proofs.shares.zeros_below.Given as goal

abbrev pub invariant-zeros : goal.invariant-zeros
invariant-zeros l = record {
  value : l.total * 10 ^ l.left ≡ l.amount * 10 ^ l.zeros;
  room : l.total < l.end;
}

abbrev pub decreases-zeros : goal.decreases-zeros
decreases-zeros l = l.left
