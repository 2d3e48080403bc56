use Rattle.std.proofs.Common.{arith, ◌≡◌, ◌≤◌, ◌+◌, ◌*◌, ◌-◌, get_or}
use Rattle.decimal_quote.proofs.Ends.{too_great, digits_reach}
use Rattle.decimal_quote.proofs.shares.digits_below.Goals as goal

pub returns-then-total-end : goal.returns-then-total-end
returns-then-total-end c = too_great _ _ (digits_reach c.args.end c.digits.total c.digits.digit-index c.args.amount c.from.result c.args.digits.now c.digits-test.true c.digits.invariant.value c.digits.invariant.left c.from.ensures c.if-total-end.true)
