use Rattle.std.proofs.Common.{arith, ◌≡◌, ◌≤◌, ◌+◌, ◌*◌, ◌-◌, ◌^◌, ◌∙◌}
use Rattle.decimal_quote.proofs.Ends.{too_great, one_zero_less, grows}
use Rattle.decimal_quote.proofs.shares.zeros_below.Goals as goal

pub returns-then-total-end : goal.returns-then-total-end
returns-then-total-end c =
    too_great _ _ (omega (arith, grows (c.zeros.total * 10) (c.zeros.left - 1), one_zero_less c.zeros.total c.zeros.left c.zeros-test.true, c.zeros.invariant.value, c.if-total-end.true))

pub zeros-preserved : goal.zeros-preserved
zeros-preserved c = record { value = one_zero_less c.zeros.total c.zeros.left c.zeros-test.true ∙ c.zeros.invariant.value; room = c.if-total-end.false }
