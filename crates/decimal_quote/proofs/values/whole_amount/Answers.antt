use Rattle.std.proofs.Common.{◌^◌}
use Rattle.decimal_quote.specs.Values.{numerator, denominator}
use Rattle.decimal_quote.proofs.Wholes.{amount_of_units, rest_of_units}
use Rattle.decimal_quote.proofs.values.whole_amount.Goals as goal

pub returns : goal.returns
returns c =
    c.whole_share.ensures
    (numerator c.args.text.now)
    (denominator c.args.text.now)
    (amount_of_units (10 ^ 18) (numerator c.args.text.now) (denominator c.args.text.now) c.share_of-share.result.amount c.share_of-share.ensures.amount)
    (rest_of_units (numerator c.args.text.now) (denominator c.args.text.now) c.share_of-share.result.has_rest c.share_of-share.ensures.rest)
