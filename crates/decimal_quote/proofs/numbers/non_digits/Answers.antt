use Rattle.decimal_quote.proofs.Lanes.{others}
use Rattle.decimal_quote.proofs.numbers.non_digits.Goals as goal

pub returns : goal.returns
returns c = others c.args.bytes c.fits-bytes.0 c.fits-bytes.1
