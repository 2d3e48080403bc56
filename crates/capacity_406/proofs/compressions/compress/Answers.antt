use Rattle.capacity_406.proofs.Comparing.{least_ends_least}
use Rattle.capacity_406.proofs.compressions.compress.Goals as goal

pub returns-clause-least : goal.returns-clause-least
returns-clause-least c = c.in_ok-compress_few.ensures.least

pub returns-clause-early : goal.returns-clause-early
returns-clause-early c = c.in_ok-compress_few.ensures.early

pub returns-clause-near : goal.returns-clause-near
returns-clause-near c = c.in_ok-compress_few.ensures.near

pub returns-clause-last : goal.returns-clause-last
returns-clause-last c = least_ends_least c.args.trains.now c.in_ok-compress_few.field-0.shifts c.in_ok-compress_few.ensures.least

pub returns-clause-chain : goal.returns-clause-chain
returns-clause-chain c = c.in_ok-compress_few.ensures.chain
