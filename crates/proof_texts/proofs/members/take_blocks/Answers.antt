use Rattle.std.proofs.lemmas.Result.{err_from_is_err_and}
use Rattle.client_lines.specs.Reading.{read}
use Rattle.proof_texts.specs.Forms.{a_block, many}
use Rattle.proof_texts.proofs.Looping.{ends, goes_on, is_done}
use Rattle.proof_texts.proofs.members.take_blocks.Goals as goal

pub returns-in_err-block : goal.returns-in_err-block
returns-in_err-block c =
    let p = err_from_is_err_and c.from_residual.result c.from_residual.ensures.1 in
    rw (p.1, p.2) (ends (a_block c.args.known.now) c.in_err-block.field-0.0 c.loop.tail c.args.count c.loop.counter c.loop.fields (read (many (a_block c.args.known.now) c.args.count) c.args.fields.now) c.loop-test.true c.in_err-block.ensures c.loop.invariant)

pub loop-preserved : goal.loop-preserved
loop-preserved c =
    rw c.in_ok-push.ensures.ok (goes_on (a_block c.args.known.now) c.loop.tail c.args.count c.loop.counter c.loop.fields c.take_block.new.fields c.in_ok-block.block (read (many (a_block c.args.known.now) c.args.count) c.args.fields.now) c.loop-test.true c.in_ok-block.ensures c.loop.invariant)

pub returns : goal.returns
returns c = is_done (a_block c.args.known.now) c.loop.tail c.args.count c.loop.counter c.loop.fields (read (many (a_block c.args.known.now) c.args.count) c.args.fields.now) c.loop-test.false c.loop.invariant
