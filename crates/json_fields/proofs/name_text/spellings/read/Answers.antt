use Rattle.std.proofs.Common.{arith}
use Rattle.json_fields.proofs.Unescaping.{refused, goes_on, ends_outside, ends_inside}
use Rattle.json_fields.proofs.name_text.spellings.read.Goals as goal

pub returns-in_default : goal.returns-in_default
returns-in_default c = refused c.bytes.escape c.bytes.name.items c.args.text.now c.bytes.byte-index 0 _ (omega (arith, c.bytes-test.true)) (c.in_default.ensures.step) c.bytes.invariant.so_far

pub bytes-preserved : goal.bytes-preserved
bytes-preserved c = record {
  so_far = rw c.in_ok-add.ensures (goes_on c.bytes.escape c.in-Some.step c.bytes.name.items c.args.text.now c.bytes.byte-index 0 _ (omega (arith, c.bytes-test.true)) c.in-Some.ensures.step c.bytes.invariant.so_far);
  half = c.in-Some.ensures.half;
}

pub returns-in-Outside : goal.returns-in-Outside
returns-in-Outside c = ends_outside c.bytes.name.items c.args.text.now c.bytes.byte-index _ (omega (arith, c.bytes-test.false)) (rw c.in-Outside.is at c.bytes.invariant.so_far)

pub returns-in_default-escape : goal.returns-in_default-escape
returns-in_default-escape c = ends_inside c.bytes.escape c.bytes.name.items c.args.text.now c.bytes.byte-index _ c.in_default-escape.not-Outside (omega (arith, c.bytes-test.false)) c.bytes.invariant.so_far
