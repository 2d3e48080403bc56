use Rattle.std.proofs.Common.{arith}
use Rattle.std.proofs.lemmas.Result.{err_from_is_err_and}
use Rattle.proof_texts.specs.Lines.{members_at}
use Rattle.proof_texts.proofs.Looping.{members_done, members_end, members_go_on}
use Rattle.proof_texts.proofs.members.read_members.Goals as goal

pub returns-in_err-member-clause-members : goal.returns-in_err-member-clause-members
returns-in_err-member-clause-members c =
    let p = err_from_is_err_and c.from_residual.result c.from_residual.ensures.1 in
    rw (p.1, p.2) (members_end c.args.known.now c.in_err-member.field-0.0 c.loop.members c.args.count c.loop.counter c.loop.lines c.read_member.new.lines c.read_member.new.lines (members_at c.args.known.now c.args.count c.args.lines.now) c.loop-test.true c.in_err-member.ensures.member c.loop.invariant.read)

pub loop-preserved : goal.loop-preserved
loop-preserved c = record {
  read = rw c.in_ok-push.ensures.ok (members_go_on c.args.known.now c.loop.members c.args.count c.loop.counter c.loop.lines c.read_member.new.lines c.in_ok-member.member (members_at c.args.known.now c.args.count c.args.lines.now) c.loop-test.true c.in_ok-member.ensures.member c.loop.invariant.read);
  shorter = omega (arith, c.loop.invariant.shorter, c.in_ok-member.ensures.shorter);
}

pub returns-clause-members : goal.returns-clause-members
returns-clause-members c = members_done c.args.known.now c.loop.members c.args.count c.loop.counter c.loop.lines (members_at c.args.known.now c.args.count c.args.lines.now) c.loop-test.false c.loop.invariant.read
