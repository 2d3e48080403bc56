use Rattle.std.proofs.Common.{sym, ◌∙◌, subst, arith, true, ◌≡◌}
use Rattle.grant_log.specs.Verdict.{bears}
use Rattle.grant_log.proofs.Positions.{position_found, position_none}
use Rattle.grant_log.proofs.scans.place_of.Goals as goal

pub returns-then-bears : goal.returns-then-bears
returns-then-bears c =
    let test = bears c.args.owner.now c.args.number in
    sym (position_found test c.args.entries.now c.loop-at.at c.index-entries-at.result c.loop-at-test.true (λ k less. c.loop-at.invariant k _ less) (subst (λ entry. test entry ≡ true) c.index-entries-at.is (sym c.bears.ensures ∙ c.if-bears.true)))

pub returns : goal.returns
returns c = sym (position_none (bears c.args.owner.now c.args.number) c.args.entries.now (λ k other within. c.loop-at.invariant k other (omega arith)))
