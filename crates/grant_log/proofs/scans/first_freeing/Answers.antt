use Rattle.std.proofs.Common.{sym, ◌∙◌, subst, arith, true, ◌≡◌}
use Rattle.grant_log.specs.Live.{frees}
use Rattle.grant_log.proofs.Positions.{position_found, position_none}
use Rattle.grant_log.proofs.scans.first_freeing.Goals as goal

pub returns-then-frees : goal.returns-then-frees
returns-then-frees c =
    sym (position_found (λ entry. frees c.args.at entry.deed) c.args.entries.now c.loop-behind.behind c.index-entries-behind.result c.loop-behind-test.true (λ k less. c.loop-behind.invariant k _ less) (subst (λ entry. frees c.args.at entry.deed ≡ true) c.index-entries-behind.is (sym c.frees.ensures ∙ c.if-frees.true)))

pub returns : goal.returns
returns c = sym (position_none (λ entry. frees c.args.at entry.deed) c.args.entries.now (λ k other within. c.loop-behind.invariant k other (omega arith)))
