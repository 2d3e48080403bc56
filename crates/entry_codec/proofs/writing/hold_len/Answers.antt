use Rattle.std.proofs.Common.{◌≡◌, ◌≤◌, length, arith, rules}
use Rattle.entry_codec.proofs.Appends.{length-plain, length-reasoned}
use Rattle.entry_codec.proofs.writing.hold_len.Goals as goal

pub returns-then-is_empty-clause-length : goal.returns-then-is_empty-clause-length
returns-then-is_empty-clause-length c =
    let none_is : length c.args.reason.now ≡ 0 = search rules in
    omega (arith, length-plain c.args.claims.now c.args.reason.now none_is, c.len.ensures)

pub returns-else-is_empty-clause-length : goal.returns-else-is_empty-clause-length
returns-else-is_empty-clause-length c =
    let some : 1 ≤ length c.args.reason.now = search rules in
    let same : length c.as_bytes-reason.result.now ≡ length c.args.reason.now = search rules in
    omega (arith, length-reasoned c.args.claims.now c.args.reason.now some, c.len-else-is_empty.ensures, same)
