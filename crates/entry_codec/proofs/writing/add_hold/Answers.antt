use Rattle.std.proofs.Common.{◌≡◌, ◌≤◌, length, ap, arith, rules}
use Rattle.entry_codec.proofs.Appends.{length-plain, length-reasoned}
use Rattle.entry_codec.proofs.writing.add_hold.Goals as goal

pub add_claims-requires : goal.add_claims-requires
add_claims-requires c =
    let none_is : length c.args.reason.now ≡ 0 = search rules in
    omega (arith, length-plain c.args.claims.now c.args.reason.now none_is, ap length c.as_slice.ensures, c.requires.room)

pub add_claims-requires-else-is_empty : goal.add_claims-requires-else-is_empty
add_claims-requires-else-is_empty c =
    let some : 1 ≤ length c.args.reason.now = search rules in
    omega (arith, length-reasoned c.args.claims.now c.args.reason.now some, ap length c.as_slice-else-is_empty.ensures, c.requires.room, c.add_name.ensures.spare, c.add_number.ensures.spare)

pub returns-then-is_empty-clause-spare : goal.returns-then-is_empty-clause-spare
returns-then-is_empty-clause-spare c =
    let none_is : length c.args.reason.now ≡ 0 = search rules in
    omega (arith, length-plain c.args.claims.now c.args.reason.now none_is, ap length c.as_slice.ensures, c.add_claims.ensures.spare)

pub returns-else-is_empty-clause-spare : goal.returns-else-is_empty-clause-spare
returns-else-is_empty-clause-spare c =
    let some : 1 ≤ length c.args.reason.now = search rules in
    omega (arith, length-reasoned c.args.claims.now c.args.reason.now some, ap length c.as_slice-else-is_empty.ensures, c.add_name.ensures.spare, c.add_number.ensures.spare, c.add_claims-else-is_empty.ensures.spare)
