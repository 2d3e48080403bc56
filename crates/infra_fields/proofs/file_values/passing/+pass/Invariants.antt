use Rattle.std.proofs.Common.{◌+◌, ◌*◌, ◌≤◌, List, length}
use Rattle.serde_json.specs.Data.{Data, Members}
use Rattle.infra_fields.proofs.Turns.{ItemsSoFar, MembersSoFar}
use Rattle.infra_fields.proofs.file_values.passing.+pass.Given as goal

abbrev pub decreases-pass : goal.decreases-pass
decreases-pass l = 2 * l.depth

abbrev pub decreases-pass_items : goal.decreases-pass_items
decreases-pass_items l = 2 * l.depth + 1

abbrev pub decreases-pass_members : goal.decreases-pass_members
decreases-pass_members l = 2 * l.depth + 1

abbrev pub invariant-pass_items-items : goal.invariant-pass_items-items
invariant-pass_items-items l =
    (passed : List Data) × ItemsSoFar l.depth l.initial.reader l.reader passed × (length l.reader ≤ length l.initial.reader)

abbrev pub decreases-pass_items-items : goal.decreases-pass_items-items
decreases-pass_items-items l = length l.reader

abbrev pub invariant-pass_members-members : goal.invariant-pass_members-members
invariant-pass_members-members l =
    (passed : Members) × MembersSoFar l.depth l.initial.reader l.reader passed × (length l.reader ≤ length l.initial.reader)

abbrev pub decreases-pass_members-members : goal.decreases-pass_members-members
decreases-pass_members-members l = length l.reader
