use Rattle.std.proofs.Common.{◌≤◌, length}
use Rattle.serde_json.specs.Data.{Members}
use Rattle.serde_json.specs.View.{members_view}
use Rattle.infra_fields.specs.Kept.{KeepsLists}
use Rattle.infra_fields.proofs.Turns.{MembersSoFar}
use Rattle.infra_fields.proofs.file_values.file_lists.keep_lists.Given as goal

abbrev pub invariant-members : goal.invariant-members
invariant-members l =
    (all : Members)
    × MembersSoFar l.depth l.initial.reader l.reader all
    × KeepsLists l.half all (members_view l.kept.entries)
    × (length l.reader ≤ length l.initial.reader)

abbrev pub decreases-members : goal.decreases-members
decreases-members l = length l.reader
