use Rattle.std.proofs.Common.{◌+◌, ◌*◌, ◌≤◌, List, length, map}
use Rattle.serde_json.specs.Data.{Data, Members}
use Rattle.serde_json.specs.View.{view, members_view}
use Rattle.infra_fields.specs.Kept.{Each, Keeps, KeepsFields}
use Rattle.infra_fields.proofs.Turns.{ItemsSoFar, MembersSoFar}
use Rattle.infra_fields.proofs.file_values.kept_values.+keep.Given as goal

abbrev pub decreases-keep : goal.decreases-keep
decreases-keep l = 6 * l.levels

abbrev pub decreases-keep_members : goal.decreases-keep_members
decreases-keep_members l = 6 * l.levels + 5

abbrev pub decreases-take_member : goal.decreases-take_member
decreases-take_member l = 6 * l.levels + 4

abbrev pub decreases-member_value : goal.decreases-member_value
decreases-member_value l = 6 * l.levels + 3

abbrev pub decreases-keep_list : goal.decreases-keep_list
decreases-keep_list l = 6 * l.levels + 2

abbrev pub decreases-keep_items : goal.decreases-keep_items
decreases-keep_items l = 6 * l.levels + 1

abbrev pub invariant-keep_items-items : goal.invariant-keep_items-items
invariant-keep_items-items l =
    (all : List Data)
    × ItemsSoFar l.depth l.initial.reader l.reader all
    × Each (Keeps l.levels) all (map view l.kept.items)
    × (length l.reader ≤ length l.initial.reader)

abbrev pub decreases-keep_items-items : goal.decreases-keep_items-items
decreases-keep_items-items l = length l.reader

abbrev pub invariant-keep_members-members : goal.invariant-keep_members-members
invariant-keep_members-members l =
    (all : Members)
    × MembersSoFar l.depth l.initial.reader l.reader all
    × KeepsFields l.levels all (members_view l.kept.entries)
    × (length l.reader ≤ length l.initial.reader)

abbrev pub decreases-keep_members-members : goal.decreases-keep_members-members
decreases-keep_members-members l = length l.reader
