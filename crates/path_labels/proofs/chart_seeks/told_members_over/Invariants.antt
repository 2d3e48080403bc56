use Rattle.std.proofs.Common.{◌≡◌, take}
use Rattle.path_labels.specs.ChartCourses.{members_along}
use Rattle.path_labels.specs.Joining.{members_in}
use Rattle.path_labels.proofs.chart_seeks.told_members_over.Given as goal

abbrev pub invariant-loop-member : goal.invariant-loop-member
invariant-loop-member l = l.told ≡ members_in (members_along l.spots.spots l.levels) (take l.member-index l.members)
