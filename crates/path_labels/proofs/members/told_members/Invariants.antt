use Rattle.std.proofs.Common.{◌≡◌, take}
use Rattle.path_labels.specs.Joining.{members_in}
use Rattle.path_labels.proofs.members.told_members.Given as goal

abbrev pub invariant-loop-member : goal.invariant-loop-member
invariant-loop-member l = l.told ≡ members_in l.places.members (take l.member-index l.members)
