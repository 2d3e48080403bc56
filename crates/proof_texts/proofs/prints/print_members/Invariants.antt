use Rattle.std.proofs.Common.{◌≡◌, ◌++◌, take}
use Rattle.std.specs.List.{flat_map}
use Rattle.proof_texts.specs.Texts.{member_text}
use Rattle.proof_texts.proofs.prints.print_members.Given as goal

abbrev pub invariant-loop-member : goal.invariant-loop-member
invariant-loop-member l = l.to.held ≡ l.fn.to.held ++ flat_map member_text (take l.member-index l.members)
