use Rattle.std.specs.Prelude.{Contains}
use Rattle.std.specs.List.{AllWithin}
use Rattle.tail_states.proofs.wanted.places_of_members.Given as goal

abbrev pub invariant-loop-member : goal.invariant-loop-member
invariant-loop-member l = AllWithin (λ member. Contains l.places member.place) l.wanted 0 l.member-index
