use Rattle.std.proofs.Common.{◌≡◌, ◌<◌, length, take, All}
use Rattle.std.specs.Prelude.{Contains}
use Rattle.std.specs.List.{AllWithin}
use Rattle.refusal_proof.specs.Inside.{members_of}
use Rattle.refusal_proof.proofs.labels.numbered.Given as goal

abbrev pub invariant-loop-member : goal.invariant-loop-member
invariant-loop-member l = record {
  members_are : members_of l.places.members l.labels.items ≡ take l.member-index l.members;
  numbers : All (λ label. label.number < length l.places.members) l.labels.items;
  places_are : AllWithin (λ member. Contains l.places.members member.place) l.members 0 l.member-index;
}
