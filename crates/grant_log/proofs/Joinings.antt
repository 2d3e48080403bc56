-- Joined claims from a place on.
use Rattle.std.proofs.Common.{ℕ, ◌+◌, List, drop, length, subst, sym, arith, length-drop, get_or-drop, All, AllPairs}
use Rattle.std.proofs.lemmas.List.Elements.{All-drop}
use Rattle.rail_types.specs.declared.paths.Claim.{Claim}
use Rattle.rail_types.specs.Occupation.{AreJoined, EndsBefore, HasTicks}

pub joined_drop : (claims : List Claim) (at : ℕ) → AreJoined claims → AreJoined (drop at claims)
joined_drop claims at joined = record {
  ticks = All-drop (λ claim. HasTicks claim.span) at claims joined.ticks;
  apart = λ i j other less inside. rw (get_or-drop at claims i other, get_or-drop at claims j other) (joined.apart (at + i) (at + j) other (omega arith) (omega (arith, length-drop at claims)));
}
