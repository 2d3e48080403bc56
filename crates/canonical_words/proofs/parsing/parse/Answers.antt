use Rattle.std.proofs.Common.{◌≡◌, ◌&&◌, Bool, true, false, refl}
use Rattle.canonical_words.proofs.parsing.parse.Goals as goal

left_is : (a b : Bool) → (a && b) ≡ true → a ≡ true
left_is true b both = refl
left_is false b both = both

pub returns-in-Ok : goal.returns-in-Ok
returns-in-Ok c = (c.in-Ok.ensures.matches (left_is _ _ c.requires.taken)).0
