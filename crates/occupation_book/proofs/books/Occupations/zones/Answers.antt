use Rattle.std.proofs.Common.{subst}
use Rattle.rail_types.specs.FirstClash.{AreApart}
use Rattle.occupation_book.specs.Held.{AreNear, held}
use Rattle.occupation_book.proofs.AllZones.{held_apart, held_near}
use Rattle.occupation_book.proofs.books.Occupations.zones.Goals as goal

pub returns-clause-apart : goal.returns-clause-apart
returns-clause-apart c = subst (λ book. AreApart (held book)) c.self.view_is (held_apart _ c.self.invariant)

pub returns-clause-near : goal.returns-clause-near
returns-clause-near c = subst (λ book. AreNear (held book)) c.self.view_is (held_near _ c.self.invariant)
