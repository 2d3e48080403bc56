use Rattle.std.proofs.Common.{ap}
use Rattle.rail_types.specs.Occupation.{HeldClaim}
use Rattle.occupation_book.proofs.zones.ZoneClaims.span_at.Goals as goal

pub returns : goal.returns
returns c d = ap (λ (one : HeldClaim). one.0.span) (c.claim_at.ensures d)
