use Rattle.std.proofs.Common.{arith, ap, length}
use Rattle.occupation_book.specs.Zones.{Zone}
use Rattle.occupation_book.proofs.Columns.{length_rows}
use Rattle.occupation_book.proofs.zones.ZoneClaims.len.Goals as goal

pub returns : goal.returns
returns c =
    let long = length_rows c.self.inside.zone c.self.inside.ends.items c.self.inside.rest.items c.self.invariant.level in
    let same = ap (λ (zone : Zone). length zone.claims) c.self.view_is in
    omega (arith, c.len.ensures, c.self.inside.ends.ok.0)
