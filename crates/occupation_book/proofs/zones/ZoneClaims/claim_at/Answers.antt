use Rattle.std.proofs.Common.{◌<◌, arith, ap, length, get_or, ◌∙◌}
use Rattle.occupation_book.specs.Zones.{Zone}
use Rattle.occupation_book.proofs.Columns.{length_rows, row_read}
use Rattle.occupation_book.proofs.zones.ZoneClaims.claim_at.Goals as goal

pub index-rest-requires : goal.index-rest-requires
index-rest-requires c =
    let long = length_rows c.self.inside.zone c.self.inside.ends.items c.self.inside.rest.items c.self.invariant.level in
    let same = ap (λ (zone : Zone). length zone.claims) c.self.view_is in
    omega (arith, c.requires, c.self.invariant.level, c.self.inside.rest.ok.0)

pub index-end-requires : goal.index-end-requires
index-end-requires c =
    let long = length_rows c.self.inside.zone c.self.inside.ends.items c.self.inside.rest.items c.self.invariant.level in
    let same = ap (λ (zone : Zone). length zone.claims) c.self.view_is in
    omega (arith, c.requires, c.self.inside.ends.ok.0)

pub returns : goal.returns
returns c d =
    let long = length_rows c.self.inside.zone c.self.inside.ends.items c.self.inside.rest.items c.self.invariant.level in
    let same = ap (λ (zone : Zone). length zone.claims) c.self.view_is in
    let within : c.args.at < length c.self.inside.ends.items = omega (arith, c.requires) in
    c.claim_of.ensures
    ∙ (row_read c.self.inside.zone c.self.inside.ends.items c.self.inside.rest.items c.args.at c.index-end.result.now c.index-rest.result.now d c.self.invariant.level within c.index-end.ensures c.index-rest.ensures
    ∙ ap (λ (zone : Zone). get_or zone.claims c.args.at d) c.self.view_is)
