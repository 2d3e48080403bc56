use Rattle.std.proofs.Common.{◌≡◌, ◌+◌, ◌∙◌, not, ap, arith, length, refl}
use Rattle.std.proofs.lemmas.List.Filters.{length-filter_both}
use Rattle.occupation_book.specs.Zones.{Zone}
use Rattle.occupation_book.specs.Columns.{rows_of}
use Rattle.occupation_book.specs.Held.{claims_of, claims_of_others, is_same_owner}
use Rattle.occupation_book.proofs.Columns.{length_rows}
use Rattle.occupation_book.proofs.zones.ZoneClaims.remove.Goals as goal

-- what is taken out and what is left are as many as there were
parted : (c : goal.After-min) → length (claims_of c.args.owner c.args.self.now.claims) + length c.keep_others.new.ends.items ≡ length c.self.inside.ends.items
parted c =
    let zone = c.self.inside.zone in
    let old = length_rows zone c.self.inside.ends.items c.self.inside.rest.items c.self.invariant.level in
    let new = length_rows zone c.keep_others.new.ends.items c.keep_others.new.rest.items c.keep_others.ensures.level in
    let left = ap length (c.keep_others.ensures.claims zone) in
    let both = length-filter_both (λ one. is_same_owner one.1 c.args.owner) (λ one. not (is_same_owner one.1 c.args.owner)) (λ one. refl) (rows_of zone c.self.inside.ends.items c.self.inside.rest.items) in
    let same = ap (λ (zone : Zone). length (claims_of c.args.owner zone.claims)) c.self.view_is in
    omega arith

pub invariant_of-self : goal.invariant_of-self
invariant_of-self c =
    let ends = c.self.invariant.ends in
    let rest = c.self.invariant.rest in
    let level = c.self.invariant.level in
    let new = c.keep_others.ensures.level in
    record {
      level = c.keep_others.ensures.level;
      ends = omega (arith, c.keep_others.ensures.bound, c.keep_others.ensures.ends_room);
      rest = omega (arith, c.keep_others.ensures.bound, c.keep_others.ensures.rest_room, c.self.inside.ends.ok.0, c.self.inside.rest.ok.0, c.keep_others.new.ends.ok.0, c.keep_others.new.rest.ok.0);
    }

pub returns-clause-without : goal.returns-clause-without
returns-clause-without c =
    let spare = ap (λ (zone : Zone). zone.spare) c.self.view_is in
    let all = parted c in
    record {
      claims = c.keep_others.ensures.claims c.self.inside.zone ∙ ap (λ (zone : Zone). claims_of_others c.args.owner zone.claims) c.self.view_is;
      room = omega (arith, c.self.inside.ends.ok.0, c.keep_others.new.ends.ok.0);
    }

pub returns-clause-count : goal.returns-clause-count
returns-clause-count c =
    let all = parted c in
    omega (arith, c.self.inside.ends.ok.0, c.keep_others.new.ends.ok.0)
