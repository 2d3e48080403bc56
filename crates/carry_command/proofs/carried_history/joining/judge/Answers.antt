use Rattle.std.proofs.Common.{◌<◌, All, sym, ap, subst, ◌∙◌}
use Rattle.rail_types.specs.declared.paths.Claim.{Claim}
use Rattle.rail_types.specs.Occupation.{AreJoined}
use Rattle.path_recover.specs.claims.Held.{held}
use Rattle.path_recover.specs.history.Live.{live_claims}
use Rattle.path_recover.specs.history.Verdict.{taken_or_fresh}
use Rattle.carry_command.specs.CarriedInside.{carried_of}
use Rattle.carry_command.proofs.Judging.{told_by_held}
use Rattle.carry_command.proofs.carried_history.joining.judge.Goals as goal

pub first_taken-requires : goal.first_taken-requires
first_taken-requires c =
    let t = c.args.empty.now.timetable in
    let entry = c.args.entry.now in
    let next = c.requires.next in
    let laws = c.claims_are_on_the_network.ensures in
    record {
      zones = subst (λ n. All (λ (claim : Claim). claim.zone < n) c.args.claims.now) (sym next.carried.zones) (subst (All (λ (claim : Claim). claim.zone < t.net.zones)) (sym c.requires.claims) (laws.zones t entry c.net.ensures.timetable next.in_range));
      joined = subst AreJoined (sym c.requires.claims) (laws.joined t entry next.in_range);
      apart = c.zones.ensures.apart;
    }

pub returns : goal.returns
returns c =
    let t = c.args.empty.now.timetable in
    let entry = c.args.entry.now in
    let next = c.requires.next in
    let entries = carried_of c.args.old.now.entries c.args.carrying.now in
    let book = held c.args.carrying.now.book in
    let alike = c.first_clashes_are_first.ensures.alike book (live_claims t entries) c.args.claims.now c.zones.ensures.apart next.carried.live in
    c.taken_or_fresh.ensures ∙ (ap taken_or_fresh c.first_taken.ensures
    ∙ sym (told_by_held t entries entry book c.args.claims.now next.live.takes_zones next.new c.requires.keeps c.requires.claims alike))
