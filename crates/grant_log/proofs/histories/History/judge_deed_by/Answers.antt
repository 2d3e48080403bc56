use Rattle.std.proofs.Common.{◌≡◌, None, sym, ap, subst, ◌∙◌}
use Rattle.rail_types.specs.FirstClash.{first_clash}
use Rattle.rail_types.specs.Occupation.{AreJoined}
use Rattle.occupation_book.specs.Held.{held}
use Rattle.grant_log.specs.Live.{claims_of, live_claims}
use Rattle.grant_log.specs.Verdict.{breaks, taken_or_fresh}
use Rattle.grant_log.proofs.Repeats.{told_of_claims}
use Rattle.grant_log.proofs.histories.History.judge_deed_by.Goals as goal

pub first_in_book-requires-clause-joined : goal.first_in_book-requires-clause-joined
first_in_book-requires-clause-joined c =
    let none : breaks c.args.self.now.timetable c.args.entry.now.deed ≡ None = sym c.breaks.ensures.first ∙ c.in_default-breaks.is in
    subst AreJoined (sym (c.requires.claims none)) (c.claims_are_on_the_network.ensures.joined c.args.self.now.timetable c.args.entry.now c.requires.range)

pub returns : goal.returns
returns c =
    let timetable = c.args.self.now.timetable in
    let deed = c.args.entry.now.deed in
    let none : breaks timetable deed ≡ None = sym c.breaks.ensures.first ∙ c.in_default-breaks.is in
    let other = sym c.freed_position.ensures ∙ c.in_default.is in
    let alike = c.first_clashes_are_first.ensures.alike (held c.args.book.now) (live_claims timetable c.args.self.now.entries) c.args.claims.now c.zones.ensures.apart c.requires.live in
    c.taken_or_fresh.ensures
    ∙ (ap taken_or_fresh (c.first_in_book.ensures ∙ (sym alike ∙ ap (first_clash (live_claims timetable c.args.self.now.entries)) (c.requires.claims none)))
    ∙ sym (told_of_claims timetable c.args.self.now.entries c.args.entry.now.owner deed other none))
