use Rattle.std.proofs.Common.{◌≡◌, ◌<◌, Some, length, sym, ap, refl, ◌∙◌}
use Rattle.std.proofs.lemmas.Option.{slice_get_read}
use Rattle.std.proofs.lemmas.List.Quantifiers.{position-Some}
use Rattle.rail_types.specs.Timetables.{timetable_of}
use Rattle.grant_log.specs.Legal.{Register}
use Rattle.grant_log.specs.Live.{freed_by}
use Rattle.grant_log.specs.Verdict.{bears, place_of, verdict_on}
use Rattle.grant_log.proofs.Repeats.{repeat_told, told_at_place}
use Rattle.grant_log.proofs.histories.History.judge.Goals as goal

pub returns-in-Some : goal.returns-in-Some
returns-in-Some c =
    let all = c.self.inside.entries.items in
    let entry = c.args.entry.now in
    let timetable = timetable_of c.self.inside.net c.self.inside.base in
    let place : place_of all entry.owner entry.number ≡ Some c.in-Some.at = ap (λ es. place_of es entry.owner entry.number) (sym c.deref.ensures.value) ∙ (sym c.place_of.ensures ∙ c.in-Some.is) in
    let within : c.in-Some.at < length all = (position-Some (bears entry.owner entry.number) all c.in-Some.at c.index.result.now place).0 in
    let here = slice_get_read all (length all) c.in-Some.at c.index.result.now refl within c.index.ensures in
    let freed = c.freed_by-freer.ensures ∙ ap (λ es. freed_by es c.in-Some.at) c.deref-in-Some.ensures.value in
    repeat_told all entry.deed c.in-Some.at c.index.result.now c.freed_by-freer.result c.told_again.result here freed c.told_again.ensures
    ∙ (sym (told_at_place timetable all entry c.in-Some.at place) ∙ ap (λ (register : Register). verdict_on register.timetable register.entries entry) c.self.view_is)
