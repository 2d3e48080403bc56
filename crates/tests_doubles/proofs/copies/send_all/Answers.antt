use Rattle.std.proofs.Common.{◌≡◌, sym, ap, ◌∙◌, subst}
use Rattle.rail_types.specs.Timetables.{Timetable}
use Rattle.path_commit.specs.Runs.{AreInRange}
use Rattle.path_commit.proofs.Growing.{grows-not}
use Rattle.tests_doubles.proofs.copies.send_all.Goals as goal

pub returns-in-None : goal.returns-in-None
returns-in-None g c = grows-not c.args.book.now

pub run_all-requires : goal.run_all-requires
run_all-requires g c =
    let timetable = c.args.book.now.timetable in
    let net : timetable.net ≡ c.net.result.now = sym (c.net.ensures.net ∙ ap (λ (t : Timetable). t.net) c.history.ensures.timetable) in
    record { range = subst (AreInRange timetable) (sym c.deref.ensures.value) (c.in-Some.ensures timetable net) }
