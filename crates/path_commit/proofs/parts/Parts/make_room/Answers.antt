use Rattle.std.proofs.Common.{ap, sym, refl, subst, arith}
use Rattle.grant_log.specs.Legal.{Register}
use Rattle.path_commit.specs.Inside.{AreOne}
use Rattle.path_commit.proofs.Joining.{roomy_one}
use Rattle.path_commit.proofs.parts.Parts.make_room.Goals as goal

pub returns-in_err-reserve_change-clause-one : goal.returns-in_err-reserve_change-clause-one
returns-in_err-reserve_change-clause-one g c =
    let s = c.args.self.now in
    roomy_one g.D.Disk s.network s.base s.history s.history s.claims c.reserve_change.new.book s.journal s.journal.spare c.requires.one refl refl c.reserve_change.ensures.held c.reserve_change.ensures.zones (omega arith)

pub returns-in_err-reserve-clause-one : goal.returns-in_err-reserve-clause-one
returns-in_err-reserve-clause-one g c =
    let s = c.args.self.now in
    roomy_one g.D.Disk s.network s.base s.history c.reserve.new.self s.claims c.reserve_change.new.book s.journal s.journal.spare c.requires.one (ap (λ (r : Register). r.timetable) c.in_err-reserve.ensures.err) (ap (λ (r : Register). r.entries) c.in_err-reserve.ensures.err) c.reserve_change.ensures.held c.reserve_change.ensures.zones (omega arith)

pub returns-in_err-reserve-2-clause-one : goal.returns-in_err-reserve-2-clause-one
returns-in_err-reserve-2-clause-one g c =
    let s = c.args.self.now in
    subst (AreOne g.D.Disk s.network s.base c.reserve.new.self c.reserve_change.new.book) (sym c.reserve-2.ensures.same) (roomy_one g.D.Disk s.network s.base s.history c.reserve.new.self s.claims c.reserve_change.new.book s.journal c.reserve-2.new.self.spare c.requires.one (ap (λ (r : Register). r.timetable) c.in_ok-reserve.ensures.ok) (ap (λ (r : Register). r.entries) c.in_ok-reserve.ensures.ok) c.reserve_change.ensures.held c.reserve_change.ensures.zones c.reserve-2.ensures.kept)

pub returns-clause-one : goal.returns-clause-one
returns-clause-one g c =
    let s = c.args.self.now in
    subst (AreOne g.D.Disk s.network s.base c.reserve.new.self c.reserve_change.new.book) (sym c.reserve-2.ensures.same) (roomy_one g.D.Disk s.network s.base s.history c.reserve.new.self s.claims c.reserve_change.new.book s.journal c.reserve-2.new.self.spare c.requires.one (ap (λ (r : Register). r.timetable) c.in_ok-reserve.ensures.ok) (ap (λ (r : Register). r.entries) c.in_ok-reserve.ensures.ok) c.reserve_change.ensures.held c.reserve_change.ensures.zones c.reserve-2.ensures.kept)
