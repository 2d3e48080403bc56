use Rattle.std.proofs.Common.{refl, ap, subst}
use Rattle.line_answers.specs.gate.Passes.{view, opened}
use Rattle.line_answers.specs.gate.Views.{mark_of, statement_of}
use Rattle.line_answers.specs.history.Legal.{IsLegal}
use Rattle.line_answers.specs.book.Ledgers.{Ledger, settled_of}
use Rattle.served_clients.proofs.Whole.{run_is, timetable_in}
use Rattle.served_clients.proofs.client_seats.gates.close_gate.Goals as goal

pub returns-clause-run : goal.returns-clause-run
returns-clause-run g c talks joined apart =
    let D = g.row.D.Denot in let faults = g.D.Disk.faults in
    let left : Ledger D = c.close-book.result in let was : Ledger D = opened c.args.shared.gate in
    let v = view c.args.pass in
    let stands = statement_of (λ (b : Ledger D). b.entries) (λ (b : Ledger D). settled_of b) (λ (b : Ledger D). faults b.disk) in
    let same = ap timetable_in c.close-book.ensures.footing in
    run_is faults c.args.shared left (mark_of (stands was)) (mark_of (stands left)) v talks
    joined apart c.close-book.ensures.list c.close-book.ensures.joined c.close-book.ensures.own_entries c.close-book.ensures.rises
    c.close-book.ensures.chain refl
    (subst (λ timetable. IsLegal timetable left.entries) same c.keeps.ensures.legal)
    c.requires.settled refl refl
