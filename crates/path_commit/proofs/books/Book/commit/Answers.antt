use Rattle.std.proofs.Common.{◌∙◌, ap, sym, subst}
use Rattle.grant_journal.specs.Keeping.{Left}
use Rattle.path_commit.specs.Answers.{IsBeforeOrAfter, IsTold}
use Rattle.path_commit.specs.Inside.{ledger_of}
use Rattle.path_commit.specs.Ledgers.{Ledger}
use Rattle.path_commit.proofs.Joining.{cause_not, commits_not, left_not}
use Rattle.path_commit.proofs.books.Book.commit.Goals as goal

pub returns-in-Ok-clause-told : goal.returns-in-Ok-clause-told
returns-in-Ok-clause-told g c = subst (λ (l : Ledger g.row.D.Denot). IsTold l.timetable l.entries c.args.entry c.args.searched c.enter.result) (c.prepare.ensures.same ∙ c.self.view_is) (c.enter.ensures.told c.args.searched)

pub returns-in-Err-clause-told : goal.returns-in-Err-clause-told
returns-in-Err-clause-told g c = rw (c.refuse.ensures, ← c.self.view_is) c.in-Err.ensures.told

pub returns-in-Err-clause-commits : goal.returns-in-Err-clause-commits
returns-in-Err-clause-commits g c = rw c.refuse.ensures (commits_not g.D.Disk c.args.self.now _ c.args.entry c.in-Err.told c.in-Err.ensures.refusal (c.prepare.ensures.same ∙ c.self.view_is))

pub returns-in-Err-clause-cause : goal.returns-in-Err-clause-cause
returns-in-Err-clause-cause g c = rw c.refuse.ensures (cause_not _ _ c.in-Err.told c.in-Err.ensures.refusal (ap (λ (l : Ledger g.row.D.Denot). g.D.Disk.faults l.disk) (c.prepare.ensures.same ∙ c.self.view_is)))

pub returns-in-Err-clause-left : goal.returns-in-Err-clause-left
returns-in-Err-clause-left g c =
    let s = c.self.inside.parts in
    let idle = rw (← c.self.view_is) at c.requires.idle in
    let stays = left_not g.D.Disk g.met.D.Disk.only_now s.network s.base s.history s.claims s.journal c.self.invariant idle in
    let old = ledger_of s.network s.base s.history s.journal in
    rw (← c.self.view_is) (subst (λ (l : Ledger g.row.D.Denot). Left g.D.Disk old.disk l.disk (IsBeforeOrAfter old l)) (sym c.prepare.ensures.same) stays)
