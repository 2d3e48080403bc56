use Rattle.grant_journal.proofs.Entering.{begins}
use Rattle.grant_journal.proofs.journal_moments.timed.TimedJournal.of.Goals as goal

pub returns-clause-keeps : goal.returns-clause-keeps
returns-clause-keeps g c header bodies count gate short reads = rw (c.moment-made.ensures, c.new.ensures.items) (begins g.D.Disk g.met.D.Disk.only_now c.args.journal header bodies c.args.found count c.requires.idle gate short reads)
