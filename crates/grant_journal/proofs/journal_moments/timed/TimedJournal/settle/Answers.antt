use Rattle.std.proofs.Common.{◌∙◌, ◌<◌, ◌++◌, ◌∷◌, [], refl, ap, rules}
use Rattle.grant_journal.proofs.Entering.{settles-idle, settles-failed, settles-put}
use Rattle.grant_journal.proofs.journal_moments.timed.TimedJournal.settle.Goals as goal

pub returns-then-not-pending-clause-settles : goal.returns-then-not-pending-clause-settles
returns-then-not-pending-clause-settles g c header bodies kept =
    let kept = rw (← c.self.view_is) at kept in
    rw (← c.self.view_is) (settles-idle g.D.Disk g.met.D.Disk.only_now _ _ header bodies kept refl refl (λ less. absurd (search rules)) refl)

pub returns-in-Done-clause-settles : goal.returns-in-Done-clause-settles
returns-in-Done-clause-settles g c header bodies kept =
    let kept = rw (← c.self.view_is) at kept in
    let open_gate : c.self.inside.journal.gate < c.self.inside.journal.next = search rules in
    let noted = c.push_reserved.ensures.items ∙ ap (λ t. c.self.inside.moments.items ++ t ∷ []) c.moment.ensures in
    rw (← c.self.view_is) (settles-put g.D.Disk g.met.D.Disk.only_now _ _ header bodies kept refl refl open_gate _ c.in-Done.is noted c.in-Done.ensures.gives)

pub returns-in_default-clause-settles : goal.returns-in_default-clause-settles
returns-in_default-clause-settles g c header bodies kept =
    let kept = rw (← c.self.view_is) at kept in
    let open_gate : c.self.inside.journal.gate < c.self.inside.journal.next = search rules in
    rw (← c.self.view_is) (settles-failed g.D.Disk g.met.D.Disk.only_now _ _ header bodies kept refl refl open_gate _ c.in_default.is refl c.in_default.ensures.gives)
