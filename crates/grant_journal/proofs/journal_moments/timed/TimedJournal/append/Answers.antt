use Rattle.std.proofs.Common.{◌∙◌, ◌++◌, ◌∷◌, [], refl, ap}
use Rattle.grant_journal.specs.declared.journals.Written.TheVariants.{Done, Fault}
use Rattle.grant_journal.specs.Histories.{counted, front_of}
use Rattle.grant_journal.proofs.Entering.{enters}
use Rattle.grant_journal.proofs.journal_moments.timed.TimedJournal.append.Goals as goal

pub returns-in-Done-clause-enters : goal.returns-in-Done-clause-enters
returns-in-Done-clause-enters g c header bodies body is fits kept =
    let kept = rw (← c.self.view_is) at kept in
    let idle = rw (← c.self.view_is) at c.requires.idle in
    let noted = c.push_reserved.ensures.items ∙ ap (λ t. c.self.inside.moments.items ++ t ∷ []) c.moment.ensures in
    rw (← c.self.view_is) (enters g.D.Disk g.met.D.Disk.only_now _ _ header bodies kept refl refl idle body fits Done _ c.in-Done.is noted (λ rest. c.in-Done.ensures.gives (front_of header bodies) (counted body) is rest))

pub returns-in_default-clause-enters : goal.returns-in_default-clause-enters
returns-in_default-clause-enters g c header bodies body is fits kept =
    let kept = rw (← c.self.view_is) at kept in
    let idle = rw (← c.self.view_is) at c.requires.idle in
    rw (← c.self.view_is) (enters g.D.Disk g.met.D.Disk.only_now _ _ header bodies kept refl refl idle body fits (Fault c.in_default.field-0) _ c.in_default.is refl (λ rest. c.in_default.ensures.gives (front_of header bodies) (counted body) is rest))
