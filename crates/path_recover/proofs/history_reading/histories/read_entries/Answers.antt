use Rattle.std.proofs.Common.{◌+◌, sym, ap, subst}
use Rattle.std.specs.Prelude.{MatchOption}
use Rattle.std.proofs.lemmas.Result.{err_from_is_err_and}
use Rattle.rail_types.specs.declared.entries.Entry.{Entry}
use Rattle.grant_log.specs.Following.{AreLive}
use Rattle.occupation_book.specs.Held.{held}
use Rattle.path_recover.specs.declared.journal_reading.records.Next.TheVariants.{Record, Shut}
use Rattle.path_recover.specs.Walks.{NextIs}
use Rattle.path_recover.proofs.Walked.{read-to, refused-join, refused-next, walked-more}
use Rattle.path_recover.proofs.history_reading.histories.read_entries.Goals as goal

pub returns-in_err-entry-clause-refused : goal.returns-in_err-entry-clause-refused
returns-in_err-entry-clause-refused c =
    let p = err_from_is_err_and c.from_residual.result c.from_residual.ensures.1 in
    rw (p.1, p.2) (refused-next c.args.history.now.timetable c.args.version c.args.left.now c.entries.history c.entries.book c.entries.fields c.entries.invariant (76 + c.at.result) c.next_entry.new.fields c.in_err-entry.field-0.0 (ap (λ n. 76 + n) c.at.ensures) c.front-front.ensures.legal c.in_err-entry.ensures.refused)

pub returns-in-None-clause-found : goal.returns-in-None-clause-found
returns-in-None-clause-found c =
    let old = c.entries.fields in
    let new = c.next_entry.new.fields in
    let shut = subst (λ found. MatchOption found (NextIs c.args.version old new Shut) (λ (entry : Entry). NextIs c.args.version old new (Record entry))) c.in-None.is c.in_ok-entry.ensures.found in
    read-to c.args.history.now.timetable c.args.version c.args.left.now c.entries.history c.entries.book old c.entries.invariant (76 + c.at.result) (ap (λ n. 76 + n) c.at.ensures) c.front-front.ensures.legal shut

pub returns-in-None-clause-live : goal.returns-in-None-clause-live
returns-in-None-clause-live c =
    subst (λ t. AreLive t (held c.entries.book) c.entries.history.entries) (sym c.entries.invariant.same) c.entries.invariant.live

pub join-requires-clause-live : goal.join-requires-clause-live
join-requires-clause-live c =
    subst (λ t. AreLive t (held c.entries.book) c.entries.history.entries) (sym c.entries.invariant.same) c.entries.invariant.live

pub entries-preserved : goal.entries-preserved
entries-preserved c =
    let old = c.entries.fields in
    let new = c.next_entry.new.fields in
    let stands = subst (λ found. MatchOption found (NextIs c.args.version old new Shut) (λ (entry : Entry). NextIs c.args.version old new (Record entry))) c.in-Some.is c.in_ok-entry.ensures.found in
    walked-more c.args.history.now.timetable c.args.version c.args.left.now c.entries.history c.entries.book old c.entries.invariant c.in-Some.entry c.join.new.history c.join.new.book new stands.0 stands.1 stands.2 c.join.ensures.timetable c.in_ok-join-in-Some.ensures.joined c.in_ok-join-in-Some.ensures.live c.in_ok-join-in-Some.ensures.zones

pub returns-in_err-join-in-Some-clause-refused : goal.returns-in_err-join-in-Some-clause-refused
returns-in_err-join-in-Some-clause-refused c =
    let old = c.entries.fields in
    let new = c.next_entry.new.fields in
    let stands = subst (λ found. MatchOption found (NextIs c.args.version old new Shut) (λ (entry : Entry). NextIs c.args.version old new (Record entry))) c.in-Some.is c.in_ok-entry.ensures.found in
    let p = err_from_is_err_and c.from_residual-in_err-join-in-Some.result c.from_residual-in_err-join-in-Some.ensures.1 in
    rw (p.1, p.2) (refused-join c.args.history.now.timetable c.args.version c.args.left.now c.entries.history c.entries.book old c.entries.invariant c.in-Some.entry new c.front-front.result c.in_err-join-in-Some.field-0.0 c.front-front.ensures.front c.front-front.ensures.legal stands c.in_err-join-in-Some.ensures.refused)
