use Rattle.std.proofs.Common.{sym, subst}
use Rattle.std.specs.Prelude.{◌↔◌, IsTrue}
use Rattle.occupation_book.specs.Held.{held}
use Rattle.refusal_proof.specs.Inside.{AreFreeAt, IsCovered, Leads, PassesIn}
use Rattle.refusal_proof.proofs.Moving.{none_of_end, passes_by_all}
use Rattle.refusal_proof.proofs.moves.passes.Goals as goal

pub returns-in-At : goal.returns-in-At
returns-in-At c =
    let horizon = c.args.settings.now.horizon in
    let ticks = c.args.taking.now.ticks in
    let claims = c.as_slice-claims.result.now in
    let law = passes_by_all horizon (AreFreeAt (held c.args.book.now) claims) (IsCovered c.args.labels.now c.in-At.number) ticks c.requires.ticks.0 c.args.window.now c.within_horizon-enters.result c.within_horizon-enters.ensures.from c.within_horizon-enters.ensures.to in
    subst (λ all. IsTrue c.are_covered.result ↔ PassesIn horizon (AreFreeAt (held c.args.book.now) all) (Leads c.args.labels.now c.args.arrive.now c.args.taking.now.next) ticks c.args.window.now) c.as_slice-claims.ensures.value
    (subst (λ next. IsTrue c.are_covered.result ↔ PassesIn horizon (AreFreeAt (held c.args.book.now) claims) (Leads c.args.labels.now c.args.arrive.now next) ticks c.args.window.now) (sym c.in-At.is)
    ((λ yes. law.0 (c.are_covered.ensures.0 yes)), (λ passes. c.are_covered.ensures.1 (law.1 passes))))

pub returns-in-End : goal.returns-in-End
returns-in-End c =
    let horizon = c.args.settings.now.horizon in
    let ticks = c.args.taking.now.ticks in
    let claims = c.as_slice-claims.result.now in
    let enters = c.within_horizon-enters in
    let law = none_of_end horizon (AreFreeAt (held c.args.book.now) claims) c.args.arrive.now ticks c.requires.ticks.0 c.args.window.now enters.result c.arriving.result enters.ensures.from enters.ensures.to c.arriving.ensures.from c.arriving.ensures.to in
    subst (λ all. IsTrue c.are_free_nowhere.result ↔ PassesIn horizon (AreFreeAt (held c.args.book.now) all) (Leads c.args.labels.now c.args.arrive.now c.args.taking.now.next) ticks c.args.window.now) c.as_slice-claims.ensures.value
    (subst (λ next. IsTrue c.are_free_nowhere.result ↔ PassesIn horizon (AreFreeAt (held c.args.book.now) claims) (Leads c.args.labels.now c.args.arrive.now next) ticks c.args.window.now) (sym c.in-End.is)
    ((λ yes. law.0 (c.are_free_nowhere.ensures.0 yes)), (λ passes. c.are_free_nowhere.ensures.1 (law.1 passes))))
