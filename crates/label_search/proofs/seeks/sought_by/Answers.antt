use Rattle.std.proofs.Common.{◌≤ℤ◌, All, IfSome, refl, subst, sym}
use Rattle.label_search.specs.Closed.{IsHeld}
use Rattle.label_search.specs.Search.{IsEnding}
use Rattle.label_search.proofs.Seeking.{none_searched, found_searched}
use Rattle.label_search.proofs.seeks.sought_by.Goals as goal

pub returns-in_default : goal.returns-in_default
returns-in_default c = none_searched c.args.plan.now c.args.trip.now c.args.book.now c.requires.plan c.args.search.now.limits c.args.search.now refl c.requires.search c.requires.started c.requires.explored c.requires.consistent _ (λ place tick at. subst (λ members. IsHeld members place tick) (sym c.from_vec-members.ensures) (c.in_ok-members.ensures.held place tick at)) (λ place tick at. c.in_ok-members.ensures.reached place tick (subst (λ members. IsHeld members place tick) c.from_vec-members.ensures at)) (subst (All (λ member. member.window.from ≤ℤ member.window.to)) (sym c.from_vec-members.ensures) c.in_ok-members.ensures.some) c.in_default.is

pub returns : goal.returns
returns c =
    let ends = subst (λ best. IfSome best (IsEnding c.args.plan.now c.args.trip.now c.args.book.now c.args.search.now.labels.labels)) c.in-Some.is c.requires.search.best in
    found_searched c.args.plan.now c.args.trip.now c.args.book.now c.requires.plan c.args.search.now.limits c.args.search.now refl c.requires.search c.requires.started c.requires.explored c.requires.consistent _ (λ place tick at. subst (λ members. IsHeld members place tick) (sym c.from_vec-members.ensures) (c.in_ok-members.ensures.held place tick at)) (λ place tick at. c.in_ok-members.ensures.reached place tick (subst (λ members. IsHeld members place tick) c.from_vec-members.ensures at)) (subst (All (λ member. member.window.from ≤ℤ member.window.to)) (sym c.from_vec-members.ensures) c.in_ok-members.ensures.some) c.in-Some.ending c.in-Some.is ends _ c.in_ok-steps.ensures.path c.in_ok-steps.ensures.fits c.in_ok-steps.ensures.arrival
