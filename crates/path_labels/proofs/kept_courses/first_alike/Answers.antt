use Rattle.std.proofs.Common.{◌≡◌, false, true, length, subst, sym, arith}
use Rattle.std.proofs.lemmas.List.Elements.{All-from_all_within, AllWithin-more, AllWithin-upto, at_read}
use Rattle.tail_states.specs.Alike.{AreAlike}
use Rattle.path_labels.specs.declared.kept_courses.KeptCourse.{KeptCourse}
use Rattle.path_labels.proofs.kept_courses.first_alike.Goals as goal

pub returns-then-are_alike-clause-some : goal.returns-then-are_alike-clause-some
returns-then-are_alike-clause-some c = record {
  within = c.loop-at-test.true;
  alike = at_read c.args.courses.now (λ (one : KeptCourse). AreAlike one.request c.args.request.now) c.loop-at.at c.index-courses-at.result c.loop-at-test.true c.index-courses-at.is
      (subst (λ (one : KeptCourse). AreAlike one.request c.args.request.now) (sym c.index-courses-at.is) (c.are_alike.ensures.0 c.if-are_alike.true));
}

pub returns-clause-none : goal.returns-clause-none
returns-clause-none c =
    All-from_all_within (λ (one : KeptCourse). ¬ AreAlike one.request c.args.request.now) c.args.courses.now
    (AllWithin-upto (λ (one : KeptCourse). ¬ AreAlike one.request c.args.request.now) c.args.courses.now 0 c.loop-at.at (length c.args.courses.now) (omega arith) c.loop-at.invariant)

pub loop-at-preserved : goal.loop-at-preserved
loop-at-preserved c =
    let other : ¬ AreAlike c.index-courses-at.result.request c.args.request.now = λ alike. (
    let same : c.are_alike.result ≡ true = c.are_alike.ensures.1 (subst (λ (one : KeptCourse). AreAlike one.request c.args.request.now) c.index-courses-at.is alike) in
    let differs : c.are_alike.result ≡ false = c.if-are_alike.false in
    cc
    ) in
    AllWithin-more (λ (one : KeptCourse). ¬ AreAlike one.request c.args.request.now) c.args.courses.now 0 c.loop-at.at c.loop-at.invariant
    (at_read c.args.courses.now (λ (one : KeptCourse). ¬ AreAlike one.request c.args.request.now) c.loop-at.at c.index-courses-at.result c.loop-at-test.true c.index-courses-at.is other)
