use Rattle.std.proofs.Common.{◌≡◌, ◌+◌, ◌++◌, [], ◌∷◌, length, take, sym, ap, ◌∙◌, subst, arith, refl, Some, slice_get, length-append}
use Rattle.std.proofs.lemmas.List.{take_all}
use Rattle.path_commit.specs.Runs.{AreAnswered, AreTurns}
use Rattle.path_commit.proofs.Growing.{answered-more, grows-not, grows-then, item_at, none_answered, take-next, turns-more}
use Rattle.path_commit.proofs.turns.run_all.Goals as goal

pub loop-one-init : goal.loop-one-init
loop-one-init g c =
    let none = c.in_ok-answers.ensures.items in record {
      grows = grows-not c.args.book.now;
      turns = subst (λ answers. AreTurns g.D.Disk c.args.book.now [] answers c.args.book.now) (sym none) refl;
      later = omega arith;
      count = ap length none;
      len = c.in_ok-answers.ensures.len;
      room = c.in_ok-answers.ensures.capacity;
      answered = none_answered c.args.book.now c.args.sent.now c.in_ok-answers.answers.items none;
    }

pub loop-one-preserved : goal.loop-one-preserved
loop-one-preserved g c =
    let known = c.loop-one.invariant in
    let sent = c.args.sent.now in
    let old = c.loop-one.book in
    let new = c.turn-answer.new.book in
    let one = c.one-item.result in
    let answer = c.turn-answer.result in
    let told = c.turn-answer.ensures in
    let pushed = c.push_reserved.ensures in
    let here = item_at sent c.loop-one.one-index one c.loop-one-test.true c.one-item.is in
    let place : slice_get sent (length c.loop-one.answers.items) ≡ Some one = ap (slice_get sent) known.count ∙ here in
    let items : take (c.loop-one.one-index + 1) sent ≡ take c.loop-one.one-index sent ++ (one ∷ []) = take-next sent c.loop-one.one-index one c.loop-one-test.true c.one-item.is in
    let more = turns-more g.D.Disk c.args.book.now old new (take c.loop-one.one-index sent) c.loop-one.answers.items one answer known.turns told.turn in record {
      grows = grows-then c.args.book.now old new known.grows told.grows;
      turns = subst (λ answers. AreTurns g.D.Disk c.args.book.now (take (c.loop-one.one-index + 1) sent) answers new) (sym pushed.items) (subst (λ l. AreTurns g.D.Disk c.args.book.now l (c.loop-one.answers.items ++ (answer ∷ [])) new) (sym items) more);
      later = let before = known.later in let now = told.later in omega (arith, before, now);
      count = ap length pushed.items ∙ length-append c.loop-one.answers.items (answer ∷ []) ∙ ap (λ n. n + 1) known.count;
      len = pushed.len ∙ ap (λ n. n + 1) known.len;
      room = let room = known.room in omega (arith, room, pushed.capacity);
      answered = subst (AreAnswered new sent) (sym pushed.items) (answered-more old new sent c.loop-one.answers.items one answer told.grows known.answered place told.answered);
    }

pub returns-in_err-answers-clause-grows : goal.returns-in_err-answers-clause-grows
returns-in_err-answers-clause-grows g c = grows-not c.args.book.now

pub returns-clause-turns : goal.returns-clause-turns
returns-clause-turns g c = subst (λ l. AreTurns g.D.Disk c.args.book.now l c.loop-one.answers.items c.loop-one.book) (take_all c.loop-one.one-index c.args.sent.now c.loop-one-test.false) c.loop-one.invariant.turns

pub returns-clause-later : goal.returns-clause-later
returns-clause-later g c = c.loop-one.invariant.later
