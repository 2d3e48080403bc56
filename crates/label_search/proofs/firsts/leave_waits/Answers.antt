use Rattle.std.proofs.Common.{◌≡◌, true, arith, subst, inl}
use Rattle.std.proofs.lemmas.Int.{ints, by_lt_z}
use Rattle.label_search.specs.Plans.{IsShort}
use Rattle.label_search.specs.Paths.{place_at}
use Rattle.label_search.specs.Labels.{IsReached}
use Rattle.label_search.proofs.Covers.{reached_more}
use Rattle.label_search.proofs.Growth.{front_further}
use Rattle.label_search.proofs.Advancing.{advanced_later, advanced_more}
use Rattle.label_search.proofs.firsts.leave_waits.Goals as goal

pub go_on_waiting-requires-clause-part : goal.go_on_waiting-requires-clause-part
go_on_waiting-requires-clause-part c = front_further c.args.plan.now c.args.search.now c.go_on_at_once.new.search c.args.front.now c.go_on_at_once.ensures.further c.requires.front

pub returns-clause-advanced : goal.returns-clause-advanced
returns-clause-advanced c =
    advanced_more c.args.plan.now c.args.search.now c.go_on_at_once.new.search c.go_on_waiting.new.search c.args.queue.now c.leave_later.new.queue c.go_on_waiting.new.queue
    (advanced_later c.args.plan.now c.args.search.now c.go_on_at_once.new.search c.args.queue.now c.leave_later.new.queue c.len-known.result c.go_on_at_once.ensures.further c.len-known.ensures c.leave_later.ensures.kept c.in_ok-leave_later.ensures.left)
    c.in_ok-go_on_waiting.ensures.advanced

pub returns-clause-done : goal.returns-clause-done
returns-clause-done c tick held enter dwelt short fits =
    let positive : IsShort (place_at c.args.plan.now c.args.front.now.place).dwell = (c.requires.plan.places c.args.front.now.place _ c.requires.front.place).dwell in
    by_lt_z tick enter
    (λ takes. c.in_ok-go_on_waiting.ensures.done tick held enter dwelt short takes fits)
    (λ at_once.
    let equal : tick ≡ enter = omega (arith, ints, positive.0) in
    inl (subst (IsReached c.go_on_waiting.new.search.labels.labels c.args.front.now.place true) equal
    (reached_more (λ l. Unit {0}) c.go_on_at_once.new.search.labels.labels c.go_on_waiting.new.search.labels.labels c.args.front.now.place true tick c.in_ok-go_on_waiting.ensures.advanced.further.grown
    (c.in_ok-go_on_at_once.ensures.reached (omega (arith, ints, positive.0)) tick held))))

pub leave_later-requires-clause-outlook : goal.leave_later-requires-clause-outlook
leave_later-requires-clause-outlook c = c.at_the_end.ensures _
