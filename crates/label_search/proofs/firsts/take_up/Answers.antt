use Rattle.std.proofs.lemmas.Result.{on_ok_weaker}
use Rattle.label_search.specs.Labels.{as_front, label_at}
use Rattle.label_search.proofs.Advancing.{advanced_none}
use Rattle.label_search.proofs.Doing.{done_at, done_of_move, done_of_wait}
use Rattle.label_search.proofs.firsts.take_up.Goals as goal

pub returns-then-task-len-clause-advanced : goal.returns-then-task-len-clause-advanced
returns-then-task-len-clause-advanced c = advanced_none c.args.plan.now c.args.search.now c.args.queue.now

pub returns-in-Wait-clause-done : goal.returns-in-Wait-clause-done
returns-in-Wait-clause-done c = on_ok_weaker c.wait_on.result
    (λ done inside. done_at c.args.plan.now c.args.trip.now c.args.book.now c.wait_on.new.search c.wait_on.new.queue c.args.task.now.label c.front-front.result (as_front (label_at c.args.search.now.labels.labels c.args.task.now.label)) _ c.args.task.now.work c.front-front.ensures c.in-Wait.is
    (done_of_wait c.front-front.result c.part_from-part.result c.part_from-part.ensures.place c.part_from-part.ensures.ready _ c.part_from-part.ensures.from c.part_from-part.ensures.to c.args.plan.now c.args.trip.now c.args.book.now c.wait_on.new.search c.wait_on.new.queue c.args.task.now.label done))
    c.wait_on.ensures.done

pub returns-in-Move-clause-done : goal.returns-in-Move-clause-done
returns-in-Move-clause-done c = on_ok_weaker c.move_on.result
    (λ done inside. done_at c.args.plan.now c.args.trip.now c.args.book.now c.move_on.new.search c.move_on.new.queue c.args.task.now.label c.front-front.result (as_front (label_at c.args.search.now.labels.labels c.args.task.now.label)) _ c.args.task.now.work c.front-front.ensures c.in-Move.is
    (done_of_move c.front-front.result c.part_from-part-in-Move.result c.part_from-part-in-Move.ensures.place c.part_from-part-in-Move.ensures.ready _ c.part_from-part-in-Move.ensures.from c.part_from-part-in-Move.ensures.to c.args.plan.now c.args.trip.now c.args.book.now c.move_on.new.search c.move_on.new.queue c.args.task.now.label _ done))
    c.move_on.ensures.done
