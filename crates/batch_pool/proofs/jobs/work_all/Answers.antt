use Rattle.std.proofs.Common.{List, All, drop, length, map, ap, sym, ◌∙◌, subst}
use Rattle.std.proofs.lemmas.List.{take_at}
use Rattle.crossbeam_queue.specs.Passes.{IsPassOf}
use Rattle.batch_pool.specs.Batches.{AreMatched, IsServed}
use Rattle.batch_pool.specs.Shifts.{IsBack, served_of}
use Rattle.batch_pool.specs.declared.jobs.Job.{Job}
use Rattle.batch_pool.specs.declared.workers.Served.{Served}
use Rattle.batch_pool.proofs.Matched.{matched_each}
use Rattle.batch_pool.proofs.jobs.work_all.Goals as goal

pub returns-clause-passes : goal.returns-clause-passes
returns-clause-passes g c =
    let W = g.row.W.Denot in let R = g.row.W-Reply.Denot in
    let now : List (Job W R) = c.work_each.new.jobs in
    let all = take_at now (drop (length now) c.args.jobs.items) c.args.jobs.len (c.work_each.auto.jobs ∙ ap length c.as_mut_slice.ensures.value ∙ sym c.args.jobs.ok.0) in
    subst (All (λ (j : Job W R). IsPassOf c.args.line.now j.pass)) (sym all) c.work_each.ensures.passes

pub returns-clause-count : goal.returns-clause-count
returns-clause-count g c =
    let W = g.row.W.Denot in let R = g.row.W-Reply.Denot in
    let now : List (Job W R) = c.work_each.new.jobs in let long = c.work_each.auto.jobs ∙ ap length c.as_mut_slice.ensures.value in
    ap length (take_at now (drop (length now) c.args.jobs.items) c.args.jobs.len (long ∙ sym c.args.jobs.ok.0)) ∙ long

pub returns-clause-back : goal.returns-clause-back
returns-clause-back g c =
    let W = g.row.W.Denot in let R = g.row.W-Reply.Denot in
    let now : List (Job W R) = c.work_each.new.jobs in
    let all = take_at now (drop (length now) c.args.jobs.items) c.args.jobs.len (c.work_each.auto.jobs ∙ ap length c.as_mut_slice.ensures.value ∙ sym c.args.jobs.ok.0) in
    subst (All (IsBack g.W.Worker.left g.W.Worker.is_sound c.args.todo.now)) (sym all) c.work_each.ensures.back

pub returns-clause-served : goal.returns-clause-served
returns-clause-served g c =
    let W = g.row.W.Denot in let R = g.row.W-Reply.Denot in
    let was : List (Job W R) = c.as_mut_slice.result.now in let now : List (Job W R) = c.work_each.new.jobs in
    let value = c.as_mut_slice.ensures.value in
    let all = take_at now (drop (length now) c.args.jobs.items) c.args.jobs.len (c.work_each.auto.jobs ∙ ap length value ∙ sym c.args.jobs.ok.0) in
    let S : W → Served W R → Type 0 = λ w s. IsServed g.W.Worker.gives g.W.Worker.left c.args.lines.now w s in
    let f : Job W R → W = λ j. j.shift.worker in let h : Job W R → Served W R = λ j. served_of j.shift in
    let there = matched_each S f h was now c.work_each.auto.jobs c.work_each.ensures.served in
    subst (λ (l : List (Job W R)). AreMatched S (map f c.args.jobs.items) (map h l)) (sym all) (subst (λ (l : List (Job W R)). AreMatched S (map f l) (map h now)) value there)
