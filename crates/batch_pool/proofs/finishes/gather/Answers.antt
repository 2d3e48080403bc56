use Rattle.std.proofs.Common.{arith, refl, sym, ap, ◌∙◌, subst, ◌≡◌, ◌+◌, ◌++◌, ℕ, List, Some, All, length, map, reverse}
use Rattle.std.proofs.lemmas.List.{length-reverse}
use Rattle.std.proofs.lemmas.List.Elements.{All-pop}
use Rattle.crossbeam_queue.specs.Passes.{IsPassOf}
use Rattle.batch_pool.specs.Batches.{places}
use Rattle.batch_pool.specs.Hands.{knows, weigh}
use Rattle.batch_pool.specs.Shifts.{served_of, weigh_all}
use Rattle.batch_pool.specs.declared.hands.Hand.{Hand}
use Rattle.batch_pool.specs.declared.jobs.Job.{Job}
use Rattle.batch_pool.specs.declared.workers.Served.{Served}
use Rattle.batch_pool.proofs.Counts.{weigh_all_snoc}
use Rattle.batch_pool.proofs.Ends.{all_reverse, reversed_map, turned_from}
use Rattle.batch_pool.proofs.Moves.{merges}
use Rattle.batch_pool.proofs.Steps.{length_snoc}
use Rattle.batch_pool.proofs.Totals.{weigh-append}
use Rattle.batch_pool.proofs.finishes.gather.Goals as goal

pub loop-job-init : goal.loop-job-init
loop-job-init g c =
    let W = g.row.W.Denot in let R = g.row.W-Reply.Denot in
    let jobs : List (Job W R) = c.args.jobs.items in let f : Job W R → Served W R = λ j. served_of j.shift in
    let turned = c.reversed-jobs.ensures in
    let none_yet : length c.args.served.items ≡ 0 = ap length c.requires.served in record {
      pass = c.requires.pass;
      put = refl;
      some_part = c.requires.part;
      parts = omega arith;
      count = let a = ap length turned ∙ length-reverse jobs in omega arith;
      space = c.requires.space;
      passes = subst (All (λ (j : Job W R). IsPassOf c.args.line.now j.pass)) (sym turned) (all_reverse (λ (j : Job W R). IsPassOf c.args.line.now j.pass) jobs c.requires.passes);
      parts_left = subst (All (λ (j : Job W R). (knows j.pass).parts ≡ 1)) (sym turned) (all_reverse (λ (j : Job W R). (knows j.pass).parts ≡ 1) jobs c.requires.parts);
      taken_left = let P : Job W R → Type 0 = λ j. (h : ℕ → ℕ) → weigh h (knows j.pass).taken ≡ weigh h (places j.shift.answers.items) in
          subst (All P) (sym turned) (all_reverse P jobs c.requires.taken);
      taken = λ h. let e : weigh_all h c.args.served.items ≡ 0 = ap (weigh_all h) c.requires.served in omega arith;
      served = ap (λ l. l ++ reverse (map f c.reversed-jobs.result.items)) c.requires.served ∙ (ap (λ l. reverse (map f l)) turned ∙ reversed_map f jobs);
    }

pub absorb-requires-clause-queue : goal.absorb-requires-clause-queue
absorb-requires-clause-queue g c =
    let W = g.row.W.Denot in let R = g.row.W-Reply.Denot in
    let P : Job W R → Type 0 = λ j. IsPassOf c.args.line.now j.pass in
    (c.loop-job.invariant.pass, (All-pop P c.loop-job.jobs.items c.pop.new.self.items (Some c.in-Some.job) c.in-Some.ensures.items c.loop-job.invariant.passes).1)

pub absorb-requires-clause-rule : goal.absorb-requires-clause-rule
absorb-requires-clause-rule g c = merges _ _ _ _ c.loop-job.invariant.some_part

pub loop-job-preserved : goal.loop-job-preserved
loop-job-preserved g c =
    let W = g.row.W.Denot in let R = g.row.W-Reply.Denot in
    let now = c.loop-job.invariant in let joined = c.absorb.ensures.rule in let queue = c.absorb.ensures.queue in
    let job : Job W R = c.in-Some.job in let rest : List (Job W R) = c.pop.new.self.items in let items = c.in-Some.ensures.items in
    let f : Job W R → Served W R = λ j. served_of j.shift in
    let before : List (Served W R) = c.loop-job.served.items in let one : Served W R = c.serve.result in let pushed = c.push_reserved.ensures.items in
    let P : Job W R → Type 0 = λ j. IsPassOf c.args.line.now j.pass in
    let Q : Job W R → Type 0 = λ j. (knows j.pass).parts ≡ 1 in
    let T : Job W R → Type 0 = λ j. (h : ℕ → ℕ) → weigh h (knows j.pass).taken ≡ weigh h (places j.shift.answers.items) in
    let passes = All-pop P c.loop-job.jobs.items rest (Some job) items now.passes in
    let single = All-pop Q c.loop-job.jobs.items rest (Some job) items now.parts_left in
    let evens = All-pop T c.loop-job.jobs.items rest (Some job) items now.taken_left in
    let shorter = ap length items ∙ length_snoc rest job in
    let longer = ap length pushed ∙ length_snoc before one in
    let parts : (knows c.absorb.new.pass).parts ≡ (knows c.loop-job.pass).parts + (knows job.pass).parts = ap (λ (v : Hand). v.parts) joined in record {
      pass = (queue.0 ∙ now.pass.0, queue.2 ∙ now.pass.1);
      put = ap (λ (v : Hand). v.put) joined ∙ now.put;
      some_part = let a = now.some_part in omega arith;
      parts = let a = now.parts in let b = single.1 in omega arith;
      count = let a = now.count in omega arith;
      space = let a = now.space in let b = c.push_reserved.ensures.capacity in omega arith;
      passes = passes.0;
      parts_left = single.0;
      taken_left = evens.0;
      taken = λ h.
          let a = now.taken h in let b = evens.1 h in
          let d : weigh h (knows c.absorb.new.pass).taken ≡ weigh h (knows c.loop-job.pass).taken + weigh h (knows job.pass).taken
          = ap (λ (v : Hand). weigh h v.taken) joined ∙ weigh-append h (knows c.loop-job.pass).taken (knows job.pass).taken in
          let e : weigh_all h c.push_reserved.new.self.items ≡ weigh_all h before + weigh h (places one.answers)
          = ap (weigh_all h) pushed ∙ weigh_all_snoc h before one in
          let s : weigh h (places one.answers) ≡ weigh h (places job.shift.answers.items) = ap (λ (v : Served W R). weigh h (places v.answers)) c.serve.ensures in
          omega arith;
      served = turned_from f before c.push_reserved.new.self.items one rest c.loop-job.jobs.items (map f c.args.jobs.items) job pushed items c.serve.ensures now.served;
    }
