use Rattle.std.proofs.Common.{◌<◌, All, length, ap, sym, ◌∙◌, subst, refl, arith}
use Rattle.batch_pool.specs.Batches.{Leads, places}
use Rattle.batch_pool.specs.Hands.{weigh}
use Rattle.batch_pool.specs.declared.hands.Hand.{Hand}
use Rattle.batch_pool.proofs.jobs.work_one.Goals as goal

pub work-requires-clause-pass : goal.work-requires-clause-pass
work-requires-clause-pass g c _ _ = (c.requires.pass, let e = ap (λ (v : Hand). v.parts) c.requires.ready.knows_all in omega arith)

pub work-requires-clause-below : goal.work-requires-clause-below
work-requires-clause-below g c _ _ =
    let put = ap (λ (v : Hand). v.put) c.requires.ready.knows_all in
    subst (All (λ at. at < length c.args.lines.now)) (sym put) c.requires.below

pub work-requires-clause-counts : goal.work-requires-clause-counts
work-requires-clause-counts g c = let e = ap (λ l. length l) c.requires.ready.empty in omega arith

pub work-requires-clause-room : goal.work-requires-clause-room
work-requires-clause-room g c =
    let put = ap (λ (v : Hand). length v.put) c.requires.ready.knows_all in let e = c.requires.ready.room in omega arith

pub work-requires-clause-left : goal.work-requires-clause-left
work-requires-clause-left g c =
    let put = ap (λ (v : Hand). length v.put) c.requires.ready.knows_all in let e = c.requires.left in omega arith

pub returns-clause-back : goal.returns-clause-back
returns-clause-back g c =
    let ready = c.requires.ready in record {
      parts = c.work.ensures.parts ∙ ap (λ (v : Hand). v.parts) ready.knows_all;
      taken = λ h.
          let t = c.work.ensures.taken h in
          let a = ap (λ (v : Hand). weigh h v.taken) ready.knows_all in
          let b = ap (λ l. weigh h (places l)) ready.empty in omega arith;
      counts = c.work.ensures.counts;
      room = c.work.ensures.room ∙ ready.room;
      left_lines = let a = c.requires.left in let b = c.work.ensures.left in omega arith;
      sound = c.work.ensures.sound;
    }

pub returns-clause-served : goal.returns-clause-served
returns-clause-served g c =
    let worker = c.args.job.now.shift.worker in let gives = g.W.Worker.gives in let lines = c.args.lines.now in
    let b = ap (λ l. length l) c.requires.ready.empty in record {
      leads = c.work.ensures.leads worker (subst (λ l. Leads gives lines worker l worker) (sym c.requires.ready.empty) refl);
      asked = let a = c.work.ensures.left in omega arith;
    }
