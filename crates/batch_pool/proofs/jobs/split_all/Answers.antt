use Rattle.std.proofs.Common.{arith, refl, sym, ap, ◌∙◌, subst, ◌≡◌, ◌-◌, ◌++◌, [], List, Some, All, length, map, reverse}
use Rattle.std.specs.Prelude.{vec_capacity}
use Rattle.std.proofs.lemmas.List.{length-reverse, reverse-reverse}
use Rattle.std.proofs.lemmas.List.Elements.{All-nil, All-pop, All-push}
use Rattle.crossbeam_queue.specs.Passes.{IsPassOf}
use Rattle.batch_pool.specs.Hands.{hand}
use Rattle.batch_pool.specs.Shifts.{IsReady}
use Rattle.batch_pool.specs.declared.hands.Hand.{Hand}
use Rattle.batch_pool.specs.declared.jobs.Job.{Job}
use Rattle.batch_pool.proofs.Ends.{turned_map}
use Rattle.batch_pool.proofs.Moves.{forks}
use Rattle.batch_pool.proofs.Steps.{length_snoc}
use Rattle.batch_pool.proofs.jobs.split_all.Goals as goal

pub loop-worker-init : goal.loop-worker-init
loop-worker-init g c =
    let W = g.row.W.Denot in let R = g.row.W-Reply.Denot in
    let f : Job W R → W = λ j. j.shift.worker in
    let turned = c.reversed-workers.ensures in let none_yet : length c.args.jobs.items ≡ 0 = ap length c.requires.jobs in
    let P : Job W R → Type 0 = λ j. IsPassOf c.args.line.now j.pass in
    let long = ap length turned ∙ length-reverse c.args.workers.items in record {
      pass = c.requires.pass.0;
      hand_is = c.requires.pass.1 ∙ ap (λ n. hand (1024 - n) c.args.todo.now []) (sym none_yet);
      count = omega arith;
      rooms = c.requires.rooms ∙ sym long;
      empty = c.requires.empty;
      room = c.requires.room;
      space = c.requires.space;
      passes = subst (All P) (sym c.requires.jobs) (All-nil P);
      ready = subst (All (IsReady c.args.todo.now)) (sym c.requires.jobs) (All-nil (IsReady c.args.todo.now));
      workers = ap (λ l. map f l ++ reverse c.reversed-workers.result.items) c.requires.jobs ∙ (ap reverse turned ∙ reverse-reverse c.args.workers.items);
    }

pub last_of-answers-requires : goal.last_of-answers-requires
last_of-answers-requires g c =
    let long = ap length c.in-Some.ensures.items ∙ length_snoc c.pop.new.self.items c.in-Some.worker in
    let same = c.loop-worker.invariant.rooms in omega arith

pub another-pass-requires-clause-rule : goal.another-pass-requires-clause-rule
another-pass-requires-clause-rule g c =
    let parts = ap (λ (v : Hand). v.parts) c.loop-worker.invariant.hand_is in
    let long = ap length c.in-Some.ensures.items ∙ length_snoc c.pop.new.self.items c.in-Some.worker in
    let count = c.loop-worker.invariant.count in let few = c.requires.few in
    forks _ _ (omega arith)

pub loop-worker-preserved : goal.loop-worker-preserved
loop-worker-preserved g c =
    let W = g.row.W.Denot in let R = g.row.W-Reply.Denot in
    let now = c.loop-worker.invariant in let items = c.in-Some.ensures.items in
    let worker : W = c.in-Some.worker in let rest : List W = c.pop.new.self.items in
    let f : Job W R → W = λ j. j.shift.worker in let todo = c.args.todo.now in
    let taken = c.last_of-answers.ensures in let others = c.last_of-answers.new.items.items in let own = c.last_of-answers.result in
    let empty = All-pop (λ room. room.items ≡ []) c.loop-worker.rooms.items others (Some own) taken now.empty in
    let room = All-pop (λ room. vec_capacity room ≡ length todo) c.loop-worker.rooms.items others (Some own) taken now.room in
    let before : List (Job W R) = c.loop-worker.jobs.items in
    let job : Job W R = record { shift = record { worker = worker; answers = own }; pass = c.another-pass.result } in
    let pushed = c.push_reserved.ensures.items in
    let P : Job W R → Type 0 = λ j. IsPassOf c.args.line.now j.pass in
    let queue = c.another-pass.ensures.queue in let rule = c.another-pass.ensures.rule in
    let fewer = ap length items ∙ length_snoc rest worker in
    let fewer_rooms = ap length taken ∙ length_snoc others own in
    let longer = ap length pushed ∙ length_snoc before job in
    let less : 1024 - length before - 1 ≡ 1024 - length c.push_reserved.new.self.items = omega arith in record {
      pass = (queue.0.0 ∙ now.pass.0, queue.0.2 ∙ now.pass.1);
      hand_is = rule.0 ∙ (ap (λ (v : Hand). hand (v.parts - 1) v.put v.taken) now.hand_is ∙ ap (λ n. hand n todo []) less);
      count = let a = now.count in omega arith;
      rooms = let a = now.rooms in omega arith;
      empty = empty.0;
      room = room.0;
      space = let a = now.space in let b = c.push_reserved.ensures.capacity in omega arith;
      passes = subst (All P) (sym pushed) (All-push P before job now.passes queue.1);
      ready = subst (All (IsReady todo)) (sym pushed) (All-push (IsReady todo) before job now.ready record {
        knows_all = rule.1 ∙ ap (λ (v : Hand). hand 1 v.put []) now.hand_is;
        empty = empty.1;
        room = room.1;
      });
      workers = turned_map f before c.push_reserved.new.self.items job rest c.loop-worker.workers.items c.args.workers.items worker pushed items refl now.workers;
    }

pub returns-clause-parts : goal.returns-clause-parts
returns-clause-parts g c =
    let none_left : length c.loop-worker.workers.items ≡ 0 = omega (arith, c.in_default.ensures.cases.0) in
    c.loop-worker.invariant.hand_is ∙ ap (λ n. hand (1024 - n) c.args.todo.now []) (let a = c.loop-worker.invariant.count in omega arith)
