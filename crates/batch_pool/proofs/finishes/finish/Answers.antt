use Rattle.std.proofs.Common.{◌≡◌, ◌+◌, ◌<◌, ◌++◌, ◌∷◌, [], List, Some, All, length, map, ap, sym, ◌∙◌, subst, arith, length-append}
use Rattle.std.proofs.lemmas.List.{map-append}
use Rattle.std.proofs.lemmas.List.Elements.{All-map, All-pop, All-push}
use Rattle.crossbeam_queue.specs.Passes.{IsPassOf}
use Rattle.batch_pool.specs.Batches.{AreMatched, IsServed, places}
use Rattle.batch_pool.specs.Hands.{knows, weigh}
use Rattle.batch_pool.specs.Shifts.{IsBack, served_of, weigh_all}
use Rattle.batch_pool.specs.declared.hands.Hand.{Hand}
use Rattle.batch_pool.specs.declared.jobs.Job.{Job}
use Rattle.batch_pool.specs.declared.workers.Served.{Served}
use Rattle.batch_pool.proofs.Counts.{weigh_all_snoc}
use Rattle.batch_pool.proofs.Matched.{matched_last}
use Rattle.batch_pool.proofs.Moves.{merges}
use Rattle.batch_pool.proofs.Steps.{length_snoc}
use Rattle.batch_pool.proofs.Totals.{weigh-append}
use Rattle.batch_pool.proofs.finishes.finish.Goals as goal

pub gather-served-requires-clause-part : goal.gather-served-requires-clause-part
gather-served-requires-clause-part g c =
    let e = ap (λ (v : Hand). v.parts) c.requires.parts in let few = c.requires.few in omega arith

pub gather-served-requires-clause-passes : goal.gather-served-requires-clause-passes
gather-served-requires-clause-passes g c _ _ =
    let W = g.row.W.Denot in let R = g.row.W-Reply.Denot in
    let P : Job W R → Type 0 = λ j. IsPassOf c.args.line.now j.pass in
    (All-pop P c.args.jobs.items c.last_of-last.new.items.items (Some c.last_of-last.result) c.last_of-last.ensures c.requires.passes).0

pub gather-served-requires-clause-parts : goal.gather-served-requires-clause-parts
gather-served-requires-clause-parts g c _ _ =
    let P = IsBack g.W.Worker.left g.W.Worker.is_sound c.args.todo.now in
    let backs = All-pop P c.args.jobs.items c.last_of-last.new.items.items (Some c.last_of-last.result) c.last_of-last.ensures c.requires.back in
    λ k d l. (backs.0 k d l).parts

pub gather-served-requires-clause-taken : goal.gather-served-requires-clause-taken
gather-served-requires-clause-taken g c _ _ =
    let P = IsBack g.W.Worker.left g.W.Worker.is_sound c.args.todo.now in
    let backs = All-pop P c.args.jobs.items c.last_of-last.new.items.items (Some c.last_of-last.result) c.last_of-last.ensures c.requires.back in
    λ k d l. (backs.0 k d l).taken

pub gather-served-requires-clause-space : goal.gather-served-requires-clause-space
gather-served-requires-clause-space g c =
    let long = ap length c.last_of-last.ensures ∙ length_snoc c.last_of-last.new.items.items c.last_of-last.result in
    let space = c.requires.space in omega arith

pub absorb-requires-clause-queue : goal.absorb-requires-clause-queue
absorb-requires-clause-queue g c =
    let W = g.row.W.Denot in let R = g.row.W-Reply.Denot in
    let P : Job W R → Type 0 = λ j. IsPassOf c.args.line.now j.pass in
    (c.gather-served.ensures.pass, (All-pop P c.args.jobs.items c.last_of-last.new.items.items (Some c.last_of-last.result) c.last_of-last.ensures c.requires.passes).1)

pub absorb-requires-clause-rule : goal.absorb-requires-clause-rule
absorb-requires-clause-rule g c =
    merges _ _ _ _ (let e = ap (λ (v : Hand). v.parts) c.requires.parts in let few = c.requires.few in let a = c.gather-served.ensures.parts in omega arith)

pub work-requires-clause-sound : goal.work-requires-clause-sound
work-requires-clause-sound g c _ _ =
    let P = IsBack g.W.Worker.left g.W.Worker.is_sound c.args.todo.now in
    let back = (All-pop P c.args.jobs.items c.last_of-last.new.items.items (Some c.last_of-last.result) c.last_of-last.ensures c.requires.back).1 in back.sound

pub work-requires-clause-pass : goal.work-requires-clause-pass
work-requires-clause-pass g c _ _ =
    let queue = c.absorb.ensures.queue in let had = c.gather-served.ensures.pass in
    let parts : (knows c.absorb.new.pass).parts ≡ (knows c.gather-served.new.pass).parts + (knows c.last_of-last.result.pass).parts = ap (λ (v : Hand). v.parts) c.absorb.ensures.rule in
    let e = ap (λ (v : Hand). v.parts) c.requires.parts in let few = c.requires.few in let a = c.gather-served.ensures.parts in
    ((queue.0 ∙ had.0, queue.2 ∙ had.1), omega arith)

pub work-requires-clause-below : goal.work-requires-clause-below
work-requires-clause-below g c _ _ =
    let put = ap (λ (v : Hand). v.put) c.absorb.ensures.rule ∙ (c.gather-served.ensures.put ∙ ap (λ (v : Hand). v.put) c.requires.parts) in
    subst (All (λ at. at < length c.args.lines.now)) (sym put) c.requires.below

pub work-requires-clause-counts : goal.work-requires-clause-counts
work-requires-clause-counts g c =
    let P = IsBack g.W.Worker.left g.W.Worker.is_sound c.args.todo.now in
    let back = (All-pop P c.args.jobs.items c.last_of-last.new.items.items (Some c.last_of-last.result) c.last_of-last.ensures c.requires.back).1 in
    let own = (knows c.last_of-last.result.pass).taken in
    let long : length (knows c.absorb.new.pass).taken ≡ length (knows c.gather-served.new.pass).taken + length own
    = ap (λ (v : Hand). length v.taken) c.absorb.ensures.rule ∙ length-append (knows c.gather-served.new.pass).taken own in
    let counts = back.counts in omega arith

pub work-requires-clause-room : goal.work-requires-clause-room
work-requires-clause-room g c =
    let P = IsBack g.W.Worker.left g.W.Worker.is_sound c.args.todo.now in
    let back = (All-pop P c.args.jobs.items c.last_of-last.new.items.items (Some c.last_of-last.result) c.last_of-last.ensures c.requires.back).1 in
    let put = ap (λ (v : Hand). v.put) c.absorb.ensures.rule ∙ (c.gather-served.ensures.put ∙ ap (λ (v : Hand). v.put) c.requires.parts) in
    let long = ap length put in let room = back.room in omega arith

pub work-requires-clause-left : goal.work-requires-clause-left
work-requires-clause-left g c =
    let P = IsBack g.W.Worker.left g.W.Worker.is_sound c.args.todo.now in
    let back = (All-pop P c.args.jobs.items c.last_of-last.new.items.items (Some c.last_of-last.result) c.last_of-last.ensures c.requires.back).1 in
    let put = ap (λ (v : Hand). v.put) c.absorb.ensures.rule ∙ (c.gather-served.ensures.put ∙ ap (λ (v : Hand). v.put) c.requires.parts) in
    let long = ap length put in let room = back.left_lines in omega arith

pub returns-clause-once : goal.returns-clause-once
returns-clause-once g c h =
    let W = g.row.W.Denot in let R = g.row.W-Reply.Denot in
    let P = IsBack g.W.Worker.left g.W.Worker.is_sound c.args.todo.now in
    let back = (All-pop P c.args.jobs.items c.last_of-last.new.items.items (Some c.last_of-last.result) c.last_of-last.ensures c.requires.back).1 in
    let own = knows c.last_of-last.result.pass in let all = knows c.gather-served.new.pass in let joined = c.absorb.ensures.rule in
    let parts : (knows c.absorb.new.pass).parts ≡ all.parts + own.parts = ap (λ (v : Hand). v.parts) joined in
    let long = ap length c.last_of-last.ensures ∙ length_snoc c.last_of-last.new.items.items c.last_of-last.result in
    let whole : (knows c.absorb.new.pass).parts ≡ 1024 =
    let e = ap (λ (v : Hand). v.parts) c.requires.parts in let few = c.requires.few in let a = c.gather-served.ensures.parts in let b = back.parts in omega arith in
    let even = c.work.ensures.all whole h in
    let put = ap (weigh h) (c.work.ensures.put ∙ (ap (λ (v : Hand). v.put) joined ∙ (c.gather-served.ensures.put ∙ ap (λ (v : Hand). v.put) c.requires.parts))) in
    let taken : weigh h (knows c.absorb.new.pass).taken ≡ weigh h all.taken + weigh h own.taken = ap (λ (v : Hand). weigh h v.taken) joined ∙ weigh-append h all.taken own.taken in
    let mine = back.taken h in let others = c.gather-served.ensures.taken h in
    let none_yet = ap (λ (v : Hand). weigh h v.taken) c.requires.parts in let went = c.work.ensures.taken h in
    let one : Served W R = c.serve.result in
    let sums : weigh_all h c.push_reserved.new.self.items ≡ weigh_all h c.gather-served.result.items + weigh h (places one.answers)
    = ap (weigh_all h) c.push_reserved.ensures.items ∙ weigh_all_snoc h c.gather-served.result.items one in
    let last : weigh h (places one.answers) ≡ weigh h (places c.work.new.shift.answers.items) = ap (λ (s : Served W R). weigh h (places s.answers)) c.serve.ensures in
    omega arith

pub returns-clause-served : goal.returns-clause-served
returns-clause-served g c workers matched =
    let W = g.row.W.Denot in let R = g.row.W-Reply.Denot in
    let S : W → Served W R → Type 0 = λ w s. IsServed g.W.Worker.gives g.W.Worker.left c.args.lines.now w s in
    let f : Job W R → Served W R = λ j. served_of j.shift in
    let last : Job W R = c.last_of-last.result in let rest : List (Job W R) = c.last_of-last.new.items.items in
    let was : map f c.args.jobs.items ≡ map f rest ++ f last ∷ [] = ap (map f) c.last_of-last.ensures ∙ map-append f rest (last ∷ []) in
    let is : c.push_reserved.new.self.items ≡ map f rest ++ c.serve.result ∷ []
    = c.push_reserved.ensures.items ∙ ap (λ l. l ++ c.serve.result ∷ []) c.gather-served.ensures.served in
    let went : (w : W) → S w (f last) → S w (served_of c.work.new.shift) = λ w i. record {
      leads = c.work.ensures.leads w i.leads;
      asked = let a = i.asked in let b = c.work.ensures.left in omega arith;
    } in
    let goes : (w : W) → S w (f last) → S w c.serve.result = λ w i. subst (λ s. S w s) (sym c.serve.ensures) (went w i) in
    subst (λ l. AreMatched S workers l) (sym is) (matched_last S workers (map f rest) (f last) c.serve.result (subst (λ l. AreMatched S workers l) was matched) goes)

pub returns-clause-sound : goal.returns-clause-sound
returns-clause-sound g c =
    let W = g.row.W.Denot in let R = g.row.W-Reply.Denot in
    let P = IsBack g.W.Worker.left g.W.Worker.is_sound c.args.todo.now in
    let Q : Served W R → Type 0 = λ s. g.W.Worker.is_sound s.worker in
    let f : Job W R → Served W R = λ j. served_of j.shift in
    let rest : List (Job W R) = c.last_of-last.new.items.items in
    let backs = All-pop P c.args.jobs.items rest (Some c.last_of-last.result) c.last_of-last.ensures c.requires.back in
    let is : c.push_reserved.new.self.items ≡ map f rest ++ c.serve.result ∷ []
    = c.push_reserved.ensures.items ∙ ap (λ l. l ++ c.serve.result ∷ []) c.gather-served.ensures.served in
    let first : All Q (map f rest) = All-map Q f rest (λ k d l. (backs.0 k d l).sound) in
    subst (All Q) (sym is) (All-push Q (map f rest) c.serve.result first (subst Q (sym c.serve.ensures) c.work.ensures.sound))
