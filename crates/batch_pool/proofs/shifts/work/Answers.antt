use Rattle.std.proofs.Common.{sym, subst, ap, ◌∙◌, arith, ◌≡◌, ◌+◌, ◌<◌, ◌≤◌, [], ◌∷◌, ◌++◌, All, length}
use Rattle.std.specs.Prelude.{slice_index_or, vec_capacity}
use Rattle.std.proofs.lemmas.List.{get_or_default}
use Rattle.batch_pool.specs.Hands.{knows, weigh, Took}
use Rattle.batch_pool.specs.Batches.{Leads, places}
use Rattle.batch_pool.proofs.Moves.{takes, learns}
use Rattle.batch_pool.specs.declared.hands.Hand.{Hand}
use Rattle.batch_pool.proofs.Steps.{took_below, took_counts, took_weighs, leads_snoc, places_weigh, length_snoc}
use Rattle.batch_pool.proofs.shifts.work.Goals as goal

pub pop_as-requires-clause-rule : goal.pop_as-requires-clause-rule
pop_as-requires-clause-rule g c =
    (takes _ _ (subst (λ n. 0 < n) (sym c.loop.invariant.parts) c.requires.pass.1), learns _ _)

pub bounds-lines-at : goal.bounds-lines-at
bounds-lines-at g c =
    took_below _ (knows c.loop.pass) _ (knows c.pop_as.new.pass) (subst (All (λ at. at < length c.args.lines.now)) (sym c.loop.invariant.put) c.requires.below)
    c.in-Some-pop_as.ensures.rule

pub answer-reply-requires-clause-left : goal.answer-reply-requires-clause-left
answer-reply-requires-clause-left g c =
    let t = took_counts (knows c.loop.pass) _ (knows c.pop_as.new.pass) c.in-Some-pop_as.ensures.rule in
    let put = ap (λ xs. length xs) c.loop.invariant.put in
    let a = c.loop.invariant.counts in let b = c.loop.invariant.left in let m = t.1 in let n = c.requires.left in omega arith

pub answer-reply-requires-clause-line : goal.answer-reply-requires-clause-line
answer-reply-requires-clause-line g c =
    let lines = c.args.lines.now in let at = c.in-Some-pop_as.at in
    let below =
    took_below _ (knows c.loop.pass) _ (knows c.pop_as.new.pass) (subst (All (λ k. k < length lines)) (sym c.loop.invariant.put) c.requires.below)
    c.in-Some-pop_as.ensures.rule in
    let text : c.as_bytes.result.now ≡ slice_index_or lines at [] = c.as_bytes.ensures ∙ c.index-lines-at.is ∙ get_or_default _ _ _ _ below in
    subst g.W.Worker.is_line (sym text) (c.requires.texts at [] below)

pub push_reserved-requires : goal.push_reserved-requires
push_reserved-requires g c =
    let t = took_counts (knows c.loop.pass) _ (knows c.pop_as.new.pass) c.in-Some-pop_as.ensures.rule in
    let put = ap (λ xs. length xs) c.loop.invariant.put in
    let a : length c.loop.shift.answers.items ≤ _ = c.loop.invariant.counts in let b = c.loop.invariant.room in
    let m = t.1 in let n = c.requires.room in omega arith

pub loop-preserved : goal.loop-preserved
loop-preserved g c =
    let h : Took (knows c.loop.pass) c.in-Some-pop_as.at (knows c.pop_as.new.pass) = c.in-Some-pop_as.ensures.rule in
    let i = c.loop.invariant in let same = c.pop_as.ensures.queue in
    let p : c.push_reserved.new.self.items ≡ c.loop.shift.answers.items ++ (c.in-Some-pop_as.at, c.answer-reply.result) ∷ [] = c.push_reserved.ensures.items in
    let q : vec_capacity c.push_reserved.new.self ≡ vec_capacity c.loop.shift.answers = c.push_reserved.ensures.capacity in
    let longer : length c.push_reserved.new.self.items ≡ length c.loop.shift.answers.items + 1
    = ap length p ∙ length_snoc c.loop.shift.answers.items (c.in-Some-pop_as.at, c.answer-reply.result) in
    let t = took_counts (knows c.loop.pass) _ (knows c.pop_as.new.pass) h in record {
      sound = c.answer-reply.ensures.sound;
      pass = (same.0 ∙ i.pass.0, same.2 ∙ i.pass.1);
      parts = ap (λ (v : Hand). v.parts) h.0 ∙ i.parts;
      put = ap (λ (v : Hand). v.put) h.0 ∙ i.put;
      counts = let a = i.counts in let b = t.0 in omega arith;
      room = q ∙ i.room;
      left = let a = i.left in let b = c.answer-reply.ensures.left in omega arith;
      taken = λ k.
          let a = i.taken k in let b = took_weighs (knows c.loop.pass) _ (knows c.pop_as.new.pass) h k in
          let e : weigh k (places c.push_reserved.new.self.items) ≡ weigh k (places c.loop.shift.answers.items) + k c.in-Some-pop_as.at
          = ap (λ xs. weigh k (places xs)) p ∙ places_weigh k c.loop.shift.answers.items c.in-Some-pop_as.at c.answer-reply.result in omega arith;
      leads = λ first l.
          let gives = g.W.Worker.gives in let lines = c.args.lines.now in
          let below = took_below _ (knows c.loop.pass) _ (knows c.pop_as.new.pass) (subst (All (λ at. at < length lines)) (sym i.put) c.requires.below) h in
          let text : c.as_bytes.result.now ≡ slice_index_or lines c.in-Some-pop_as.at [] = c.as_bytes.ensures ∙ c.index-lines-at.is ∙ get_or_default _ _ _ _ below in
          let step = subst (λ xs. gives c.loop.shift.worker c.in-Some-pop_as.at xs c.answer-reply.result c.answer-reply.new.self) text c.answer-reply.ensures.gives in
          subst (λ xs. Leads gives lines first xs c.answer-reply.new.self) (sym p) (leads_snoc gives lines first _ _ _ _ _ (i.leads first l) step);
    }
