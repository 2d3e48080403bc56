use Rattle.std.proofs.Common.{rules, refl, ◌∷◌, ◌++◌, [], List, Some, length, ap, sym, ◌∙◌, subst}
use Rattle.std.proofs.Common.{arith, length-append}
use Rattle.std.proofs.lemmas.List.Elements.{All-pop}
use Rattle.served_clients.specs.gate.Passes.{view}
use Rattle.line_sessions.specs.Ends.{streams}
use Rattle.request_server.specs.declared.jobs.Job.{Job}
use Rattle.served_clients.specs.declared.plans.Session.{Session}
use Rattle.served_clients.specs.Seats.{IsBack}
use Rattle.request_server.specs.Jobs.{session_of}
use Rattle.request_server.proofs.Matched.{Joining, joining_all, joining_more, joining_none}
use Rattle.request_server.proofs.runs.join_all.Goals as goal

pub loop-job-init : goal.loop-job-init
loop-job-init g c = record {
  ready = c.requires.ready;
  share = refl;
  jobs = c.requires.jobs;
  room = search rules;
  joined = λ clients talks all.
      subst (λ l. Joining g.L.Rule c.args.shared.now (streams g.S.Source.left g.S.Source.faults g.T.Sink.held g.T.Sink.faults) clients talks c.args.jobs.items l (view c.args.pass.now))
      (sym c.requires.sessions)
      (joining_none g.L.Rule c.args.shared.now (streams g.S.Source.left g.S.Source.faults g.T.Sink.held g.T.Sink.faults) clients talks c.args.jobs.items (view c.args.pass.now) all c.requires.turns);
}

pub loop-job-preserved : goal.loop-job-preserved
loop-job-preserved g c =
    let D = g.row.D.Denot in let S = g.row.S.Denot in let T = g.row.T.Denot in let B = g.row.B.Denot in let L = g.row.L.Denot in
    let now = c.loop-job.invariant in
    let job : Job D S T B L = c.in-Some.job in let rest : List (Job D S T B L) = c.pop.new.self.items in
    let items = c.in-Some.ensures.items in
    let popped = All-pop (λ (j : Job D S T B L). IsBack c.args.shared.now j.seat) c.loop-job.jobs.items rest (Some job) items now.jobs in
    let before : List (Session S T L) = c.loop-job.sessions.items in
    let pushed = c.push_reserved.ensures.items
    ∙ ap (λ r. before ++ record { name = job.name; source = job.source; sink = job.sink; proofs = job.proofs; ended = job.ended; rules = r } ∷ []) c.leave_seat-rules.ensures.rules in
    let long = ap length items ∙ length-append rest (job ∷ []) in
    let longer = ap length pushed ∙ length-append before (session_of job ∷ []) in record {
      ready = c.leave_seat-rules.ensures.ready;
      share = let shares = c.leave_seat-rules.ensures.share in let was = now.share in omega arith;
      jobs = popped.0;
      room = let same = c.push_reserved.ensures.capacity in let was = now.room in omega arith;
      joined = λ clients talks all.
          subst (λ l. Joining g.L.Rule c.args.shared.now (streams g.S.Source.left g.S.Source.faults g.T.Sink.held g.T.Sink.faults) clients talks rest l (view c.leave_seat-rules.new.pass))
          (sym pushed)
          (joining_more g.L.Rule c.args.shared.now (streams g.S.Source.left g.S.Source.faults g.T.Sink.held g.T.Sink.faults) clients talks rest job before (view c.loop-job.pass) (view c.leave_seat-rules.new.pass)
          (subst (λ l. Joining g.L.Rule c.args.shared.now (streams g.S.Source.left g.S.Source.faults g.T.Sink.held g.T.Sink.faults) clients talks l before (view c.loop-job.pass)) items (now.joined clients talks all))
          c.leave_seat-rules.ensures.seen c.leave_seat-rules.ensures.joined);
    }

pub leave_seat-rules-requires-clause-back : goal.leave_seat-rules-requires-clause-back
leave_seat-rules-requires-clause-back g c =
    let D = g.row.D.Denot in let S = g.row.S.Denot in let T = g.row.T.Denot in let B = g.row.B.Denot in let L = g.row.L.Denot in
    (All-pop (λ (j : Job D S T B L). IsBack c.args.shared.now j.seat) c.loop-job.jobs.items c.pop.new.self.items (Some c.in-Some.job) c.in-Some.ensures.items c.loop-job.invariant.jobs).1

pub returns-clause-joined : goal.returns-clause-joined
returns-clause-joined g c clients talks all =
    joining_all g.L.Rule c.args.shared.now (streams g.S.Source.left g.S.Source.faults g.T.Sink.held g.T.Sink.faults) clients talks c.loop-job.jobs.items c.loop-job.sessions.items (view c.loop-job.pass)
    (c.loop-job.invariant.joined clients talks all) (omega (arith, c.in_default.ensures.cases.0))
