use Rattle.std.proofs.Common.{List, All, drop, length, map, ap, sym, ◌∙◌, subst}
use Rattle.std.proofs.lemmas.List.{take_at}
use Rattle.line_sessions.specs.Ends.{streams}
use Rattle.request_server.specs.declared.jobs.Job.{Job}
use Rattle.served_clients.specs.ClientRuns.{AreMatched}
use Rattle.served_clients.specs.Seats.{IsBack}
use Rattle.request_server.specs.Jobs.{begun_of, IsDoneJob, IsReadyJob}
use Rattle.request_server.proofs.Matched.{all_done, matched_all}
use Rattle.request_server.proofs.runs.serve_all.Goals as goal

pub returns-clause-back : goal.returns-clause-back
returns-clause-back g c =
    let D = g.row.D.Denot in let S = g.row.S.Denot in let T = g.row.T.Denot in let B = g.row.B.Denot in let L = g.row.L.Denot in
    let kind = g.L.Rule in
    let was : List (Job D S T B L) = c.as_mut_slice.result.now in let now : List (Job D S T B L) = c.serve_each.new.jobs in
    let value = c.as_mut_slice.ensures.value in let long = c.serve_each.auto.jobs in
    let all = take_at now (drop (length now) c.args.jobs.items) c.args.jobs.len (long ∙ ap length value ∙ sym c.args.jobs.ok.0) in
    let R = IsDoneJob kind c.args.shared.now (streams g.S.Source.left g.S.Source.faults g.T.Sink.held g.T.Sink.faults) in
    let ready = subst (All (IsReadyJob c.args.shared.now)) (sym value) c.requires in
    let done = all_done kind c.args.shared.now (streams g.S.Source.left g.S.Source.faults g.T.Sink.held g.T.Sink.faults) was now long ready c.serve_each.ensures in
    let there = subst (λ l. AreMatched R (map (begun_of kind) l) now done.0) value done.1 in
    let P : Job D S T B L → Type 0 = λ j. IsBack c.args.shared.now j.seat in
    subst (All P) (sym all)
    (matched_all R P (λ client job talk one. one.done.back) (map (begun_of kind) c.args.jobs.items) now done.0 there)

pub returns-clause-count : goal.returns-clause-count
returns-clause-count g c =
    let D = g.row.D.Denot in let S = g.row.S.Denot in let T = g.row.T.Denot in let B = g.row.B.Denot in let L = g.row.L.Denot in
    let was : List (Job D S T B L) = c.as_mut_slice.result.now in let now : List (Job D S T B L) = c.serve_each.new.jobs in
    let value = c.as_mut_slice.ensures.value in let long = c.serve_each.auto.jobs in
    let all = take_at now (drop (length now) c.args.jobs.items) c.args.jobs.len (long ∙ ap length value ∙ sym c.args.jobs.ok.0) in
    ap length all ∙ long ∙ ap length value

pub returns-clause-done : goal.returns-clause-done
returns-clause-done g c =
    let D = g.row.D.Denot in let S = g.row.S.Denot in let T = g.row.T.Denot in let B = g.row.B.Denot in let L = g.row.L.Denot in
    let kind = g.L.Rule in
    let was : List (Job D S T B L) = c.as_mut_slice.result.now in let now : List (Job D S T B L) = c.serve_each.new.jobs in
    let value = c.as_mut_slice.ensures.value in let long = c.serve_each.auto.jobs in
    let all = take_at now (drop (length now) c.args.jobs.items) c.args.jobs.len (long ∙ ap length value ∙ sym c.args.jobs.ok.0) in
    let R = IsDoneJob kind c.args.shared.now (streams g.S.Source.left g.S.Source.faults g.T.Sink.held g.T.Sink.faults) in
    let ready = subst (All (IsReadyJob c.args.shared.now)) (sym value) c.requires in
    let done = all_done kind c.args.shared.now (streams g.S.Source.left g.S.Source.faults g.T.Sink.held g.T.Sink.faults) was now long ready c.serve_each.ensures in
    let there = subst (λ l. AreMatched R (map (begun_of kind) l) now done.0) value done.1 in
    (done.0, subst (λ l. AreMatched R (map (begun_of kind) c.args.jobs.items) l done.0) (sym all) there)
