use Rattle.std.proofs.Common.{ℕ, List, Option, take}
use Rattle.std.proofs.lemmas.Result.{IfErr-weaker}
use Rattle.outside_io.specs.Stops.{StopsAt}
use Rattle.line_sessions.specs.Proofs.{faults_by, held_by}
use Rattle.line_sessions.specs.declared.proofs.Proofs.TheVariants.{To}
use Rattle.line_sessions.proofs.proofs.Proofs.put.Goals as goal

-- a sink that stopped is the sink of proofs that stopped
stops_to : {Snk : Type 0} (held : Snk → Option (List ℕ)) (faults : Snk → ℕ) (sink sink' : Snk) (bytes : List ℕ)
    → StopsAt held faults sink sink' bytes → StopsAt (held_by held) (faults_by faults) (To sink) (To sink') bytes
stops_to held faults sink sink' bytes stops = record {
  mid = To stops.mid;
  gained_so = stops.gained_so;
  quiet = stops.quiet;
  kept = stops.kept;
  later = stops.later;
  rose = stops.rose;
}

pub returns-in-To-clause-stopped : goal.returns-in-To-clause-stopped
returns-in-To-clause-stopped g c =
    let held = g.T.Sink.held in
    let faults = g.T.Sink.faults in
    let sink = c.in-To.sink in
    let sink' = c.write_all.new.snk in
    let text = c.args.text.now in
    rw c.in-To.is
    (IfErr-weaker c.write_all.result (λ stop. StopsAt held faults sink sink' (take stop.taken text))
    (λ stop. StopsAt (held_by held) (faults_by faults) (To sink) (To sink') (take stop.taken text))
    (λ stop stops. stops_to held faults sink sink' (take stop.taken text) stops) c.write_all.ensures.stopped)
