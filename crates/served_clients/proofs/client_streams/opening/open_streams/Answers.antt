use Rattle.std.proofs.Common.{[], ◌∷◌, subst}
use Rattle.outside_io.specs.Openings.{source_at, sink_at}
use Rattle.command_reports.specs.Scenes.{Scene, scene}
use Rattle.served_clients.specs.Lending.{SourceIsIn, SourceIsOut, source_of}
use Rattle.served_clients.specs.Refusing.{IsStopped}
use Rattle.served_clients.proofs.StreamStops.{stops_before, stops_behind}
use Rattle.served_clients.proofs.client_streams.opening.open_streams.Goals as goal

pub returns-in-Err-clause-stopped : goal.returns-in-Err-clause-stopped
returns-in-Err-clause-stopped g c =
    let Src = g.row.O-Src.Denot in let Snk = g.row.O-Snk.Denot in let Dsk = g.row.O-Dsk.Denot in
    let s0 : Scene Src Snk Dsk = scene g.O.Outside c.args.outside.now in
    let s1 : Scene Src Snk Dsk = scene g.O.Outside c.open_source.new.outside in
    let client = c.args.client.now in
    stops_before (source_at client.input ∷ []) (sink_at client.output ∷ []) s0 s1 c.in-Err.refusal
    (subst (λ name. IsStopped (source_at name ∷ []) s0 s1 c.in-Err.refusal) c.as_str.ensures c.in-Err.ensures.stopped)

pub returns-in-Err-open_sink-clause-stopped : goal.returns-in-Err-open_sink-clause-stopped
returns-in-Err-open_sink-clause-stopped g c =
    let Src = g.row.O-Src.Denot in let Snk = g.row.O-Snk.Denot in let Dsk = g.row.O-Dsk.Denot in
    let s0 : Scene Src Snk Dsk = scene g.O.Outside c.args.outside.now in
    let s1 : Scene Src Snk Dsk = scene g.O.Outside c.open_source.new.outside in
    let s2 : Scene Src Snk Dsk = scene g.O.Outside c.open_sink.new.outside in
    let s3 : Scene Src Snk Dsk = scene g.O.Outside c.put_back_source.new.self in
    let client = c.args.client.now in let source = c.in-Ok.source in
    stops_behind (source_of client.input source) (sink_at client.output ∷ []) s0 s1 s2 s3 c.in-Err-open_sink.refusal ((λ e. cc), tt)
    (subst (λ name. SourceIsOut name source s0 s1) c.as_str.ensures c.in-Ok.ensures.out)
    (subst (λ name. SourceIsIn name source s2 s3) c.as_str-in-Err-open_sink.ensures (record {
      object = c.put_back_source.ensures.object;
      ready = c.put_back_source.ensures.ready;
      opened = c.put_back_source.ensures.opened;
      quiet = c.put_back_source.ensures.quiet;
      sinks = c.put_back_source.ensures.sinks;
      disks = c.put_back_source.ensures.disks;
      report = c.put_back_source.ensures.report;
    }))
    (subst (λ name. IsStopped (sink_at name ∷ []) s1 s2 c.in-Err-open_sink.refusal) c.as_str-2.ensures c.in-Err-open_sink.ensures.stopped)
