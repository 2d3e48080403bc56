use Rattle.std.proofs.Common.{ℕ, List, refl, subst}
use Rattle.command_reports.specs.Scenes.{Scene, scene}
use Rattle.served_clients.specs.Lending.{SinkIsIn, SourceIsIn}
use Rattle.served_clients.proofs.client_streams.returning.put_back_client.Goals as goal

pub returns : goal.returns
returns g c =
    let Src = g.row.O-Src.Denot in let Snk = g.row.O-Snk.Denot in let Dsk = g.row.O-Dsk.Denot in
    let s0 : Scene Src Snk Dsk = scene g.O.Outside c.args.outside.now in
    let s1 : Scene Src Snk Dsk = scene g.O.Outside c.put_back_sink.new.self in
    let s2 : Scene Src Snk Dsk = scene g.O.Outside c.put_back_source.new.self in
    let sink : SinkIsIn c.args.client.now.output c.args.sink s0 s1 = subst (λ (name : List ℕ). SinkIsIn name c.args.sink s0 s1) c.as_str.ensures (record {
      object = c.put_back_sink.ensures.object;
      ready = c.put_back_sink.ensures.ready;
      opened = c.put_back_sink.ensures.opened;
      quiet = c.put_back_sink.ensures.quiet;
      sources = c.put_back_sink.ensures.sources;
      disks = c.put_back_sink.ensures.disks;
      report = c.put_back_sink.ensures.report;
    }) in
    let source : SourceIsIn c.args.client.now.input c.args.source s1 s2 = subst (λ (name : List ℕ). SourceIsIn name c.args.source s1 s2) c.as_str-2.ensures (record {
      object = c.put_back_source.ensures.object;
      ready = c.put_back_source.ensures.ready;
      opened = c.put_back_source.ensures.opened;
      quiet = c.put_back_source.ensures.quiet;
      sinks = c.put_back_source.ensures.sinks;
      disks = c.put_back_source.ensures.disks;
      report = c.put_back_source.ensures.report;
    }) in
    record { back = (s1, (s0, refl, sink), source) }
