use Rattle.outside_io.specs.Openings.{sink_at}
use Rattle.command_reports.specs.Scenes.{Scene, scene}
use Rattle.served_clients.proofs.StreamRounds.{not_ready}
use Rattle.served_clients.proofs.StreamStops.{stops_alone}
use Rattle.served_clients.proofs.client_streams.opening.open_sink.Goals as goal

pub returns-in-Err-clause-stopped : goal.returns-in-Err-clause-stopped
returns-in-Err-clause-stopped g c =
    let Src = g.row.O-Src.Denot in let Snk = g.row.O-Snk.Denot in let Dsk = g.row.O-Dsk.Denot in
    let s0 : Scene Src Snk Dsk = scene g.O.Outside c.args.outside.now in
    let s1 : Scene Src Snk Dsk = scene g.O.Outside c.sink.new.self in
    let call = sink_at c.args.name.now in
    let e = c.in-Err.ensures in
    stops_alone call s0 s1 c.not_opened.result e.opened
    (record { standing = e.ready.refused; sources = e.sources; sinks = e.object.refused; disks = e.disks; report = e.report })
    (not_ready Snk c.in-Err.field-0 (s0.standing call) e.ready.told) e.cause.failed c.not_opened.ensures
