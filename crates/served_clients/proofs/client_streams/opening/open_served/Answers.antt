use Rattle.std.proofs.Common.{option_map}
use Rattle.command_reports.specs.Scenes.{Scene, scene}
use Rattle.served_clients.specs.StreamClients.{file_calls, pair_calls, pair_loans, stream_calls}
use Rattle.served_clients.proofs.StreamStops.{stops_before, stops_behind_all}
use Rattle.served_clients.proofs.Uses.{apart_of}
use Rattle.served_clients.proofs.client_streams.opening.open_served.Goals as goal

pub returns-in-Err-clause-stopped : goal.returns-in-Err-clause-stopped
returns-in-Err-clause-stopped g c =
    let Src = g.row.O-Src.Denot in let Snk = g.row.O-Snk.Denot in let Dsk = g.row.O-Dsk.Denot in
    let s0 : Scene Src Snk Dsk = scene g.O.Outside c.args.outside.now in
    let s1 : Scene Src Snk Dsk = scene g.O.Outside c.open_streams.new.outside in
    let file = option_map (λ text. text.now) c.args.file in
    stops_before (pair_calls c.args.client.now) (file_calls file) s0 s1 c.in-Err.refusal c.in-Err.ensures.stopped

pub returns-in-Err-open_file-clause-stopped : goal.returns-in-Err-open_file-clause-stopped
returns-in-Err-open_file-clause-stopped g c =
    let Src = g.row.O-Src.Denot in let Snk = g.row.O-Snk.Denot in let Dsk = g.row.O-Dsk.Denot in
    let s0 : Scene Src Snk Dsk = scene g.O.Outside c.args.outside.now in
    let s1 : Scene Src Snk Dsk = scene g.O.Outside c.open_streams.new.outside in
    let s2 : Scene Src Snk Dsk = scene g.O.Outside c.open_file.new.outside in
    let s3 : Scene Src Snk Dsk = scene g.O.Outside c.put_back_client.new.outside in
    let file = option_map (λ text. text.now) c.args.file in let client = c.args.client.now in
    stops_behind_all (pair_loans client c.in-Ok.pair) (file_calls file) s0 s1 s2 s3 c.in-Err-open_file.refusal
    (apart_of (stream_calls client file) c.requires.distinct) c.in-Ok.ensures.out c.in-Err-open_file.ensures.stopped c.put_back_client.ensures.back
