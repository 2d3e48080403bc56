use Rattle.std.proofs.Common.{[], ◌∷◌}
use Rattle.served_clients.specs.Lending.{sink_of, source_of}
use Rattle.served_clients.proofs.StreamLoans.{out_unchanged}
use Rattle.command_line.specs.declared.client_words.clients.ClientWord.{ClientWord}
use Rattle.command_reports.specs.Scenes.{Scene, scene}
use Rattle.served_clients.specs.book.Ledgers.{Ledger}
use Rattle.served_clients.specs.RunGhosts.{run_ghosts}
use Rattle.batch_command.specs.GivenBatches.{batch_of}
use Rattle.batch_command.proofs.Nesting.{book_by, had_pair, not_opened, pair_keeps}
use Rattle.batch_command.proofs.books.serve_known.Goals as goal

pub returns-in-Err : goal.returns-in-Err
returns-in-Err g c =
    let Src = g.row.O-Src.Denot in let Snk = g.row.O-Snk.Denot in let Dsk = g.row.O-Dsk.Denot in
    let s0 : Scene Src Snk Dsk = scene g.O.Outside c.args.outside.now in
    let s1 : Scene Src Snk Dsk = scene g.O.Outside c.open_streams.new.outside in
    let after : Dsk = c.close.result in let found : Ledger Dsk = c.args.book in
    let stopped = not_opened (run_ghosts g.O.Src.Source g.O.Snk.Sink g.O.Dsk.Disk g.L.Rule) c.args.known (batch_of c.args.answering.now.client.now c.args.answering.now.workers c.args.rules.items) found after s0 s1 c.in-Err.refusal c.close.ensures.disk c.in-Err.ensures.stopped in
    record { says = stopped.says; keeps = stopped.keeps }

pub serve_list-disk-requires-clause-named : goal.serve_list-disk-requires-clause-named
serve_list-disk-requires-clause-named g c κs within = c.requires.client.formed.client

pub serve_list-disk-requires-clause-name : goal.serve_list-disk-requires-clause-name
serve_list-disk-requires-clause-name g c κs within = c.requires.client.short

pub serve_list-disk-requires-clause-workers : goal.serve_list-disk-requires-clause-workers
serve_list-disk-requires-clause-workers g c κs within = c.requires.workers

pub serve_list-disk-requires-clause-settled : goal.serve_list-disk-requires-clause-settled
serve_list-disk-requires-clause-settled g c κs within = c.requires.settled

pub serve_list-disk-requires-clause-sound : goal.serve_list-disk-requires-clause-sound
serve_list-disk-requires-clause-sound g c κs within = c.requires.sound

pub serve_list-disk-requires-clause-network : goal.serve_list-disk-requires-clause-network
serve_list-disk-requires-clause-network g c κs within = c.requires.network

pub returns-in-Ok : goal.returns-in-Ok
returns-in-Ok g c =
    let Src = g.row.O-Src.Denot in let Snk = g.row.O-Snk.Denot in let Dsk = g.row.O-Dsk.Denot in
    let s0 : Scene Src Snk Dsk = scene g.O.Outside c.args.outside.now in
    let s1 : Scene Src Snk Dsk = scene g.O.Outside c.open_streams.new.outside in
    let s2 : Scene Src Snk Dsk = scene g.O.Outside c.serve_list-disk.new.outside in
    let s3 : Scene Src Snk Dsk = scene g.O.Outside c.put_back_client.new.outside in
    let client : ClientWord = c.args.answering.now.client.now in let found : Ledger Dsk = c.args.book in
    let before : Src × Snk = c.in-Ok.streams in
    let after : Src × Snk = (c.serve_list-disk.new.source, c.serve_list-disk.new.sink) in
    let ghosts = run_ghosts g.O.Src.Source g.O.Snk.Sink g.O.Dsk.Disk g.L.Rule in
    let batch = batch_of client c.args.answering.now.workers c.args.rules.items in
    let outs = out_unchanged (source_of client.input before.0) (sink_of client.output before.1 ∷ []) s0 s1 s2 c.in-Ok.ensures.out c.serve_list-disk.ensures.still in let ins = c.put_back_client.ensures.back in
    record {
      says = book_by ghosts c.args.known batch before after s0 s3 found c.serve_list-disk.result.0 c.serve_list-disk.result.1 (had_pair client before after s0 s2 s3 outs ins) c.serve_list-disk.ensures.says;
      keeps = pair_keeps client before after s0 s2 s3 outs ins c.serve_list-disk.result.1;
    }
