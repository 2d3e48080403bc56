use Rattle.std.proofs.Common.{subst}
use Rattle.served_clients.specs.lines.Names.{Names}
use Rattle.command_reports.specs.Scenes.{scene}
use Rattle.served_clients.proofs.Names.{known_both}
use Rattle.served_clients.specs.RunGhosts.{run_ghosts}
use Rattle.batch_command.specs.Books.{BookSays}
use Rattle.batch_command.specs.GivenBatches.{batch_of}
use Rattle.batch_command.proofs.Disks.{disk_by}
use Rattle.batch_command.proofs.journals.serve_disk.Goals as goal

pub returns-in-Ok-clause-says : goal.returns-in-Ok-clause-says
returns-in-Ok-clause-says g c =
    let says = subst (λ (known : Names). BookSays (run_ghosts g.O.Src.Source g.O.Snk.Sink g.O.Dsk.Disk g.L.Rule) known (batch_of c.args.client.now c.args.workers c.args.rules.items) c.in-Ok.opened.book c.serve_book.result.0 (scene g.O.Outside c.args.outside.now) (scene g.O.Outside c.serve_book.new.outside) c.serve_book.result.1)
    (known_both c.in-Ok.opened.named c.args.files.network.named c.in-Ok.opened.trains c.args.files.trains c.in-Ok.ensures.named c.in-Ok.ensures.trains) c.serve_book.ensures.says in
    disk_by (run_ghosts g.O.Src.Source g.O.Snk.Sink g.O.Dsk.Disk g.L.Rule) c.args.files c.args.journal.now (batch_of c.args.client.now c.args.workers c.args.rules.items) c.args.disk c.serve_book.result.0 c.in-Ok.opened.book (scene g.O.Outside c.args.outside.now) (scene g.O.Outside c.serve_book.new.outside) c.serve_book.result.1 c.in-Ok.ensures.found
    says
