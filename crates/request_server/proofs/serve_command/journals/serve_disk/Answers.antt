use Rattle.std.proofs.Common.{subst}
use Rattle.client_lines.specs.Names.{Names}
use Rattle.command_reports.specs.Scenes.{scene}
use Rattle.request_server.specs.Clienteles.{clientele_of}
use Rattle.served_clients.specs.RunGhosts.{run_ghosts}
use Rattle.request_server.specs.Serving.{BookSays}
use Rattle.served_clients.proofs.Names.{known_both}
use Rattle.request_server.proofs.Disks.{disk_by}
use Rattle.request_server.proofs.serve_command.journals.serve_disk.Goals as goal

pub returns-in-Ok-clause-says : goal.returns-in-Ok-clause-says
returns-in-Ok-clause-says g c =
    let says = subst (λ (known : Names). BookSays (run_ghosts g.O.Src.Source g.O.Snk.Sink g.O.Dsk.Disk g.L.Rule) known (clientele_of c.args.clients.now c.args.proofs.now c.args.rules.items) c.in-Ok.opened.book c.serve_book.result.0 (scene g.O.Outside c.args.outside.now) (scene g.O.Outside c.serve_book.new.outside) c.serve_book.result.1)
    (known_both c.in-Ok.opened.named c.args.files.network.named c.in-Ok.opened.trains c.args.files.trains c.in-Ok.ensures.named c.in-Ok.ensures.trains) c.serve_book.ensures.says in
    disk_by (run_ghosts g.O.Src.Source g.O.Snk.Sink g.O.Dsk.Disk g.L.Rule) c.args.files c.args.journal.now (clientele_of c.args.clients.now c.args.proofs.now c.args.rules.items) c.args.disk c.serve_book.result.0 c.in-Ok.opened.book (scene g.O.Outside c.args.outside.now) (scene g.O.Outside c.serve_book.new.outside) c.serve_book.result.1 c.in-Ok.ensures.found
    says
