use Rattle.std.proofs.Common.{◌≡◌, ◌∙◌, ap, sym, subst}
use Rattle.served_clients.specs.lines.Within.{AreSound}
use Rattle.served_clients.specs.lines.Names.{Names}
use Rattle.command_reports.specs.Scenes.{scene}
use Rattle.rail_types.specs.declared.named_network.Named.{Named}
use Rattle.served_clients.specs.RunGhosts.{run_ghosts}
use Rattle.served_clients.proofs.Names.{known_same}
use Rattle.batch_command.specs.Books.{BookSays}
use Rattle.batch_command.specs.GivenBatches.{batch_of}
use Rattle.batch_command.proofs.books.serve_book.Goals as goal

pub serve_known-requires-clause-client : goal.serve_known-requires-clause-client
serve_known-requires-clause-client g c κs within = c.requires.client

pub serve_known-requires-clause-workers : goal.serve_known-requires-clause-workers
serve_known-requires-clause-workers g c κs within = c.requires.workers

pub serve_known-requires-clause-settled : goal.serve_known-requires-clause-settled
serve_known-requires-clause-settled g c κs within = c.requires.settled

pub serve_known-requires-clause-sound : goal.serve_known-requires-clause-sound
serve_known-requires-clause-sound g c κs within =
    subst AreSound (sym (known_same c.in-Ok.known c.args.named c.args.trains c.in-Ok.ensures.railway c.in-Ok.ensures.trains)) c.requires.sound

pub serve_known-requires-clause-network : goal.serve_known-requires-clause-network
serve_known-requires-clause-network g c κs within = ap (λ (railway : Named). railway.network) c.in-Ok.ensures.railway ∙ c.requires.network

pub returns-in-Ok-clause-says : goal.returns-in-Ok-clause-says
returns-in-Ok-clause-says g c =
    subst (λ (known : Names). BookSays (run_ghosts g.O.Src.Source g.O.Snk.Sink g.O.Dsk.Disk g.L.Rule) known (batch_of c.args.client.now c.args.workers c.args.rules.items) c.args.book c.serve_known.result.0
    (scene g.O.Outside c.args.outside.now) (scene g.O.Outside c.serve_known.new.outside) c.serve_known.result.1)
    (known_same c.in-Ok.known c.args.named c.args.trains c.in-Ok.ensures.railway c.in-Ok.ensures.trains) c.serve_known.ensures.says

pub returns-in-Ok-clause-keeps : goal.returns-in-Ok-clause-keeps
returns-in-Ok-clause-keeps g c = c.serve_known.ensures.keeps
