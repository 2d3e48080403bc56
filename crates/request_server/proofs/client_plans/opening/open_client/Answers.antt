use Rattle.command_reports.specs.Scenes.{scene}
use Rattle.served_clients.specs.StreamClients.{stream_calls}
use Rattle.served_clients.proofs.StreamStops.{stops_first}
use Rattle.command_line.specs.Proofs.{proof_of}
use Rattle.request_server.proofs.client_plans.opening.open_client.Goals as goal

pub returns-in_default-take_rules-clause-stopped : goal.returns-in_default-take_rules-clause-stopped
returns-in_default-take_rules-clause-stopped g c = stops_first (stream_calls c.args.client.now (proof_of c.args.proofs.now c.args.client.now.client)) (scene g.O.Outside c.args.outside.now)
