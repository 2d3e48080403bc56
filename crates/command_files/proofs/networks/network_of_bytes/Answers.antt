use Rattle.command_files.proofs.Saying.{net_says}
use Rattle.command_files.proofs.networks.network_of_bytes.Goals as goal

pub returns-clause-says : goal.returns-clause-says
returns-clause-says c = net_says c.args.bytes.items c.in_ok-infra.infra c.in-Err.fault c.net_refusal.result c.in_ok-infra.ensures.infra c.in-Err.ensures.fault c.net_refusal.ensures
