use Rattle.track_graph.specs.Zones.{AreJoined}
use Rattle.track_graph.proofs.OneNumbering.{one_zones}
use Rattle.track_graph.proofs.laws.one_numbering.Goals as goal

pub returns : goal.returns
returns c = λ switches rows pieces one other zones others z o. one_zones (AreJoined switches rows) pieces one other zones others z o
