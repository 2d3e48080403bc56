-- What may be relied on in a proof that was read.
use Rattle.std.proofs.Common.{List, All}
use Rattle.std.specs.Prelude.{◌≤ℤ◌}
use Rattle.std.specs.Str.{bytes_eq}
use Rattle.rail_types.specs.declared.tracks.Network.{Network}
use Rattle.rail_types.specs.declared.trains.Request.{Request}
use Rattle.rail_types.specs.Limits.{IsRequestWithinLimits, IsTrainWithinLimits}
use Rattle.proof_texts.specs.lines.Names.{Names}
use Rattle.proof_texts.specs.lines.Within.{AreSound}
use Rattle.proof_texts.proofs.lines_lemmas.Found.{found_one}
use Rattle.refusal_proof.specs.tails.declared.certificates.Member.{Member}
use Rattle.proof_texts.specs.Told.{IsMemberOn, IsRequestOf}

pub request_within : (known : Names) (request : Request) → AreSound known → IsRequestOf known request → IsRequestWithinLimits request
request_within known request sound is = record {
  train = found_one IsTrainWithinLimits (λ one. bytes_eq request.train.name one.name) known.trains request.train sound.trains is.train.found;
  depart = is.depart;
  arrive = is.arrive;
  count = is.count;
  dwells = λ k d within. (is.stops k d within).short;
}

pub windows_some : (net : Network) (members : List Member) → All (IsMemberOn net) members → All (λ member. member.window.from ≤ℤ member.window.to) members
windows_some net members all k d within = (all k d within).some
