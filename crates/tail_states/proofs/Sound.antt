-- What is asked of a network without a flaw.
use Rattle.std.proofs.Common.{◌≡◌, All, None}
use Rattle.rail_types.specs.declared.tracks.Network.{Network}
use Rattle.rail_types.specs.Flaws.{first_flaw}
use Rattle.rail_types.specs.Limits.{IsBlockWithinLimits}
use Rattle.rail_types.specs.Networks.{HasCountsWithinLimits, IsBlockOf}
use Rattle.tail_states.specs.Asked.{SoundNetworksAreAsked}

module _ (limits : (net : Network) → first_flaw net ≡ None → All IsBlockWithinLimits net.blocks)
    (blocks : (net : Network) → first_flaw net ≡ None → All (IsBlockOf net) net.blocks)
    (counts : (net : Network) → first_flaw net ≡ None → HasCountsWithinLimits net) where
  pub sound_are_asked : SoundNetworksAreAsked
  sound_are_asked net request none train stops = record {
    points = record {
      begins = λ k block within. (blocks net none k block within).begins;
      ends = λ k block within. (blocks net none k block within).ends;
      served = λ k block within. (blocks net none k block within).served;
      count = (counts net none).blocks;
    };
    blocks = limits net none;
    train = train;
    stops = stops;
  }
