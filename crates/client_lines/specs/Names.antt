-- What lines may name.
use Rattle.std.specs.Prelude.{◌≡◌, ℕ, ◌≤◌, List, length, Option}
use Rattle.std.specs.List.{position_from}
use Rattle.std.specs.Map.{lookup}
use Rattle.std.specs.Str.{bytes_eq}
use Rattle.rail_types.specs.declared.named_network.Named.{Named}
use Rattle.rail_types.specs.declared.limits.TheConstants.{MAX_OBJECTS}
use Rattle.rail_types.specs.declared.trains.Train.{Train}

-- the zones, blocks and operational points of a network, and the trains of a file
pub record Names : Type 0 where
  pub railway : Named
  pub trains : List Train

-- ---- inside

-- the first place of a name in a list that begins at this place
abbrev pub place_from : ℕ → List ℕ → List (List ℕ) → Option ℕ
place_from at name names = position_from (bytes_eq name) at names

-- the entries have the names of a list that begins at this place, each with its first place
pub record HavePlaces {K : Type 0} (see : K → List ℕ) (at : ℕ) (names : List (List ℕ))
    (entries : List (K × ℕ)) : Type 0 where
  pub each : (name : List ℕ)
      → lookup (λ key. bytes_eq name (see key)) entries ≡ place_from at name names

-- the entries have the operational points of a network that is not too large
pub record IsIndexed {K : Type 0} (see : K → List ℕ) (railway : Named)
    (entries : List (K × ℕ)) : Type 0 where
  pub few : length railway.network.blocks ≤ MAX_OBJECTS
  pub places : HavePlaces see 0 railway.stops entries
