-- What lines may name, by its parts.
use Rattle.std.proofs.Common.{◌≡◌, ◌∙◌, List, ap}
use Rattle.client_lines.specs.Names.{Names}
use Rattle.rail_types.specs.declared.named_network.Named.{Named}
use Rattle.rail_types.specs.declared.trains.Train.{Train}
use Rattle.served_clients.specs.Files.{names_of}

pub known_same : (known : Names) (railway : Named) (trains : List Train) → known.railway ≡ railway → known.trains ≡ trains → known ≡ names_of railway trains
known_same known railway trains rail train = ap (λ (x : Named). names_of x known.trains) rail ∙ ap (λ (x : List Train). names_of railway x) train

pub known_both : (one other : Named) (trains list : List Train) → one ≡ other → trains ≡ list → names_of one trains ≡ names_of other list
known_both one other trains list same alike = ap (λ (x : Named). names_of x trains) same ∙ ap (names_of other) alike
