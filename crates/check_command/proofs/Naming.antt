-- The network of a history has the names of its file.
use Rattle.std.proofs.Common.{◌≡◌, ◌∙◌, ap, List}
use Rattle.proof_texts.specs.lines.Within.{AreSound}
use Rattle.command_files.specs.declared.bases.BaseFile.{BaseFile}
use Rattle.command_files.specs.declared.networks.NetworkFile.{NetworkFile}
use Rattle.path_recover.specs.history.Legal.{Register}
use Rattle.command_files.specs.Timetables.{timetable_on}
use Rattle.rail_types.specs.declared.tracks.Network.{Network}
use Rattle.rail_types.specs.declared.trains.Train.{Train}
use Rattle.rail_types.specs.Timetables.{Timetable}
use Rattle.check_command.specs.declared.journals.Parts.{Parts}
use Rattle.check_command.specs.Works.{AreRead, named_by, names_of, plain_of}

pub known_same : (network plain : NetworkFile) (trains : List Train) (base : BaseFile) (parts : Parts) (history : Register) → plain ≡ plain_of network → named_by network.named.network parts ≡ names_of network trains
    → history.timetable ≡ timetable_on plain base → named_by history.timetable.net parts ≡ names_of network trains
known_same network plain trains base parts history same named is =
    let net : history.timetable.net ≡ network.named.network = ap (λ (t : Timetable). t.net) is ∙ ap (λ (file : NetworkFile). file.named.network) same in
    ap (λ (one : Network). named_by one parts) net ∙ named

pub names_sound : (network : NetworkFile) (trains : List Train) → AreRead network trains → AreSound (names_of network trains)
names_sound network trains read = record { named = read.named; trains = read.trains_are.each }
