-- The work of `list`: the network is read, and its table is written.
use Rattle.std.specs.Prelude.{◌≡◌, ℕ, List, [], ◌∷◌, Result}
use Rattle.outside_io.specs.Openings.{Opening, source_at, sink_at}
use Rattle.outside_io.specs.declared.sinks.Sink.{Ghosts as Sinks}
use Rattle.outside_io.specs.declared.sources.Source.{Ghosts as Sources}
use Rattle.command_reports.specs.declared.exit_status.Status.{Status}
use Rattle.command_reports.specs.Scenes.{Scene}
use Rattle.command_reports.specs.Writing.{TookAll}
use Rattle.rail_types.specs.declared.named_network.Named.{Named}
use Rattle.stairway_print.specs.Networks.{network_text}
use Rattle.command_reports.specs.Works.{Follows, Makes}
use Rattle.command_reports.specs.declared.refusals.Refusal.{Refusal}
use Rattle.command_files.specs.Files.{IsNetworkFile, NetworkStep}
use Rattle.command_files.specs.Outs.{OutStep, Writes}
use Rattle.command_files.specs.Steps.{IsRead}
use Rattle.command_files.specs.declared.networks.NetworkFile.{NetworkFile}

-- the network was read, and its table was written whole
pub record IsListed {Src Snk Dsk : Type 0} (source : Sources Src) (sink : Sinks Snk)
    (network out : List ℕ) (old new : Scene Src Snk Dsk) : Type 0 where
  pub file : NetworkFile
  pub read : IsRead source network IsNetworkFile old new file
  pub wrote : Writes (TookAll sink (network_text file.named)) out old new

-- the opening calls of `list`, in order: the network, and the table once nothing else refuses
abbrev pub list_calls : List ℕ → List ℕ → List Opening
list_calls network out = source_at network ∷ sink_at out ∷ []

-- the table of a network is made, and written
abbrev pub WritesTable : {Src Snk Dsk : Type 0} → Sinks Snk → Named → List ℕ → Scene Src Snk Dsk
    → Scene Src Snk Dsk → Result Status Refusal → Type 0
WritesTable sink named out old new result =
    Follows (Makes (λ (table : List ℕ). table ≡ network_text named))
    (λ (table : List ℕ). OutStep sink out table) old new result

-- the network is read, and then its table is written
abbrev pub ListWorks : {Src Snk Dsk : Type 0} → Sources Src → Sinks Snk → List ℕ → List ℕ
    → Scene Src Snk Dsk → Scene Src Snk Dsk → Result Status Refusal → Type 0
ListWorks source sink network out old new result =
    Follows (NetworkStep source network) (λ (file : NetworkFile). WritesTable sink file.named out)
    old new result
