-- The journal of the demo tells no entry.
use Rattle.std.proofs.Common.{ℕ, List, []}
use Rattle.std.proofs.lemmas.List.Elements.{All-nil}
use Rattle.rail_types.specs.Timetables.{Timetable}
use Rattle.path_recover.specs.journal.Headers.{header_of}
use Rattle.path_recover.specs.journal.Histories.{ReadsAs}
use Rattle.path_recover.specs.Files.{TellsHistory}

pub nothing_told : (timetable : Timetable) (network base file : List ℕ) → ReadsAs (header_of network base) [] file → TellsHistory timetable 2 network base file []
nothing_told timetable network base file reads = record {
  legal = λ at entry is. cc;
  spelled = All-nil _;
  short = All-nil _;
  reads = reads;
}
