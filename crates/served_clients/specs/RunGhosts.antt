-- What contracts see of the objects of a run.
use Rattle.admission_rules.specs.declared.rules.Rule.{Ghosts as Rules}
use Rattle.outside_io.specs.declared.disks.Disk.{Ghosts as Disks}
use Rattle.outside_io.specs.declared.sinks.Sink.{Ghosts as Sinks}
use Rattle.outside_io.specs.declared.sources.Source.{Ghosts as Sources}

-- what they see of its sources, of its sinks, of its disks, and of the rules of its clients
pub record RunGhosts (Src Snk Dsk L : Type 0) : Type 1 where
  pub source : Sources Src
  pub sink : Sinks Snk
  pub disk : Disks Dsk
  pub rule : Rules L

-- these, named
abbrev pub run_ghosts : {Src Snk Dsk L : Type 0} → Sources Src → Sinks Snk → Disks Dsk → Rules L
    → RunGhosts Src Snk Dsk L
run_ghosts source sink disk rule = record {
  source = source;
  sink = sink;
  disk = disk;
  rule = rule;
}
