-- Opening calls, as an outside in memory keeps them.
use Rattle.std.specs.Prelude.{List, Option, None, Some, Bool, true, false, map, string_bytes}
use Rattle.outside_io.specs.Openings.{Opening, source_at, sink_at, the_report, disk_at}
use Rattle.outside_io.specs.declared.called.Call.{Call}
use Rattle.outside_io.specs.declared.called.Call.TheVariants.{OfSource, OfSink, OfReport, OfDisk}
use Rattle.outside_io.specs.declared.called.Calls.{Calls}

-- an opening call, with its name as bytes
abbrev pub opening_of : Call → Opening
opening_of (OfSource name) = source_at (string_bytes name)
opening_of (OfSink name) = sink_at (string_bytes name)
opening_of OfReport = the_report
opening_of (OfDisk name) = disk_at (string_bytes name)

-- the calls, where each of them was kept
abbrev pub told_where : Bool → List Opening → Option (List Opening)
told_where false calls = None
told_where true calls = Some calls

-- the calls that are told
abbrev pub calls_told : Calls → Option (List Opening)
calls_told calls = told_where calls.are_all (map opening_of calls.kept.items)
