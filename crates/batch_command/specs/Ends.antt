-- The report of a batch.
use Rattle.std.specs.Prelude.{ℕ, List, ◌++◌, codes, flat_map}
use Rattle.served_clients.specs.admission.declared.rules.Rule.{Ghosts as Rules}
use Rattle.batch_command.specs.declared.batch_server.members.Worked.{Worked}
use Rattle.served_clients.specs.admission.Ruled.{stand}
use Rattle.served_clients.specs.sessions.declared.sessions.Ended.{Ended}
use Rattle.served_clients.specs.sessions.declared.sessions.Why.TheVariants.{Input}
use Rattle.served_clients.specs.Ends.{ComeTo, end_line, status_at}
use Rattle.served_clients.specs.Rules.{rule_lines}
use Rattle.served_clients.specs.declared.serve_reports.ends.Ends.{Ends}

-- the lines of a worker: how many lines it answered, and behind it one for each of its rules
abbrev pub worker_lines : {L : Type 0} → Rules L → Worked L → List ℕ
worker_lines kind worked =
    end_line (codes "client ") worked.name (record { lines = worked.lines; why = Input })
    ++ rule_lines worked.name (stand kind worked.rules.items)

-- the line of a batch, and behind it the lines of its workers in order
abbrev pub report_text : {L : Type 0} → Rules L → List ℕ → Ended → List (Worked L) → List ℕ
report_text kind batch written worked =
    end_line (codes "batch ") batch written ++ flat_map (worker_lines kind) worked

-- this is the end of the batch
abbrev pub IsEnds : {L : Type 0} → Rules L → List ℕ → Ended → List (Worked L) → Ends → Type 0
IsEnds kind batch written worked ends =
    ComeTo (status_at written.why) (report_text kind batch written worked) ends
