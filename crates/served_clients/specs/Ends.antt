-- The report of a run's clients, and its status.
use Rattle.std.specs.Prelude.{◌≡◌, ◌⊎◌, ℕ, Bool, true, false, List, ◌∷◌, [], ◌++◌, codes, decimal}
use Rattle.std.specs.Prelude.{flat_map, if◌then◌else◌, Option, None, Some, Result, Ok, Err}
use Rattle.std.specs.List.{list_any}
use Rattle.command_reports.specs.declared.exit_status.Status.{Status}
use Rattle.command_reports.specs.declared.exit_status.Status.TheVariants.{Done, No, Words, Network}
use Rattle.command_reports.specs.declared.exit_status.Status.TheVariants.{Base, Trains}
use Rattle.command_reports.specs.declared.exit_status.Status.TheVariants.{Journal, Opening}
use Rattle.command_reports.specs.declared.exit_status.Status.TheVariants.{DiskFault, ClientEnd}
use Rattle.command_reports.specs.declared.exit_status.Status.TheVariants.{Report, Memory}
use Rattle.outside_io.specs.declared.sinks.Sink.{Ghosts}
use Rattle.line_sessions.specs.declared.sessions.Ended.{Ended}
use Rattle.line_sessions.specs.declared.sessions.Why.{Why}
use Rattle.line_sessions.specs.declared.sessions.Why.TheVariants as why
use Rattle.served_clients.specs.declared.plans.Session.{Session}
use Rattle.command_reports.specs.Scenes.{ChangesOnlyReport, Scene}
use Rattle.command_reports.specs.Writing.{ReportSays}
use Rattle.command_reports.specs.declared.file_rounds.writing.OutFault.{OutFault}
use Rattle.admission_rules.specs.declared.rules.Rule.{Ghosts as Rules}
use Rattle.admission_rules.specs.Ruled.{stand}
use Rattle.served_clients.specs.Rules.{rule_lines}
use Rattle.served_clients.specs.declared.serve_reports.ends.Ends.{Ends}

-- why a session ended, in words
abbrev pub why_text : Why → List ℕ
why_text why.Input = codes "input"
why_text why.ReadFault = codes "read-fault"
why_text why.WriteFault = codes "write-fault"
why_text why.LongLine = codes "long-line"
why_text why.LineCount = codes "line-count"
why_text why.Memory = codes "memory"

-- the line of an end: a head, the name of what ended, how many of its replies
-- were taken, and why it ended
abbrev pub end_line : List ℕ → List ℕ → Ended → List ℕ
end_line head name ended =
    head ++ name ++ codes " lines " ++ decimal ended.lines ++ codes " end "
    ++ why_text ended.why ++ 10 ∷ []

-- the lines of a session: its own, and behind it one for each rule of its client
abbrev pub session_lines : {Src Snk L : Type 0} → Rules L → Session Src Snk L → List ℕ
session_lines kind session =
    end_line (codes "client ") session.name session.ended
    ++ rule_lines session.name (stand kind session.rules.items)

-- the lines of all sessions, in order
abbrev pub report_text : {Src Snk L : Type 0} → Rules L → List (Session Src Snk L) → List ℕ
report_text kind sessions = flat_map (session_lines kind) sessions

-- an end that is a fault of a source or a sink, a line that is too long or a line too many
abbrev pub is_faulty : Why → Bool
is_faulty why.Input = false
is_faulty why.ReadFault = true
is_faulty why.WriteFault = true
is_faulty why.LongLine = true
is_faulty why.LineCount = true
is_faulty why.Memory = false

-- an end that is want of memory
abbrev pub is_wanting : Why → Bool
is_wanting why.Input = false
is_wanting why.ReadFault = false
is_wanting why.WriteFault = false
is_wanting why.LongLine = false
is_wanting why.LineCount = false
is_wanting why.Memory = true

-- whether one of the sessions has such an end
abbrev pub has_faulty : {Src Snk L : Type 0} → List (Session Src Snk L) → Bool
has_faulty sessions = list_any (λ session. is_faulty session.ended.why) sessions

abbrev pub has_wanting : {Src Snk L : Type 0} → List (Session Src Snk L) → Bool
has_wanting sessions = list_any (λ session. is_wanting session.ended.why) sessions

-- what ends come to, by whether one is faulty, and whether memory was wanted at one
abbrev pub end_status : Bool → Bool → Status
end_status faulty wanting =
    if faulty then ClientEnd else if wanting then Memory else Done

-- what one end comes to
abbrev pub status_at : Why → Status
status_at why = end_status (is_faulty why) (is_wanting why)

-- what the ends of sessions come to
abbrev pub ends_status : {Src Snk L : Type 0} → List (Session Src Snk L) → Status
ends_status sessions = end_status (has_faulty sessions) (has_wanting sessions)

-- the status where memory was wanted for the report as well: a faulty end stands before it
abbrev pub status_untold : Status → Status
status_untold Done = Memory
status_untold No = Memory
status_untold Words = Memory
status_untold Network = Memory
status_untold Base = Memory
status_untold Trains = Memory
status_untold Journal = Memory
status_untold Opening = Memory
status_untold DiskFault = Memory
status_untold ClientEnd = ClientEnd
status_untold Report = Memory
status_untold Memory = Memory

-- the status where the report failed: a faulty end stands before it
abbrev pub status_unreported : Status → Status
status_unreported Done = Report
status_unreported No = Report
status_unreported Words = Report
status_unreported Network = Report
status_unreported Base = Report
status_unreported Trains = Report
status_unreported Journal = Report
status_unreported Opening = Report
status_unreported DiskFault = Report
status_unreported ClientEnd = ClientEnd
status_unreported Report = Report
status_unreported Memory = Report

-- these ends come to this status and this text of their report, or memory was wanted for the text
abbrev pub ComeTo : Status → List ℕ → Ends → Type 0
ComeTo status text ends =
    (ends ≡ record { status = status; text = Some text })
    ⊎ (ends ≡ record { status = status_untold status; text = None })

-- these are the ends of the sessions
abbrev pub IsEnds : {Src Snk L : Type 0} → Rules L → List (Session Src Snk L) → Ends → Type 0
IsEnds kind sessions ends = ComeTo (ends_status sessions) (report_text kind sessions) ends

-- the text that the report gains
abbrev pub line_of : Ends → List ℕ
line_of ends = text_or_none ends.text
  where
    text_or_none : Option (List ℕ) → List ℕ
    text_or_none (Some text) = text
    text_or_none None = codes "no memory" ++ 10 ∷ []

-- the status behind a report
abbrev pub status_behind : Status → Result (Unit {0}) OutFault → Status
status_behind status (Ok _) = status
status_behind status (Err _) = status_unreported status

-- the ends were reported, and the status is theirs, where the report did not fail
pub record EndsSay {Src Snk Dsk : Type 0} (sink : Ghosts Snk) (ends : Ends)
    (old new : Scene Src Snk Dsk) (status : Status) : Type 0 where
  pub result : Result (Unit {0}) OutFault
  pub says : ReportSays sink (line_of ends) old new result
  pub only : ChangesOnlyReport old new
  pub status_is : status ≡ status_behind ends.status result
