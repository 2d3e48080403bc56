use Rattle.std.proofs.Common.{◌≡◌, take}
use Rattle.served_clients.specs.Ends.{report_text}
use Rattle.served_clients.proofs.serve_reports.texts.text_of.Given as goal

abbrev pub invariant-loop-session : goal.invariant-loop-session
invariant-loop-session g l = l.text.held ≡ report_text g.L.Rule (take l.session-index l.sessions)
