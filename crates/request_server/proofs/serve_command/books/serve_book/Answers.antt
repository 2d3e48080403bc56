use Rattle.std.proofs.Common.{◌≡◌, ◌∙◌, List, length, map, refl, arith, ap, subst}
use Rattle.client_lines.specs.Names.{Names}
use Rattle.admission_rules.specs.Clients.{rules_named}
use Rattle.command_reports.specs.Scenes.{Scene, scene}
use Rattle.rail_types.specs.Limits.{IsClientName}
use Rattle.request_server.specs.Runs.{IsServed, WereServed}
use Rattle.outside_io.specs.declared.betweens.NoBetween.{NoBetween}
use Rattle.served_clients.specs.declared.plans.Plan.{Plan}
use Rattle.served_clients.specs.declared.plans.Session.{Session}
use Rattle.request_server.specs.PlannedClients.{AreFit, client_calls, client_loans, returned_of}
use Rattle.request_server.specs.PlannedClients.{streams_of}
use Rattle.served_clients.specs.Talks.{Talk}
use Rattle.served_clients.specs.Lending.{AreIn}
use Rattle.command_line.specs.declared.client_words.clients.ClientWord.{ClientWord}
use Rattle.served_clients.specs.book.Ledgers.{Ledger}
use Rattle.served_clients.specs.declared.serve_reports.ends.Ends.{Ends}
use Rattle.request_server.specs.Serving.{streams_by}
use Rattle.served_clients.proofs.Names.{known_same}
use Rattle.served_clients.proofs.Halts.{Unserved}
use Rattle.command_line.specs.declared.proof_words.proofs.ProofWord.{ProofWord}
use Rattle.request_server.proofs.Nesting.{all_fit_again, rounds_by, Rounds, served_stopped}
use Rattle.request_server.proofs.Nesting.{unserved_again}
use Rattle.request_server.proofs.Plain.{had_plain, parts_plain, plain, served_plain}
use Rattle.request_server.proofs.ServeLists.{all_alike, long_alike, matched_long, pairs_alike}
use Rattle.request_server.proofs.serve_command.books.serve_book.Goals as goal

pub serve_clients-requires-clause-some : goal.serve_clients-requires-clause-some
serve_clients-requires-clause-some g c κs within =
    let Src = g.row.O-Src.Denot in let Snk = g.row.O-Snk.Denot in let Btw = g.row.O-Btw.Denot in let L = g.row.L.Denot in
    let plans : List (Plan Src Snk Btw L) = c.in-Ok-open_clients.plans.items in let clients : List ClientWord = c.args.clients.now in
    let long = long_alike (λ (p : Plan Src Snk Btw L). p.name) (λ (w : ClientWord). w.client) plans clients c.in-Ok-open_clients.ensures.names in
    let some = c.requires.clients.some in omega arith

pub serve_clients-requires-clause-few : goal.serve_clients-requires-clause-few
serve_clients-requires-clause-few g c κs within =
    let Src = g.row.O-Src.Denot in let Snk = g.row.O-Snk.Denot in let Btw = g.row.O-Btw.Denot in let L = g.row.L.Denot in
    let plans : List (Plan Src Snk Btw L) = c.in-Ok-open_clients.plans.items in let clients : List ClientWord = c.args.clients.now in
    let long = long_alike (λ (p : Plan Src Snk Btw L). p.name) (λ (w : ClientWord). w.client) plans clients c.in-Ok-open_clients.ensures.names in
    let few = c.requires.clients.few in omega arith

pub serve_clients-requires-clause-named : goal.serve_clients-requires-clause-named
serve_clients-requires-clause-named g c κs within =
    let Src = g.row.O-Src.Denot in let Snk = g.row.O-Snk.Denot in let Btw = g.row.O-Btw.Denot in let L = g.row.L.Denot in
    all_alike (λ (p : Plan Src Snk Btw L). p.name) (λ (w : ClientWord). w.client) IsClientName c.in-Ok-open_clients.plans.items c.args.clients.now c.in-Ok-open_clients.ensures.names c.requires.clients.named

pub serve_clients-requires-clause-names : goal.serve_clients-requires-clause-names
serve_clients-requires-clause-names g c κs within =
    let Src = g.row.O-Src.Denot in let Snk = g.row.O-Snk.Denot in let Btw = g.row.O-Btw.Denot in let L = g.row.L.Denot in
    pairs_alike (λ (p : Plan Src Snk Btw L). p.name) (λ (w : ClientWord). w.client) c.in-Ok-open_clients.plans.items c.args.clients.now c.in-Ok-open_clients.ensures.names c.requires.clients.names

pub put_back_sessions-requires-clause-many : goal.put_back_sessions-requires-clause-many
put_back_sessions-requires-clause-many g c κs within =
    let Dsk = g.row.O-Dsk.Denot in let Src = g.row.O-Src.Denot in let Snk = g.row.O-Snk.Denot in let Btw = g.row.O-Btw.Denot in let L = g.row.L.Denot in
    let plans : List (Plan Src Snk Btw L) = c.in-Ok-open_clients.plans.items in let clients : List ClientWord = c.args.clients.now in
    let sessions : List (Session Src Snk L) = c.in-Ok-serve_clients.sessions.items in
    let long = long_alike (λ (p : Plan Src Snk Btw L). p.name) (λ (w : ClientWord). w.client) plans clients c.in-Ok-open_clients.ensures.names in
    let served = c.in-Ok-serve_clients.ensures.served in
    let left : Ledger Dsk = c.in-Ok-serve_clients.book in
    let as_long = matched_long (IsServed g.L.Rule (streams_by g.O.Src.Source g.O.Snk.Sink) c.args.book.entries left.entries) plans sessions served.talks served.served in
    omega arith

pub put_back_plans-requires-clause-many : goal.put_back_plans-requires-clause-many
put_back_plans-requires-clause-many g c κs within =
    let Src = g.row.O-Src.Denot in let Snk = g.row.O-Snk.Denot in let Btw = g.row.O-Btw.Denot in let L = g.row.L.Denot in
    let plans : List (Plan Src Snk Btw L) = c.in-Ok-open_clients.plans.items in let clients : List ClientWord = c.args.clients.now in
    let again : List (Plan Src Snk Btw L) = c.in-Err-serve_clients.plans.items in
    let long = long_alike (λ (p : Plan Src Snk Btw L). p.name) (λ (w : ClientWord). w.client) plans clients c.in-Ok-open_clients.ensures.names in
    let same : again ≡ plans = c.in-Err-serve_clients.ensures.refused.1 in
    let as_long = ap length same in omega arith

pub returns-in-Err : goal.returns-in-Err
returns-in-Err g c =
    let Src = g.row.O-Src.Denot in let Snk = g.row.O-Snk.Denot in let Dsk = g.row.O-Dsk.Denot in
    let s0 : Scene Src Snk Dsk = scene g.O.Outside c.args.outside.now in
    let s1 : Scene Src Snk Dsk = scene g.O.Outside c.open_clients.new.outside in
    let clients : List ClientWord = c.args.clients.now in let proofs : List ProofWord = c.args.proofs.now in
    let after : Dsk = c.close-in-Err.result in let found : Ledger Dsk = c.args.book in
    let unserved : Unserved Ends (client_calls clients proofs) found after s0 s1 c.in-Err.refusal = served_stopped (client_calls clients proofs) found after s0 s1 c.in-Err.refusal c.close-in-Err.ensures.disk c.in-Err.ensures.stopped in
    record { says = unserved.says; keeps = unserved.keeps }

pub returns-in-Ok-serve_clients : goal.returns-in-Ok-serve_clients
returns-in-Ok-serve_clients g c =
    let Src = g.row.O-Src.Denot in let Snk = g.row.O-Snk.Denot in let Btw = g.row.O-Btw.Denot in let L = g.row.L.Denot in let Dsk = g.row.O-Dsk.Denot in
    let s0 : Scene Src Snk Dsk = scene g.O.Outside c.args.outside.now in
    let s1 : Scene Src Snk Dsk = scene g.O.Outside c.open_clients.new.outside in
    let s2 : Scene Src Snk Dsk = scene g.O.Outside c.put_back_sessions.new.outside in
    let plans : List (Plan Src Snk Btw L) = c.in-Ok-open_clients.plans.items in let clients : List ClientWord = c.args.clients.now in
    let sessions : List (Session Src Snk L) = c.in-Ok-serve_clients.sessions.items in
    let served = c.in-Ok-serve_clients.ensures.served in
    let left : Ledger Dsk = c.in-Ok-serve_clients.book in
    let proofs : List ProofWord = c.args.proofs.now in
    let R : Plan Src Snk Btw L → Session Src Snk L → Talk → Type 0 = IsServed g.L.Rule (streams_by g.O.Src.Source g.O.Snk.Sink) c.args.book.entries left.entries in
    let fit = c.in-Ok-open_clients.ensures.fit in
    let again : AreFit clients proofs (map returned_of sessions) = all_fit_again R (λ plan session talk is. is.passes.wanted) clients proofs plans sessions served.talks served.served fit in
    let rounds : Rounds clients proofs plans sessions s0 s2 c.ends_of-ends.result = rounds_by clients proofs plans sessions s0 s1 s2 c.ends_of-ends.result c.requires.clients fit again c.in-Ok-open_clients.ensures.out c.put_back_sessions.ensures.back in
    let known = known_same c.in-Ok.known c.args.named c.args.trains c.in-Ok.ensures.railway c.in-Ok.ensures.trains in
    record {
      says = record {
        opens = rounds.opens;
        quiet = rounds.quiet;
        left = left;
        plans = map plain plans;
        sessions = sessions;
        names = parts_plain (λ (p : Plan Src Snk Btw L). p.name) (λ (p : Plan Src Snk NoBetween L). p.name) (λ p. refl) plans ∙ c.in-Ok-open_clients.ensures.names;
        given = parts_plain (λ (p : Plan Src Snk Btw L). p.rules.items) (λ (p : Plan Src Snk NoBetween L). p.rules.items) (λ p. refl) plans ∙ c.in-Ok-open_clients.ensures.rules ∙ ap (λ all. map (λ (w : ClientWord). rules_named w.client all) clients) c.as_mut_slice.ensures.value;
        had = had_plain proofs s0 s2 clients plans sessions rounds.had;
        served = subst (λ (k : Names). WereServed g.L.Rule g.O.Dsk.Disk.faults (streams_by g.O.Src.Source g.O.Snk.Sink) k c.args.book left (map plain plans) sessions) known
            (served_plain g.L.Rule g.O.Dsk.Disk.faults (streams_by g.O.Src.Source g.O.Snk.Sink) c.in-Ok.known c.args.book left plans sessions served);
        footing = c.in-Ok-serve_clients.ensures.footing;
        closed = c.close_book.ensures.closed;
        ends_are = rw c.deref.ensures.value at c.ends_of-ends.ensures.ends;
      };
      keeps = rounds.keeps;
    }

pub returns : goal.returns
returns g c =
    let Src = g.row.O-Src.Denot in let Snk = g.row.O-Snk.Denot in let Btw = g.row.O-Btw.Denot in let L = g.row.L.Denot in let Dsk = g.row.O-Dsk.Denot in
    let s0 : Scene Src Snk Dsk = scene g.O.Outside c.args.outside.now in
    let s1 : Scene Src Snk Dsk = scene g.O.Outside c.open_clients.new.outside in
    let s2 : Scene Src Snk Dsk = scene g.O.Outside c.put_back_plans.new.outside in
    let plans : List (Plan Src Snk Btw L) = c.in-Ok-open_clients.plans.items in let clients : List ClientWord = c.args.clients.now in
    let again : List (Plan Src Snk Btw L) = c.in-Err-serve_clients.plans.items in
    let same : again ≡ plans = c.in-Err-serve_clients.ensures.refused.1 in
    let proofs : List ProofWord = c.args.proofs.now in
    let ins = subst (λ (l : List (Plan Src Snk Btw L)). AreIn (client_loans clients proofs (map streams_of l)) s1 s2) same c.put_back_plans.ensures.back in
    let after : Dsk = c.close-in-Err-serve_clients.result in let found : Ledger Dsk = c.args.book in
    let disk : after ≡ found.disk = c.close-in-Err-serve_clients.ensures.disk ∙ ap (λ (b : Ledger Dsk). b.disk) c.in-Err-serve_clients.ensures.refused.0 in
    let unserved : Unserved Ends (client_calls clients proofs) found after s0 s2 _ = unserved_again clients proofs found after plans s0 s1 s2 disk c.in-Ok-open_clients.ensures.fit c.in-Ok-open_clients.ensures.out ins in
    record { says = unserved.says; keeps = unserved.keeps }
