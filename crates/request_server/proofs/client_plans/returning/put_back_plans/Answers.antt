use Rattle.std.proofs.Common.{◌≡◌, ◌∷◌, [], List, get_or, length, map, ap, arith, sym, ◌∙◌}
use Rattle.std.proofs.lemmas.List.{length-map, map-append}
use Rattle.command_reports.specs.Scenes.{Scene, scene}
use Rattle.served_clients.specs.declared.plans.Plan.{Plan}
use Rattle.command_line.specs.Proofs.{proof_of}
use Rattle.request_server.specs.PlannedClients.{sink_in, streams_of}
use Rattle.served_clients.specs.declared.client_streams.streams.ClientStreams.{ClientStreams}
use Rattle.command_line.specs.declared.client_words.clients.ClientWord.{ClientWord}
use Rattle.request_server.proofs.Comings.{returning_more, returning_none, same_proof}
use Rattle.request_server.proofs.client_plans.returning.put_back_plans.Goals as goal

pub loop-plan-init : goal.loop-plan-init
loop-plan-init g c = returning_none c.args.clients.now c.args.proofs.now (map streams_of c.args.plans.items) (scene g.O.Outside c.args.outside.now)

pub loop-plan-preserved : goal.loop-plan-preserved
loop-plan-preserved g c =
    let Src = g.row.O-Src.Denot in let Snk = g.row.O-Snk.Denot in let Btw = g.row.O-Btw.Denot in let L = g.row.L.Denot in let Dsk = g.row.O-Dsk.Denot in
    let f : Plan Src Snk Btw L → ClientStreams Src Snk = λ one. streams_of one in
    let all : List (Plan Src Snk Btw L) = c.args.plans.items in let rest : List (Plan Src Snk Btw L) = c.pop.new.self.items in
    let one : Plan Src Snk Btw L = c.in-Some.plan in
    let clients : List ClientWord = c.args.clients.now in let client : ClientWord = c.index-clients-len.result in
    let s1 : Scene Src Snk Dsk = scene g.O.Outside c.loop-plan.outside in
    let s2 : Scene Src Snk Dsk = scene g.O.Outside c.put_back_streams.new.outside in
    let long = length-map all f in let left = length-map rest f in let many = c.requires.many in
    let here : client ≡ get_or clients (length (map f rest)) client = c.index-clients-len.is ∙ ap (λ n. get_or clients n client) (c.len.ensures ∙ (c.pop.new.self.ok.0 ∙ sym left)) in
    returning_more clients c.args.proofs.now (map f all) (map f rest) (map f c.loop-plan.plans.items) (f one) client (scene g.O.Outside c.args.outside.now) s1 s2 (omega arith)
    (ap (map f) c.in-Some.ensures.items ∙ map-append f rest (one ∷ [])) here c.loop-plan.invariant
    (same_proof client (proof_of c.args.proofs.now client.client) one.source one.sink c.sink_of.result (sink_in one.proofs) s1 s2 c.sink_of.ensures c.put_back_streams.ensures.back)
