use Rattle.std.proofs.Common.{◌≡◌, ◌≢◌, ◌∙◌, ◌+◌, ℕ, List, arith}
use Rattle.batch_command.specs.declared.batch_server.members.Member.{Member}
use Rattle.command_line.specs.Workers.{worker_name}
use Rattle.served_clients.specs.admission.declared.client_rules.clients.ClientRules.{ClientRules}
use Rattle.command_reports.specs.Scenes.{Scene, scene}
use Rattle.served_clients.proofs.StreamLoans.{unchanged_both}
use Rattle.batch_command.proofs.Workers.{given_more, names_more, rules_left, rules_own}
use Rattle.batch_command.proofs.members.members_of.Goals as goal

pub loop-before-preserved : goal.loop-before-preserved
loop-before-preserved g c =
    let Src = g.row.O-Src.Denot in let Snk = g.row.O-Snk.Denot in let Dsk = g.row.O-Dsk.Denot in let Btw = g.row.O-Btw.Denot in let L = g.row.L.Denot in
    let batch : List ℕ = c.args.batch.now in
    let before : ℕ = c.loop-before.before in
    let all : List (ClientRules L) = c.args.rules.items in
    let rest : List (ClientRules L) = c.loop-before.rules.items in
    let left : List (ClientRules L) = c.take_rules.new.all in
    let slice : List (ClientRules L) = c.as_mut_slice.result.now in
    let handed : slice ≡ rest = c.as_mut_slice.ensures.value in
    let members : List (Member Btw L) = c.loop-before.members.items in
    let pushed : List (Member Btw L) = c.push.new.self.items in
    let member : Member Btw L = record { name = c.in_ok-name.name; between = c.between_of-between.result; rules = c.in_ok-own.own } in
    let few = c.requires.few in
    let below = c.loop-before-test.true in
    let named : c.in_ok-name.name ≡ worker_name batch (before + 1) = c.in_ok-name.ensures in
    let own = rules_own rest slice all handed c.in_ok-own.own.items c.in_ok-name.name (worker_name batch (before + 1)) named c.in_ok-own.ensures.taken (c.loop-before.invariant.others (before + 1) (omega arith) (omega arith)) in
    let s0 : Scene Src Snk Dsk = scene g.O.Outside c.args.outside.now in
    let s1 : Scene Src Snk Dsk = scene g.O.Outside c.loop-before.outside in
    let s2 : Scene Src Snk Dsk = scene g.O.Outside c.between_of-between.new.outside in
    record {
      still = unchanged_both s0 s1 s2 c.loop-before.invariant.still c.between_of-between.ensures.same;
      names = names_more batch before all members pushed member c.in_ok-push.ensures.items c.loop-before.invariant.names named;
      given = given_more batch before all members pushed member c.in_ok-push.ensures.items c.loop-before.invariant.given own;
      others = λ other behind most.
          let name : List ℕ = worker_name batch other in
          let differs : name ≢ c.in_ok-name.name = λ same. let one : other ≡ before + 1 = c.worker_names_differ.ensures batch other (before + 1) most (omega arith) (same ∙ named) in absurd (omega (arith, one, behind)) in
          rules_left rest slice all handed left c.loop-before.rules.len name c.take_rules.auto.all c.loop-before.rules.ok.0 (c.in_ok-own.ensures.others name differs) (c.loop-before.invariant.others other (omega (arith, behind)) most);
    }

pub returns-in_err-push-clause-still : goal.returns-in_err-push-clause-still
returns-in_err-push-clause-still g c =
    let Src = g.row.O-Src.Denot in let Snk = g.row.O-Snk.Denot in let Dsk = g.row.O-Dsk.Denot in
    let s0 : Scene Src Snk Dsk = scene g.O.Outside c.args.outside.now in
    let s1 : Scene Src Snk Dsk = scene g.O.Outside c.loop-before.outside in
    let s2 : Scene Src Snk Dsk = scene g.O.Outside c.between_of-between.new.outside in
    unchanged_both s0 s1 s2 c.loop-before.invariant.still c.between_of-between.ensures.same
