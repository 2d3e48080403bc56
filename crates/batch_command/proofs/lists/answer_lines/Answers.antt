use Rattle.std.proofs.Common.{◌≡◌, ◌∙◌, ℕ, List, Option, length, refl, ap, subst, arith, rules}
use Rattle.std.proofs.lemmas.List.{length-map}
use Rattle.batch_command.specs.declared.batch_server.members.Member.{Member}
use Rattle.command_line.specs.Workers.{worker_names}
use Rattle.command_reports.specs.Scenes.{scene}
use Rattle.rail_types.specs.declared.entries.Entry.{Entry}
use Rattle.batch_command.specs.Owners.{owner_of, owners_of}
use Rattle.batch_command.specs.Asked.{HasFlaw, IsAsked}
use Rattle.served_clients.proofs.StreamLoans.{unchanged}
use Rattle.batch_command.proofs.Workers.{members_differ, members_many, members_named, numbers_many}
use Rattle.batch_command.proofs.Workers.{theirs_by}
use Rattle.batch_command.proofs.lists.answer_lines.Goals as goal

pub returns-in-Err : goal.returns-in-Err
returns-in-Err g c = record {
  says = record {
    disk_is = search rules;
    unwritten = refl;
    flaw = subst (λ (entries : List Entry). HasFlaw c.args.known c.args.answering.now.client.now.client c.args.answering.now.workers entries c.args.lines.now c.in-Err.refusal) c.history.ensures.entries c.in-Err.ensures.flaw;
  };
  still = unchanged (scene g.O.Outside c.args.outside.now);
}

pub owners_asked-requires-clause-name : goal.owners_asked-requires-clause-name
owners_asked-requires-clause-name g c = c.requires.name

pub owners_asked-requires-clause-workers : goal.owners_asked-requires-clause-workers
owners_asked-requires-clause-workers g c = c.requires.workers

pub owners_asked-requires-clause-count : goal.owners_asked-requires-clause-count
owners_asked-requires-clause-count g c = c.requires.count

pub owners_asked-requires-clause-texts : goal.owners_asked-requires-clause-texts
owners_asked-requires-clause-texts g c = c.requires.texts

pub answer_owned-requires-clause-some : goal.answer_owned-requires-clause-some
answer_owned-requires-clause-some g c κs within =
    let Btw = g.row.O-Btw.Denot in let L = g.row.L.Denot in
    let members : List (Member Btw L) = c.in-Ok-members_of.members.items in
    let many = members_many c.args.answering.now.client.now.client c.args.answering.now.workers c.args.rules.items members c.in-Ok-members_of.ensures.members in
    let some = c.requires.workers.some in omega arith

pub answer_owned-requires-clause-few : goal.answer_owned-requires-clause-few
answer_owned-requires-clause-few g c κs within =
    let Btw = g.row.O-Btw.Denot in let L = g.row.L.Denot in
    let members : List (Member Btw L) = c.in-Ok-members_of.members.items in
    let many = members_many c.args.answering.now.client.now.client c.args.answering.now.workers c.args.rules.items members c.in-Ok-members_of.ensures.members in
    let few = c.requires.workers.few in omega arith

pub answer_owned-requires-clause-named : goal.answer_owned-requires-clause-named
answer_owned-requires-clause-named g c κs within =
    members_named c.args.answering.now.client.now.client c.args.answering.now.workers c.args.rules.items c.in-Ok-members_of.members.items c.in-Ok-members_of.ensures.members c.worker_names_are_names.ensures c.requires.named c.requires.name c.requires.workers.few

pub answer_owned-requires-clause-names : goal.answer_owned-requires-clause-names
answer_owned-requires-clause-names g c κs within =
    members_differ c.args.answering.now.client.now.client c.args.answering.now.workers c.args.rules.items c.in-Ok-members_of.members.items c.in-Ok-members_of.ensures.members c.worker_names_differ.ensures c.requires.workers.few

pub answer_owned-requires-clause-settled : goal.answer_owned-requires-clause-settled
answer_owned-requires-clause-settled g c κs within = c.requires.settled

pub answer_owned-requires-clause-sound : goal.answer_owned-requires-clause-sound
answer_owned-requires-clause-sound g c κs within = c.requires.sound

pub answer_owned-requires-clause-network : goal.answer_owned-requires-clause-network
answer_owned-requires-clause-network g c κs within = c.requires.network

pub answer_owned-requires-clause-count : goal.answer_owned-requires-clause-count
answer_owned-requires-clause-count g c κs within = c.requires.count

pub answer_owned-requires-clause-texts : goal.answer_owned-requires-clause-texts
answer_owned-requires-clause-texts g c κs within = c.requires.texts

pub answer_owned-requires-clause-owners : goal.answer_owned-requires-clause-owners
answer_owned-requires-clause-owners g c κs within =
    let names = worker_names c.args.answering.now.client.now.client c.args.answering.now.workers in
    let entries : List Entry = c.history.result.now.entries in
    let asked = c.in-Ok.ensures.asked in
    ap length (c.deref.ensures.value ∙ asked.2) ∙ (length-map asked.0 (owner_of entries names) ∙ numbers_many c.args.known c.args.lines.now asked.0 asked.1.numbered)

pub answer_owned-requires-clause-theirs : goal.answer_owned-requires-clause-theirs
answer_owned-requires-clause-theirs g c κs within =
    let Btw = g.row.O-Btw.Denot in let L = g.row.L.Denot in
    let members : List (Member Btw L) = c.in-Ok-members_of.members.items in
    let many = members_many c.args.answering.now.client.now.client c.args.answering.now.workers c.args.rules.items members c.in-Ok-members_of.ensures.members in
    let asked = c.in-Ok.ensures.asked in
    theirs_by c.history.result.now.entries c.args.answering.now.client.now.client c.args.answering.now.workers asked.0 c.deref.result.now (length members) (c.deref.ensures.value ∙ asked.2) many

pub returns-in-Ok-members_of : goal.returns-in-Ok-members_of
returns-in-Ok-members_of g c =
    let batch : List ℕ = c.args.answering.now.client.now.client in let workers : ℕ = c.args.answering.now.workers in
    let names = worker_names batch workers in
    let asked = c.in-Ok.ensures.asked in
    let numbers : List (Option ℕ) = asked.0 in record {
      says = c.answer_owned.ensures.says c.args.rules.items numbers c.in-Ok-members_of.ensures.members
          (subst (λ (entries : List Entry). IsAsked c.args.known batch workers entries c.args.lines.now numbers) c.history.ensures.entries asked.1)
          (c.deref.ensures.value ∙ (asked.2 ∙ ap (λ (entries : List Entry). owners_of entries names numbers) c.history.ensures.entries));
      still = c.in-Ok-members_of.ensures.still;
    }
