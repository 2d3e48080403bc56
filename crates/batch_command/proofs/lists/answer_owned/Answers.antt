use Rattle.std.proofs.Common.{◌≡◌, ℕ, List, Option, Vec, map, subst}
use Rattle.std.specs.Global.{Global}
use Rattle.std.specs.Prelude.{option_map}
use Rattle.batch_command.specs.Batches.{WereAnswered}
use Rattle.batch_command.specs.declared.batch_server.members.Member.{Member}
use Rattle.batch_command.specs.declared.batch_server.members.Worked.{Worked}
use Rattle.batch_command.specs.Ends.{IsEnds}
use Rattle.served_clients.specs.sessions.declared.sessions.TheConstants.{MAX_LINES}
use Rattle.served_clients.specs.book.Ledgers.{Ledger}
use Rattle.batch_command.proofs.Plain.{answered_plain, members_plain, plain}
use Rattle.batch_command.proofs.Workers.{texts_few}
use Rattle.batch_command.proofs.lists.answer_owned.Goals as goal

pub answer_list-requires-clause-some : goal.answer_list-requires-clause-some
answer_list-requires-clause-some g c κs within = c.requires.some

pub answer_list-requires-clause-few : goal.answer_list-requires-clause-few
answer_list-requires-clause-few g c κs within = c.requires.few

pub answer_list-requires-clause-named : goal.answer_list-requires-clause-named
answer_list-requires-clause-named g c κs within = c.requires.named

pub answer_list-requires-clause-names : goal.answer_list-requires-clause-names
answer_list-requires-clause-names g c κs within = c.requires.names

pub answer_list-requires-clause-settled : goal.answer_list-requires-clause-settled
answer_list-requires-clause-settled g c κs within = c.requires.settled

pub answer_list-requires-clause-known : goal.answer_list-requires-clause-known
answer_list-requires-clause-known g c κs within = c.requires.sound

pub answer_list-requires-clause-network : goal.answer_list-requires-clause-network
answer_list-requires-clause-network g c κs within = c.requires.network

pub answer_list-requires-clause-count : goal.answer_list-requires-clause-count
answer_list-requires-clause-count g c κs within = c.requires.count

pub answer_list-requires-clause-texts : goal.answer_list-requires-clause-texts
answer_list-requires-clause-texts g c κs within = c.requires.texts

pub answer_list-requires-clause-owners : goal.answer_list-requires-clause-owners
answer_list-requires-clause-owners g c κs within = c.requires.owners

pub answer_list-requires-clause-theirs : goal.answer_list-requires-clause-theirs
answer_list-requires-clause-theirs g c κs within = c.requires.theirs

pub write_if_told-written-requires : goal.write_if_told-written-requires
write_if_told-written-requires g c =
    let D = g.row.O-Dsk.Denot in let L = g.row.L.Denot in
    let answered = c.in-Ok.answered in
    texts_few {D = D} {Btw = g.row.O-Btw.Denot} {L = L} g.L.Rule g.O.Dsk.Disk.faults c.args.known c.args.lines.now c.args.owners.now c.args.book answered.book c.args.members.items answered.workers.items answered.texts MAX_LINES c.requires.count c.in-Ok.ensures.answered

pub returns-in-Ok : goal.returns-in-Ok
returns-in-Ok g c =
    let D = g.row.O-Dsk.Denot in let Btw = g.row.O-Btw.Denot in let L = g.row.L.Denot in
    let batch : List ℕ = c.args.answering.now.client.now.client in let workers : ℕ = c.args.answering.now.workers in
    let lines : List (List ℕ) = c.args.lines.now in
    let found : Ledger D = c.args.book in
    let answered = c.in-Ok.answered in
    let left : Ledger D = answered.book in
    let worked : List (Worked L) = answered.workers.items in
    let members : List (Member Btw L) = c.args.members.items in
    let texts : Option (List (List ℕ)) = option_map (λ (all : Vec (List ℕ) Global). all.items) answered.texts in
    record {
      says = λ rules numbers are asked owned. record {
        left = left;
        numbers = numbers;
        members = map plain members;
        worked = worked;
        texts = texts;
        written = c.write_if_told-written.result;
        asked = asked;
        members_are = members_plain batch workers rules members are;
        answered = subst (λ (whose : List (Option ℕ)). WereAnswered g.L.Rule g.O.Dsk.Disk.faults c.args.known lines whose found left (map plain members) worked texts) owned
            (answered_plain g.L.Rule g.O.Dsk.Disk.faults c.args.known lines c.args.owners.now found left members worked texts c.in-Ok.ensures.answered);
        writes = c.write_if_told-written.ensures;
        footing = c.in-Ok.ensures.footing;
        closed = c.close_book.ensures.closed;
        ends_are = subst (λ (all : List (Worked L)). IsEnds g.L.Rule batch c.write_if_told-written.result all c.ends_of-ends.result) c.deref.ensures.value c.ends_of-ends.ensures.ends;
      };
    }
