use Rattle.served_clients.proofs.lines_lemmas.Meanings.{NameLaws}
use Rattle.batch_command.proofs.Numbering.{numbers_are}
use Rattle.batch_command.proofs.list_lines.laws.numbers_are_one.Goals as goal

pub returns : goal.returns
returns c =
    let laws : NameLaws = record { spelled = c.names_are_spelled_once.ensures.spelled; read = c.names_are_spelled_once.ensures.read } in
    λ known lines numbers others one other. numbers_are laws known lines numbers others one other
