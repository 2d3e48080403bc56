use Rattle.client_lines.proofs.Meanings.{NameLaws}
use Rattle.proof_texts.proofs.Telling.{read_once}
use Rattle.proof_texts.proofs.laws.proofs_are_read_once.Goals as goal

pub returns : goal.returns
returns c =
    let laws : NameLaws = record { spelled = c.names_are_spelled_once.ensures.spelled; read = c.names_are_spelled_once.ensures.read } in
    λ known one other rest behind is told same. read_once laws known one other rest behind is told same
