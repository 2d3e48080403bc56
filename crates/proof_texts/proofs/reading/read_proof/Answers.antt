use Rattle.std.proofs.Common.{◌≡◌, Some, Err, List, ℕ, subst, arith}
use Rattle.client_lines.proofs.Meanings.{NameLaws}
use Rattle.proof_texts.specs.declared.refusals.Proof.{Proof}
use Rattle.proof_texts.specs.Lines.{Gives, proof_at}
use Rattle.proof_texts.proofs.Telling.{begins_with, refused}
use Rattle.proof_texts.proofs.reading.read_proof.Goals as goal

pub returns-in-Ok : goal.returns-in-Ok
returns-in-Ok c =
    let laws : NameLaws = record { spelled = c.names_are_spelled_once.ensures.spelled; read = c.names_are_spelled_once.ensures.read } in
    begins_with laws c.args.known.now c.args.text.now c.read_lines.new.lines c.in-Ok.proof _
    (subst (λ (text : List ℕ). proof_at c.args.known.now text ≡ Some (c.in-Ok.proof, c.read_lines.new.lines)) c.new-lines.ensures c.in-Ok.ensures.proof) (omega (arith, c.left.ensures))

pub returns-in-Err : goal.returns-in-Err
returns-in-Err c =
    let laws : NameLaws = record { spelled = c.names_are_spelled_once.ensures.spelled; read = c.names_are_spelled_once.ensures.read } in
    refused laws c.args.known.now c.args.text.now c.in-Err.fault c.read_lines.new.lines
    (subst (λ (text : List ℕ). Gives {A = Proof} c.read_lines.new.lines (Err c.in-Err.fault) (proof_at c.args.known.now text)) c.new-lines.ensures c.in-Err.ensures.proof)
