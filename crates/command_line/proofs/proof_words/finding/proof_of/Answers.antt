use Rattle.std.proofs.Common.{◌≡◌, ◌∙◌, true, false, List, ◌∷◌, rules, ap, sym}
use Rattle.command_line.specs.Proofs.{proof_of as file_of}
use Rattle.command_line.specs.declared.proof_words.proofs.ProofWord.{ProofWord}
use Rattle.command_line.proofs.FirstOf.{found_first, passed_over}
use Rattle.command_line.proofs.proof_words.finding.proof_of.Goals as goal

pub returns-then-is_same : goal.returns-then-is_same
returns-then-is_same c =
    let rest : c.loop-first.rest.now ≡ c.in-Some.first.now ∷ c.in-Some.others.now = search rules in
    let same = c.is_same.ensures.0 (search rules) in
    sym (found_first _ c.in-Some.others.now c.args.name.now same) ∙ (ap (λ (proofs : List ProofWord). file_of proofs c.args.name.now) (sym rest) ∙ c.loop-first.invariant)

pub loop-first-preserved : goal.loop-first-preserved
loop-first-preserved c =
    let rest : c.loop-first.rest.now ≡ c.in-Some.first.now ∷ c.in-Some.others.now = search rules in
    let failed : c.is_same.result ≡ false = search rules in
    sym (passed_over c.in-Some.first.now c.in-Some.others.now c.args.name.now (λ same. let passed : c.is_same.result ≡ true = c.is_same.ensures.1 same in cc)) ∙ (ap (λ (proofs : List ProofWord). file_of proofs c.args.name.now) (sym rest) ∙ c.loop-first.invariant)
