use Rattle.std.proofs.Common.{◌≡◌, ◌∙◌, true, false, ℕ, List, [], ◌∷◌, ◌++◌, Bor, get_or, map, take, rules, ap, sym, subst}
use Rattle.std.specs.List.{All}
use Rattle.std.proofs.lemmas.List.{map-append, take_more}
use Rattle.std.proofs.lemmas.List.Elements.{All-push}
use Rattle.command_line.specs.Proofs.{IsNoStreamOf, IsProofOf, NamesOneOf, proof_text}
use Rattle.command_line.specs.declared.proof_words.proofs.ProofWord.{ProofWord}
use Rattle.command_line.proofs.NamingProofs.{names_each, proof_once, text_of}
use Rattle.command_line.proofs.proof_words.proofs.proofs_among.Goals as goal

abbrev no_word : Bor (List ℕ)
no_word = record { ref_ptr = (0, 0); now = [] }

pub returns-in-Err-clause-refused : goal.returns-in-Err-clause-refused
returns-in-Err-clause-refused c is kept are same =
    let one = names_each c.args.clients.now kept c.args.words.now c.loop-word.word-index no_word are same c.loop-word-test.true in
    c.in-Err.ensures.refused (search rules) one.proof one.is.formed one.spelled

pub returns-then-not-belongs_to-clause-refused : goal.returns-then-not-belongs_to-clause-refused
returns-then-not-belongs_to-clause-refused c is kept are same =
    let one = names_each c.args.clients.now kept c.args.words.now c.loop-word.word-index no_word are same c.loop-word-test.true in
    let once : one.proof ≡ c.in-Ok.proof = proof_once one.proof c.in-Ok.proof one.is.formed c.in-Ok.ensures.understood (one.spelled ∙ sym c.in-Ok.ensures.spelled) in
    let clients = c.args.clients.now in
    let belongs = subst (λ (proof : ProofWord). NamesOneOf clients proof × IsNoStreamOf clients proof.file) once (one.is.named, one.is.own) in
    let passed : c.belongs_to.result ≡ true = c.belongs_to.ensures.1 belongs in
    let failed : c.belongs_to.result ≡ false = search rules in
    cc

pub loop-word-preserved : goal.loop-word-preserved
loop-word-preserved c =
    let words = c.args.words.now in
    let i = c.loop-word.word-index in
    let items : c.push.new.self ≡ c.loop-word.proofs ++ c.in-Ok.proof ∷ [] = search rules in
    let more = ap (map text_of) (take_more words i no_word c.loop-word-test.true) ∙ map-append text_of (take i words) (get_or words i no_word ∷ []) in
    let passed : c.belongs_to.result ≡ true = search rules in
    let belongs = c.belongs_to.ensures.0 passed in
    record {
      understood = subst (All (IsProofOf c.args.clients.now)) (sym items)
          (All-push (IsProofOf c.args.clients.now) _ _ c.loop-word.invariant.understood (record { formed = c.in-Ok.ensures.understood; named = belongs.0; own = belongs.1 }));
      spelled = ap (map proof_text) items
          ∙ (map-append proof_text c.loop-word.proofs (c.in-Ok.proof ∷ [])
          ∙ (ap (λ (texts : List (List ℕ)). texts ++ proof_text c.in-Ok.proof ∷ []) c.loop-word.invariant.spelled
          ∙ (ap (λ (text : List ℕ). map text_of (take i words) ++ text ∷ []) c.in-Ok.ensures.spelled ∙ sym more)));
    }
