use Rattle.std.proofs.Common.{◌≡◌, ◌∙◌, ℕ, List, [], ◌∷◌, ◌++◌, Bor, get_or, map, take, rules, ap, sym, subst}
use Rattle.std.specs.List.{All}
use Rattle.std.proofs.lemmas.List.{map-append, take_more}
use Rattle.std.proofs.lemmas.List.Elements.{All-push}
use Rattle.command_line.specs.Clients.{client_text, IsClientWord}
use Rattle.command_line.proofs.NamingClients.{names_each, text_of}
use Rattle.command_line.proofs.client_words.clients.clients_of.Goals as goal

abbrev no_word : Bor (List ℕ)
no_word = record { ref_ptr = (0, 0); now = [] }

pub returns-in-Err-clause-refused : goal.returns-in-Err-clause-refused
returns-in-Err-clause-refused c is clients are same =
    let named = names_each clients c.args.words.now c.loop-word.word-index no_word are same c.loop-word-test.true in
    c.in-Err.ensures.refused (search rules) named.client named.formed named.spelled

pub loop-word-preserved : goal.loop-word-preserved
loop-word-preserved c =
    let words = c.args.words.now in
    let i = c.loop-word.word-index in
    let items : c.push.new.self ≡ c.loop-word.clients ++ c.in-Ok.client ∷ [] = search rules in
    let more = ap (map text_of) (take_more words i no_word c.loop-word-test.true) ∙ map-append text_of (take i words) (get_or words i no_word ∷ []) in
    record {
      understood = subst (All IsClientWord) (sym items) (All-push IsClientWord _ _ c.loop-word.invariant.understood c.in-Ok.ensures.understood);
      spelled = ap (map client_text) items
          ∙ (map-append client_text c.loop-word.clients (c.in-Ok.client ∷ [])
          ∙ (ap (λ (texts : List (List ℕ)). texts ++ client_text c.in-Ok.client ∷ []) c.loop-word.invariant.spelled
          ∙ (ap (λ (text : List ℕ). map text_of (take i words) ++ text ∷ []) c.in-Ok.ensures.spelled ∙ sym more)));
    }
