use Rattle.std.proofs.Common.{◌≡◌, ◌∙◌, true, false, ℕ, List, [], ◌∷◌, ◌++◌, Bor, get_or, map, take, rules, ap, sym, subst}
use Rattle.std.specs.List.{All}
use Rattle.std.proofs.lemmas.List.{map-append, take_more}
use Rattle.std.proofs.lemmas.List.Elements.{All-push}
use Rattle.command_line.specs.Rules.{IsRuleOf, rule_text}
use Rattle.command_line.proofs.NamingRules.{named_alike, spell_each, text_of}
use Rattle.command_line.proofs.rule_words.reading.read_rules.Goals as goal

abbrev no_word : Bor (List ℕ)
no_word = record { ref_ptr = (0, 0); now = [] }

pub returns-in-Err-clause-refused : goal.returns-in-Err-clause-refused
returns-in-Err-clause-refused c is kept are same =
    let one = spell_each c.args.clients.now kept c.args.words.now c.loop-word.word-index no_word are same c.loop-word-test.true in
    c.in-Err.ensures.refused (search rules) one.rule one.is.formed one.spelled

pub returns-then-not-names_one-clause-refused : goal.returns-then-not-names_one-clause-refused
returns-then-not-names_one-clause-refused c is kept are same =
    let one = spell_each c.args.clients.now kept c.args.words.now c.loop-word.word-index no_word are same c.loop-word-test.true in
    let named = named_alike c.args.clients.now one.rule c.in-Ok.rule one.is.formed c.in-Ok.ensures.understood (one.spelled ∙ sym c.in-Ok.ensures.spelled) one.is.named in
    let passed : c.names_one.result ≡ true = c.names_one.ensures.1 named in
    let failed : c.names_one.result ≡ false = search rules in
    cc

pub loop-word-preserved : goal.loop-word-preserved
loop-word-preserved c =
    let words = c.args.words.now in
    let i = c.loop-word.word-index in
    let items : c.push.new.self ≡ c.loop-word.rules ++ c.in-Ok.rule ∷ [] = search rules in
    let more = ap (map text_of) (take_more words i no_word c.loop-word-test.true) ∙ map-append text_of (take i words) (get_or words i no_word ∷ []) in
    let passed : c.names_one.result ≡ true = search rules in
    record {
      understood = subst (All (IsRuleOf c.args.clients.now)) (sym items) (All-push (IsRuleOf c.args.clients.now) _ _ c.loop-word.invariant.understood (record { formed = c.in-Ok.ensures.understood; named = c.names_one.ensures.0 passed }));
      spelled = ap (map rule_text) items
          ∙ (map-append rule_text c.loop-word.rules (c.in-Ok.rule ∷ [])
          ∙ (ap (λ (texts : List (List ℕ)). texts ++ rule_text c.in-Ok.rule ∷ []) c.loop-word.invariant.spelled
          ∙ (ap (λ (text : List ℕ). map text_of (take i words) ++ text ∷ []) c.in-Ok.ensures.spelled ∙ sym more)));
    }
