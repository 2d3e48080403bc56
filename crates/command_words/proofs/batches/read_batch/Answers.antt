use Rattle.std.proofs.Common.{◌≡◌, ◌∙◌, List, ℕ, [], ◌∷◌, Bor, map, codes, decimal, refl, ap, sym, rules}
use Rattle.command_line.specs.Spelling.{values_under}
use Rattle.command_line.specs.Clients.{client_text}
use Rattle.command_line.specs.Rules.{rule_text}
use Rattle.command_words.specs.Orders.{settings_of}
use Rattle.command_words.specs.declared.orders.Order.TheVariants.{Batch}
use Rattle.command_words.proofs.Agreeing.{agree_by, refuse_others}
use Rattle.command_words.proofs.Commands.{batch_order}
use Rattle.command_words.proofs.Errors.{err_over}
use Rattle.command_words.proofs.Repeated.{batch_options, beside_rules, beside_rules_too, ruled_among, rules_alone}
use Rattle.command_words.proofs.batches.read_batch.Goals as goal

abbrev text_of : Bor (List ℕ) → List ℕ
text_of word = word.now

-- equal texts, each alone
one : {a b : List ℕ} → a ≡ b → a ∷ [] ≡ b ∷ []
one same = ap (λ (text : List ℕ). text ∷ []) same

one_is : (a b : List ℕ) → a ∷ [] ≡ b ∷ [] → a ≡ b
one_is a b same = cc

pub returns-then-not-has_only-clause-refused : goal.returns-then-not-has_only-clause-refused
returns-then-not-has_only-clause-refused c is order asks =
    let got = batch_order c.args.settings.now order asks in
    refuse_others batch_options c.args.settings.now _ c.has_only.ensures c.if-not-has_only.true
    (settings_of (Batch got.network got.trains got.base got.journal got.client got.workers got.rules)) (ruled_among got.rules) got.agree

pub returns-in-Err-clause-refused : goal.returns-in-Err-clause-refused
returns-in-Err-clause-refused c is order asks =
    let got = batch_order c.args.settings.now order asks in
    c.in-Err.ensures.other (err_over _ _ is) got.network got.base got.journal
    (beside_rules_too (codes "network") refl got.rules _ got.network (got.agree (codes "network")))
    (beside_rules_too (codes "base") refl got.rules _ got.base (got.agree (codes "base")))
    (beside_rules_too (codes "journal") refl got.rules _ got.journal (got.agree (codes "journal")))

pub returns-in-Err-list_words-clause-refused : goal.returns-in-Err-list_words-clause-refused
returns-in-Err-list_words-clause-refused c is order asks =
    let got = batch_order c.args.settings.now order asks in
    c.in-Err-list_words.ensures.other (err_over _ _ is) got.trains (client_text got.client) (decimal got.workers)
    (beside_rules_too (codes "trains") refl got.rules _ got.trains (got.agree (codes "trains")))
    (beside_rules_too (codes "client") refl got.rules _ (client_text got.client) (got.agree (codes "client")))
    (beside_rules_too (codes "workers") refl got.rules _ (decimal got.workers) (got.agree (codes "workers")))

pub returns-in-Err-read_batch_word-clause-refused : goal.returns-in-Err-read_batch_word-clause-refused
returns-in-Err-read_batch_word-clause-refused c is order asks =
    let got = batch_order c.args.settings.now order asks in
    let client : c.in-Ok-list_words.words.client.now ≡ client_text got.client =
    one_is _ _ (sym c.in-Ok-list_words.ensures.client ∙ beside_rules_too (codes "client") refl got.rules _ (client_text got.client) (got.agree (codes "client"))) in
    let workers : c.in-Ok-list_words.words.workers.now ≡ decimal got.workers =
    one_is _ _ (sym c.in-Ok-list_words.ensures.workers ∙ beside_rules_too (codes "workers") refl got.rules _ (decimal got.workers) (got.agree (codes "workers"))) in
    let texts : map text_of c.as_slice.result.now ≡ values_under (codes "rule") c.args.settings.now = search rules in
    c.in-Err-read_batch_word.ensures.refused (err_over _ _ is) got.client got.workers got.rules got.limits
    (sym (c.as_str.ensures ∙ (c.in-Ok-parse_batch.ensures.client ∙ client)))
    (c.as_str-2.ensures ∙ (c.in-Ok-parse_batch.ensures.workers ∙ workers))
    (sym (texts ∙ (got.agree (codes "rule") ∙ rules_alone got.rules)))

pub returns-clause-understood : goal.returns-clause-understood
returns-clause-understood c =
    let settings = c.args.settings.now in
    let batch = c.in-Ok-read_batch_word.batch in
    let client : c.in-Ok-list_words.words.client.now ≡ client_text batch.client = sym c.in-Ok-parse_batch.ensures.client ∙ (sym c.as_str.ensures ∙ sym c.in-Ok-read_batch_word.ensures.client) in
    let workers : c.in-Ok-list_words.words.workers.now ≡ decimal batch.workers = sym c.in-Ok-parse_batch.ensures.workers ∙ (sym c.as_str-2.ensures ∙ c.in-Ok-read_batch_word.ensures.workers) in
    let texts : map text_of c.as_slice.result.now ≡ values_under (codes "rule") settings = search rules in
    let ruled : values_under (codes "rule") settings ≡ map rule_text batch.rules = sym texts ∙ sym c.in-Ok-read_batch_word.ensures.rules in
    rw (c.in-Ok-parse_batch.ensures.network, c.in-Ok-parse_batch.ensures.trains, c.in-Ok-parse_batch.ensures.base, c.in-Ok-parse_batch.ensures.journal) (record {
      command_is = refl;
      agree = agree_by batch_options settings (settings_of (Batch c.in-Ok.names.network.now c.in-Ok-list_words.words.trains.now c.in-Ok.names.base.now c.in-Ok.names.journal.now batch.client batch.workers batch.rules))
          (sym c.has_only.ensures ∙ c.if-not-has_only.false) (ruled_among batch.rules) (
            beside_rules (codes "network") refl batch.rules _ _ c.in-Ok.ensures.network,
            (
              beside_rules (codes "trains") refl batch.rules _ _ c.in-Ok-list_words.ensures.trains,
              (
                beside_rules (codes "base") refl batch.rules _ _ c.in-Ok.ensures.base,
                (
                  beside_rules (codes "journal") refl batch.rules _ _ c.in-Ok.ensures.journal,
                  (
                    beside_rules (codes "client") refl batch.rules _ _ (c.in-Ok-list_words.ensures.client ∙ one client),
                    (beside_rules (codes "workers") refl batch.rules _ _ (c.in-Ok-list_words.ensures.workers ∙ one workers), (ruled ∙ sym (rules_alone batch.rules), tt)),
                  ),
                ),
              ),
            ),
          );
      limits = c.in-Ok-read_batch_word.ensures.understood;
    })
