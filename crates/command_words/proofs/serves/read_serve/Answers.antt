use Rattle.std.proofs.Common.{◌≡◌, ◌∙◌, List, ℕ, Bor, map, codes, refl, subst, sym, rules}
use Rattle.command_line.specs.Spelling.{Setting, values_under}
use Rattle.command_line.specs.Clients.{AreClients, client_text}
use Rattle.command_line.specs.declared.client_words.clients.ClientWord.{ClientWord}
use Rattle.command_line.proofs.NamingClients.{clients_once}
use Rattle.command_line.specs.Proofs.{AreProofs, proof_text}
use Rattle.command_line.specs.Rules.{AreRulesOf, rule_text}
use Rattle.command_words.specs.Orders.{settings_of}
use Rattle.command_words.specs.declared.orders.Order.TheVariants.{Serve}
use Rattle.command_words.proofs.Agreeing.{agree_by, refuse_others}
use Rattle.command_words.proofs.Commands.{IsServe, serve_order}
use Rattle.command_words.proofs.Errors.{err_over}
use Rattle.command_words.proofs.Repeated.{alone, alone_too, base_is_other, clients_under, journal_is_other, network_is_other, proofs_under, repeated_among, rules_under, serve_options, trains_is_other}
use Rattle.command_words.proofs.serves.read_serve.Goals as goal

abbrev text_of : Bor (List ℕ) → List ℕ
text_of word = word.now

-- the clients that were read are those of each order that the options ask for
same_clients : (settings : List Setting) (got : IsServe settings) (clients : List ClientWord) (words : List (Bor (List ℕ))) → AreClients clients → map client_text clients ≡ map text_of words → map text_of words ≡ values_under (codes "client") settings → got.clients ≡ clients
same_clients settings got clients words are spelled under =
    clients_once got.clients clients got.limits.0.each are.each (sym (spelled ∙ (under ∙ (got.agree (codes "client") ∙ clients_under got.clients got.proofs got.rules))))

pub returns-then-not-has_only-clause-refused : goal.returns-then-not-has_only-clause-refused
returns-then-not-has_only-clause-refused c is order asks =
    let got = serve_order c.args.settings.now order asks in
    refuse_others serve_options c.args.settings.now _ c.has_only.ensures c.if-not-has_only.true
    (settings_of (Serve got.network got.trains got.base got.journal got.clients got.proofs got.rules)) (repeated_among got.clients got.proofs got.rules) got.agree

pub returns-in-Err-clause-refused : goal.returns-in-Err-clause-refused
returns-in-Err-clause-refused c is order asks =
    let got = serve_order c.args.settings.now order asks in
    c.in-Err.ensures.other (err_over _ _ is) got.network got.base got.journal
    (alone_too (codes "network") network_is_other got.clients got.proofs got.rules _ got.network (got.agree (codes "network")))
    (alone_too (codes "base") base_is_other got.clients got.proofs got.rules _ got.base (got.agree (codes "base")))
    (alone_too (codes "journal") journal_is_other got.clients got.proofs got.rules _ got.journal (got.agree (codes "journal")))

pub returns-in-Err-single_value-clause-refused : goal.returns-in-Err-single_value-clause-refused
returns-in-Err-single_value-clause-refused c is order asks =
    let got = serve_order c.args.settings.now order asks in
    c.in-Err-single_value.ensures.other (err_over _ _ is) got.trains (alone_too (codes "trains") trains_is_other got.clients got.proofs got.rules _ got.trains (got.agree (codes "trains")))

pub returns-in-Err-read_clients-clause-refused : goal.returns-in-Err-read_clients-clause-refused
returns-in-Err-read_clients-clause-refused c is order asks =
    let got = serve_order c.args.settings.now order asks in
    let words : map text_of c.as_slice.result.now ≡ values_under (codes "client") c.args.settings.now = search rules in
    c.in-Err-read_clients.ensures.refused (err_over _ _ is) got.clients got.limits.0 (sym (words ∙ (got.agree (codes "client") ∙ clients_under got.clients got.proofs got.rules)))

pub returns-in-Err-read_proofs-clause-refused : goal.returns-in-Err-read_proofs-clause-refused
returns-in-Err-read_proofs-clause-refused c is order asks =
    let got = serve_order c.args.settings.now order asks in
    let clients = c.in-Ok-read_clients.clients in
    let words : map text_of c.as_slice.result.now ≡ values_under (codes "client") c.args.settings.now = search rules in
    let slice : c.as_slice-2.result.now ≡ clients = search rules in
    let texts : map text_of c.as_slice-3.result.now ≡ values_under (codes "proof") c.args.settings.now = search rules in
    let once = same_clients c.args.settings.now got clients _ c.in-Ok-read_clients.ensures.understood c.in-Ok-read_clients.ensures.spelled words in
    c.in-Err-read_proofs.ensures.refused (err_over _ _ is) got.proofs (subst (λ (all : List ClientWord). AreProofs all got.proofs) (once ∙ sym slice) got.limits.1)
    (sym (texts ∙ (got.agree (codes "proof") ∙ proofs_under got.clients got.proofs got.rules)))

pub returns-in-Err-read_rules-clause-refused : goal.returns-in-Err-read_rules-clause-refused
returns-in-Err-read_rules-clause-refused c is order asks =
    let got = serve_order c.args.settings.now order asks in
    let clients = c.in-Ok-read_clients.clients in
    let words : map text_of c.as_slice.result.now ≡ values_under (codes "client") c.args.settings.now = search rules in
    let slice : c.as_slice-4.result.now ≡ clients = search rules in
    let texts : map text_of c.as_slice-5.result.now ≡ values_under (codes "rule") c.args.settings.now = search rules in
    let once = same_clients c.args.settings.now got clients _ c.in-Ok-read_clients.ensures.understood c.in-Ok-read_clients.ensures.spelled words in
    c.in-Err-read_rules.ensures.refused (err_over _ _ is) got.rules (subst (λ (all : List ClientWord). AreRulesOf all got.rules) (once ∙ sym slice) got.limits.2)
    (sym (texts ∙ (got.agree (codes "rule") ∙ rules_under got.clients got.proofs got.rules)))

pub returns-in-Ok-parse_serve-clause-understood : goal.returns-in-Ok-parse_serve-clause-understood
returns-in-Ok-parse_serve-clause-understood c =
    let settings = c.args.settings.now in
    let clients = c.in-Ok-read_clients.clients in
    let proved = c.in-Ok-read_proofs.proofs in
    let kept = c.in-Ok-read_rules.rules in
    let words : map text_of c.as_slice.result.now ≡ values_under (codes "client") settings = search rules in
    let slice : c.as_slice-2.result.now ≡ clients = search rules in
    let texts : map text_of c.as_slice-3.result.now ≡ values_under (codes "proof") settings = search rules in
    let slice_too : c.as_slice-4.result.now ≡ clients = search rules in
    let texts_too : map text_of c.as_slice-5.result.now ≡ values_under (codes "rule") settings = search rules in
    let served : values_under (codes "client") settings ≡ map client_text clients = sym words ∙ sym c.in-Ok-read_clients.ensures.spelled in
    let told : values_under (codes "proof") settings ≡ map proof_text proved = sym texts ∙ sym c.in-Ok-read_proofs.ensures.spelled in
    let ruled : values_under (codes "rule") settings ≡ map rule_text kept = sym texts_too ∙ sym c.in-Ok-read_rules.ensures.spelled in
    rw (c.in-Ok-parse_serve.ensures.network, c.in-Ok-parse_serve.ensures.trains, c.in-Ok-parse_serve.ensures.base, c.in-Ok-parse_serve.ensures.journal) (record {
      command_is = refl;
      agree = agree_by serve_options settings (settings_of (Serve c.in-Ok.names.network.now c.in-Ok-single_value.trains.now c.in-Ok.names.base.now c.in-Ok.names.journal.now clients proved kept))
          (sym c.has_only.ensures ∙ c.if-not-has_only.false) (repeated_among clients proved kept) (
            alone (codes "network") network_is_other clients proved kept _ _ c.in-Ok.ensures.network,
            (
              alone (codes "trains") trains_is_other clients proved kept _ _ c.in-Ok-single_value.ensures.once,
              (
                alone (codes "base") base_is_other clients proved kept _ _ c.in-Ok.ensures.base,
                (
                  alone (codes "journal") journal_is_other clients proved kept _ _ c.in-Ok.ensures.journal,
                  (served ∙ sym (clients_under clients proved kept), (told ∙ sym (proofs_under clients proved kept), (ruled ∙ sym (rules_under clients proved kept), tt))),
                ),
              ),
            ),
          );
      limits = (
        c.in-Ok-read_clients.ensures.understood,
        subst (λ (all : List ClientWord). AreProofs all proved) slice c.in-Ok-read_proofs.ensures.understood,
        subst (λ (all : List ClientWord). AreRulesOf all kept) slice_too c.in-Ok-read_rules.ensures.understood,
      );
    })
