use Rattle.std.proofs.Common.{◌≡◌, ◌∙◌, List, ℕ, [], ◌∷◌, codes, decimal, refl, sym, ap}
use Rattle.command_words.specs.Orders.{settings_of}
use Rattle.command_words.specs.declared.orders.Order.TheVariants.{Capacity}
use Rattle.command_words.proofs.Agreeing.{agree_by, refuse_others}
use Rattle.command_words.proofs.Commands.{capacity_order}
use Rattle.command_words.proofs.Errors.{err_over}
use Rattle.command_words.proofs.capacities.read_capacity.Goals as goal

abbrev options : List (List ℕ)
options = codes "network" ∷ codes "base" ∷ codes "journal" ∷ codes "first" ∷ codes "last" ∷ codes "from" ∷ codes "to" ∷ codes "out" ∷ []

-- equal texts, each alone
one : {a b : List ℕ} → a ≡ b → a ∷ [] ≡ b ∷ []
one same = ap (λ (text : List ℕ). text ∷ []) same

pub returns-then-not-has_only-clause-refused : goal.returns-then-not-has_only-clause-refused
returns-then-not-has_only-clause-refused c is order asks =
    let got = capacity_order c.args.settings.now order asks in
    refuse_others options c.args.settings.now _ c.has_only.ensures c.if-not-has_only.true
    (settings_of (Capacity got.network got.base got.journal got.first got.last got.from got.to got.out)) refl got.agree

pub returns-in-Err-clause-refused : goal.returns-in-Err-clause-refused
returns-in-Err-clause-refused c is order asks =
    let got = capacity_order c.args.settings.now order asks in
    c.in-Err.ensures.other (err_over _ _ is) got.network got.base got.journal (got.agree (codes "network")) (got.agree (codes "base")) (got.agree (codes "journal"))

pub returns-in-Err-stretch_words-clause-refused : goal.returns-in-Err-stretch_words-clause-refused
returns-in-Err-stretch_words-clause-refused c is order asks =
    let got = capacity_order c.args.settings.now order asks in
    c.in-Err-stretch_words.ensures.other (err_over _ _ is) (decimal got.first) (decimal got.last) (decimal got.from) (decimal got.to)
    (got.agree (codes "first")) (got.agree (codes "last")) (got.agree (codes "from")) (got.agree (codes "to"))

pub returns-clause-understood : goal.returns-clause-understood
returns-clause-understood c =
    let first : c.in-Ok-stretch_words.stretch.first.now ≡ decimal c.in-Some.zones.first = sym c.in-Ok-parse_capacity.ensures.first ∙ (sym c.as_str.ensures ∙ c.in-Some.ensures.first) in
    let last : c.in-Ok-stretch_words.stretch.last.now ≡ decimal c.in-Some.zones.last = sym c.in-Ok-parse_capacity.ensures.last ∙ (sym c.as_str-2.ensures ∙ c.in-Some.ensures.last) in
    let from : c.in-Ok-stretch_words.stretch.from.now ≡ decimal c.in-Some-read_window.window.from = sym c.in-Ok-parse_capacity.ensures.from ∙ (sym c.as_str-3.ensures ∙ c.in-Some-read_window.ensures.from) in
    let to : c.in-Ok-stretch_words.stretch.to.now ≡ decimal c.in-Some-read_window.window.to = sym c.in-Ok-parse_capacity.ensures.to ∙ (sym c.as_str-4.ensures ∙ c.in-Some-read_window.ensures.to) in
    rw (c.in-Ok-parse_capacity.ensures.network, c.in-Ok-parse_capacity.ensures.base, c.in-Ok-parse_capacity.ensures.journal, c.in-Ok-parse_capacity.ensures.out) (record {
      command_is = refl;
      agree = agree_by options c.args.settings.now
          (settings_of (Capacity c.in-Ok.names.network.now c.in-Ok.names.base.now c.in-Ok.names.journal.now c.in-Some.zones.first c.in-Some.zones.last c.in-Some-read_window.window.from c.in-Some-read_window.window.to c.in-Ok-single_value.out.now))
          (sym c.has_only.ensures ∙ c.if-not-has_only.false) refl
          (c.in-Ok.ensures.network, (c.in-Ok.ensures.base, (c.in-Ok.ensures.journal, (c.in-Ok-stretch_words.ensures.first ∙ one first, (c.in-Ok-stretch_words.ensures.last ∙ one last, (c.in-Ok-stretch_words.ensures.from ∙ one from, (c.in-Ok-stretch_words.ensures.to ∙ one to, (c.in-Ok-single_value.ensures.once, tt))))))));
      limits = (c.in-Some.ensures.within, c.in-Some-read_window.ensures.within);
    })
