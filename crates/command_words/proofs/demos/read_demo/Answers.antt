use Rattle.std.proofs.Common.{◌≡◌, ◌∙◌, List, ℕ, [], ◌∷◌, codes, decimal, refl, sym, ap, rules}
use Rattle.command_words.specs.Orders.{settings_of}
use Rattle.command_words.specs.declared.orders.Order.TheVariants.{Demo}
use Rattle.command_words.proofs.Agreeing.{agree_by, refuse_others}
use Rattle.command_words.proofs.Commands.{demo_order}
use Rattle.command_words.proofs.demos.read_demo.Goals as goal

abbrev options : List (List ℕ)
options = codes "number" ∷ codes "out" ∷ []

pub returns-then-not-has_only-clause-refused : goal.returns-then-not-has_only-clause-refused
returns-then-not-has_only-clause-refused c is order asks =
    let got = demo_order c.args.settings.now order asks in
    refuse_others options c.args.settings.now _ c.has_only.ensures c.if-not-has_only.true (settings_of (Demo got.number got.out)) refl got.agree

pub returns-in-Some-clause-understood : goal.returns-in-Some-clause-understood
returns-in-Some-clause-understood c =
    let word : c.in-Ok.number.now ≡ decimal c.in-Some.number = sym c.in-Ok-parse_demo.ensures.number ∙ search rules in
    let number = c.in-Ok.ensures.once ∙ ap (λ (text : List ℕ). text ∷ []) word in
    rw c.in-Ok-parse_demo.ensures.out (record {
      command_is = refl;
      agree = agree_by options c.args.settings.now (settings_of (Demo c.in-Some.number c.in-Ok-single_value.out.now))
          (sym c.has_only.ensures ∙ c.if-not-has_only.false) refl
          (number, (c.in-Ok-single_value.ensures.once, tt));
      limits = c.in-Some.ensures.within;
    })
