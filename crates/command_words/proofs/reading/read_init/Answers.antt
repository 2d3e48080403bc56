use Rattle.std.proofs.Common.{◌∙◌, List, ℕ, [], ◌∷◌, codes, refl, sym, subst}
use Rattle.command_words.specs.Orders.{Asks, settings_of}
use Rattle.command_words.specs.declared.orders.Order.{Order}
use Rattle.command_words.specs.declared.orders.Order.TheVariants.{Init}
use Rattle.command_words.proofs.Agreeing.{refuse_others}
use Rattle.command_words.proofs.Errors.{err_over}
use Rattle.command_words.proofs.Commands.{init_agrees, init_among, init_from, init_order}
use Rattle.command_words.proofs.reading.read_init.Goals as goal

abbrev options : List (List ℕ)
options = codes "network" ∷ codes "base" ∷ codes "journal" ∷ codes "from" ∷ []

pub returns-then-not-has_only-clause-refused : goal.returns-then-not-has_only-clause-refused
returns-then-not-has_only-clause-refused c is order asks =
    let got = init_order c.args.settings.now order asks in
    refuse_others options c.args.settings.now _ c.has_only.ensures c.if-not-has_only.true (settings_of (Init got.network got.base got.journal got.from)) (init_among got.network got.base got.journal got.from) got.agree

pub returns-in-Err-optional_value-clause-refused : goal.returns-in-Err-optional_value-clause-refused
returns-in-Err-optional_value-clause-refused c is order asks =
    let got = init_order c.args.settings.now order asks in
    c.in-Err-optional_value.ensures.other (err_over _ _ is) got.from (got.agree (codes "from") ∙ init_from got.network got.base got.journal got.from)

pub returns-in-Ok-init_order-clause-understood : goal.returns-in-Ok-init_order-clause-understood
returns-in-Ok-init_order-clause-understood c = subst (λ (order : Order). Asks (codes "init") c.args.settings.now order) (sym c.in-Ok-init_order.ensures) (record {
  command_is = refl;
  agree = init_agrees c.args.settings.now c.in-Ok.network.now c.in-Ok-single_value.base.now c.in-Ok-single_value-2.journal.now _ (sym c.has_only.ensures ∙ c.if-not-has_only.false)
      c.in-Ok.ensures.once c.in-Ok-single_value.ensures.once c.in-Ok-single_value-2.ensures.once c.in-Ok-optional_value.ensures.once;
  limits = tt;
})
