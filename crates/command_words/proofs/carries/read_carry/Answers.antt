use Rattle.std.proofs.Common.{◌≡◌, ◌∙◌, false, true, codes, refl, sym, subst}
use Rattle.command_words.specs.Orders.{Asks, settings_of}
use Rattle.command_words.specs.declared.orders.Order.{Order}
use Rattle.command_words.specs.declared.orders.Order.TheVariants.{Carry}
use Rattle.command_words.proofs.Agreeing.{refuse_others}
use Rattle.command_words.proofs.Carrying.{carry_agrees, carry_among, carry_apart, carry_base, carry_journal, carry_left, carry_network, carry_options}
use Rattle.command_words.proofs.Commands.{carry_order}
use Rattle.command_words.proofs.Errors.{err_over}
use Rattle.command_words.proofs.carries.read_carry.Goals as goal

pub returns-then-not-has_only-clause-refused : goal.returns-then-not-has_only-clause-refused
returns-then-not-has_only-clause-refused c is order asks =
    let got = carry_order c.args.settings.now order asks in
    refuse_others carry_options c.args.settings.now _ c.has_only.ensures c.if-not-has_only.true
    (settings_of (Carry got.network got.base got.journal got.from got.from_base got.left)) (carry_among got.network got.base got.journal got.from got.from_base got.left) got.agree

pub returns-in-Err-clause-refused : goal.returns-in-Err-clause-refused
returns-in-Err-clause-refused c is order asks =
    let got = carry_order c.args.settings.now order asks in
    c.in-Err.ensures.other (err_over _ _ is) got.network got.base got.journal (got.agree (codes "network") ∙ carry_network got.network got.base got.journal got.from got.from_base got.left)
    (got.agree (codes "base") ∙ carry_base got.network got.base got.journal got.from got.from_base got.left) (got.agree (codes "journal") ∙ carry_journal got.network got.base got.journal got.from got.from_base got.left)

pub returns-in-Err-optional_value-clause-refused : goal.returns-in-Err-optional_value-clause-refused
returns-in-Err-optional_value-clause-refused c is order asks =
    let got = carry_order c.args.settings.now order asks in
    c.in-Err-optional_value.ensures.other (err_over _ _ is) got.left (got.agree (codes "left") ∙ carry_left got.network got.base got.journal got.from got.from_base got.left)

pub returns-then-not-are_apart-clause-refused : goal.returns-then-not-are_apart-clause-refused
returns-then-not-are_apart-clause-refused c is order asks =
    let told = c.are_apart.ensures.1 (carry_apart c.args.settings.now order asks _ _ _ _ _ _ c.in-Ok.ensures.network c.in-Ok.ensures.base c.in-Ok.ensures.journal c.in-Ok-single_value.ensures.once c.in-Ok-single_value-2.ensures.once c.in-Ok-optional_value.ensures.once) in
    let both : false ≡ true = sym c.if-not-are_apart.true ∙ told in
    cc

pub returns-in-Ok-carry_order-clause-understood : goal.returns-in-Ok-carry_order-clause-understood
returns-in-Ok-carry_order-clause-understood c = subst (λ (order : Order). Asks (codes "carry") c.args.settings.now order) (sym c.in-Ok-carry_order.ensures) (record {
  command_is = refl;
  agree = carry_agrees c.args.settings.now c.in-Ok.names.network.now c.in-Ok.names.base.now c.in-Ok.names.journal.now c.in-Ok-single_value.from.now c.in-Ok-single_value-2.from_base.now _ (sym c.has_only.ensures ∙ c.if-not-has_only.false)
      c.in-Ok.ensures.network c.in-Ok.ensures.base c.in-Ok.ensures.journal c.in-Ok-single_value.ensures.once c.in-Ok-single_value-2.ensures.once c.in-Ok-optional_value.ensures.once;
  limits = c.are_apart.ensures.0 c.if-not-are_apart.false;
})
