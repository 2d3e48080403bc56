use Rattle.std.proofs.Common.{◌∙◌, List, ℕ, [], ◌∷◌, codes, refl, sym}
use Rattle.command_words.specs.Orders.{settings_of}
use Rattle.command_words.specs.declared.orders.Order.TheVariants.{Tables}
use Rattle.command_words.proofs.Agreeing.{agree_by, refuse_others}
use Rattle.command_words.proofs.Commands.{list_order}
use Rattle.command_words.proofs.reading.read_list.Goals as goal

abbrev options : List (List ℕ)
options = codes "network" ∷ codes "out" ∷ []

pub returns-then-not-has_only-clause-refused : goal.returns-then-not-has_only-clause-refused
returns-then-not-has_only-clause-refused c is order asks =
    let got = list_order c.args.settings.now order asks in
    refuse_others options c.args.settings.now _ c.has_only.ensures c.if-not-has_only.true (settings_of (Tables got.0 got.1)) refl got.2

pub returns-in-Ok-parse_list-clause-understood : goal.returns-in-Ok-parse_list-clause-understood
returns-in-Ok-parse_list-clause-understood c = rw (c.in-Ok-parse_list.ensures.network, c.in-Ok-parse_list.ensures.out) (record {
  command_is = refl;
  agree = agree_by options c.args.settings.now (settings_of (Tables c.in-Ok.network.now c.in-Ok-single_value.out.now)) (sym c.has_only.ensures ∙ c.if-not-has_only.false) refl
      (c.in-Ok.ensures.once, (c.in-Ok-single_value.ensures.once, tt));
  limits = tt;
})
