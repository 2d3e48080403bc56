use Rattle.std.proofs.Common.{◌≡◌, ◌∙◌, List, ℕ, [], ◌∷◌, codes, decimal, refl, sym, ap, rules}
use Rattle.command_words.specs.Orders.{settings_of}
use Rattle.command_words.specs.declared.orders.Order.TheVariants.{Stairs}
use Rattle.command_words.proofs.Agreeing.{agree_by, refuse_others}
use Rattle.command_words.proofs.Commands.{stairs_order}
use Rattle.command_words.proofs.Errors.{err_over}
use Rattle.command_words.proofs.grants.read_stairs.Goals as goal

abbrev options : List (List ℕ)
options = codes "network" ∷ codes "base" ∷ codes "journal" ∷ codes "entry" ∷ codes "out" ∷ []

pub returns-then-not-has_only-clause-refused : goal.returns-then-not-has_only-clause-refused
returns-then-not-has_only-clause-refused c is order asks =
    let got = stairs_order c.args.settings.now order asks in
    refuse_others options c.args.settings.now _ c.has_only.ensures c.if-not-has_only.true (settings_of (Stairs got.network got.base got.journal got.entry got.out)) refl got.agree

pub returns-in-Err-clause-refused : goal.returns-in-Err-clause-refused
returns-in-Err-clause-refused c is order asks =
    let got = stairs_order c.args.settings.now order asks in
    c.in-Err.ensures.other (err_over _ _ is) got.network got.base got.journal (got.agree (codes "network")) (got.agree (codes "base")) (got.agree (codes "journal"))

pub returns-in-Some-clause-understood : goal.returns-in-Some-clause-understood
returns-in-Some-clause-understood c =
    let word : c.in-Ok-single_value.entry.now ≡ decimal c.in-Some.entry = sym c.in-Ok-parse_stairs.ensures.entry ∙ search rules in
    let entry = c.in-Ok-single_value.ensures.once ∙ ap (λ (text : List ℕ). text ∷ []) word in
    rw (c.in-Ok-parse_stairs.ensures.network, c.in-Ok-parse_stairs.ensures.base, c.in-Ok-parse_stairs.ensures.journal, c.in-Ok-parse_stairs.ensures.out) (record {
      command_is = refl;
      agree = agree_by options c.args.settings.now (settings_of (Stairs c.in-Ok.names.network.now c.in-Ok.names.base.now c.in-Ok.names.journal.now c.in-Some.entry c.in-Ok-single_value-2.out.now))
          (sym c.has_only.ensures ∙ c.if-not-has_only.false) refl
          (c.in-Ok.ensures.network, (c.in-Ok.ensures.base, (c.in-Ok.ensures.journal, (entry, (c.in-Ok-single_value-2.ensures.once, tt)))));
      limits = c.in-Some.ensures.within;
    })
