use Rattle.std.proofs.Common.{◌∙◌, List, ℕ, [], ◌∷◌, codes, refl, sym}
use Rattle.command_words.specs.Orders.{settings_of}
use Rattle.command_words.specs.declared.orders.Order.TheVariants.{Check}
use Rattle.command_words.proofs.Agreeing.{agree_by, refuse_others}
use Rattle.command_words.proofs.Commands.{check_order}
use Rattle.command_words.proofs.Errors.{err_over}
use Rattle.command_words.proofs.checks.read_check.Goals as goal

abbrev options : List (List ℕ)
options = codes "network" ∷ codes "trains" ∷ codes "base" ∷ codes "journal" ∷ codes "proof" ∷ []

pub returns-then-not-has_only-clause-refused : goal.returns-then-not-has_only-clause-refused
returns-then-not-has_only-clause-refused c is order asks =
    let got = check_order c.args.settings.now order asks in
    refuse_others options c.args.settings.now _ c.has_only.ensures c.if-not-has_only.true (settings_of (Check got.network got.trains got.base got.journal got.proof)) refl got.agree

pub returns-in-Err-clause-refused : goal.returns-in-Err-clause-refused
returns-in-Err-clause-refused c is order asks =
    let got = check_order c.args.settings.now order asks in
    c.in-Err.ensures.other (err_over _ _ is) got.network got.base got.journal (got.agree (codes "network")) (got.agree (codes "base")) (got.agree (codes "journal"))

pub returns-in-Ok-parse_check-clause-understood : goal.returns-in-Ok-parse_check-clause-understood
returns-in-Ok-parse_check-clause-understood c =
    rw (c.in-Ok-parse_check.ensures.network, c.in-Ok-parse_check.ensures.trains, c.in-Ok-parse_check.ensures.base, c.in-Ok-parse_check.ensures.journal, c.in-Ok-parse_check.ensures.proof) (record {
      command_is = refl;
      agree = agree_by options c.args.settings.now (settings_of (Check c.in-Ok.names.network.now c.in-Ok-single_value.trains.now c.in-Ok.names.base.now c.in-Ok.names.journal.now c.in-Ok-single_value-2.proof.now))
          (sym c.has_only.ensures ∙ c.if-not-has_only.false) refl
          (c.in-Ok.ensures.network, (c.in-Ok-single_value.ensures.once, (c.in-Ok.ensures.base, (c.in-Ok.ensures.journal, (c.in-Ok-single_value-2.ensures.once, tt)))));
      limits = tt;
    })
