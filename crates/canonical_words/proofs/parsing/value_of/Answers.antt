use Rattle.std.proofs.Common.{◌≡◌, ◌∙◌, true, false, Option, Some, None, List, ℕ, ap, sym, subst, is_some}
use Rattle.std.proofs.lemmas.Result.{IfOk-weaker}
use Rattle.clap.specs.Words.{found_of, first_of, rows_of}
use Rattle.clap.proofs.WalkLemmas.{first_value-rows}
use Rattle.canonical_words.proofs.parsing.value_of.Goals as goal

pub unreachable-requires : goal.unreachable-requires
unreachable-requires c =
    let rows = first_value-rows (found_of c.args.matches.now) c.args.option.now in
    let none : ◌≡◌ {A = Option (List ℕ)} None (first_of c.args.option.now (rows_of (found_of c.args.matches.now))) = c.in-None.ensures ∙ rows in
    let is : false ≡ true = subst (λ (o : Option (List ℕ)). is_some o ≡ true) (sym none) c.requires.some in
    cc

pub returns : goal.returns
returns c =
    let rows = first_value-rows (found_of c.args.matches.now) c.args.option.now in
    IfOk-weaker c.from_str.result _ _ (λ v e. sym rows ∙ (sym c.in-Some.ensures ∙ ap (λ (t : List ℕ). Some t) (sym e))) c.from_str.ensures
