use Rattle.std.proofs.Common.{◌∙◌, ◌++◌, ◌∷◌, [], List, ℕ, ap, ap₂, sym}
use Rattle.std.proofs.lemmas.List.{map_more}
use Rattle.command_line.specs.Spelling.{Setting}
use Rattle.clap.specs.Words.{found_of, rows_of}
use Rattle.canonical_words.proofs.Values.{same_value, some_is_some, value_at}
use Rattle.canonical_words.proofs.parsing.values_of.Goals as goal

pub value_of-requires : goal.value_of-requires
value_of-requires c =
    let option = ap (λ (s : Setting). s.option) c.option.view_is in
    let found = value_at (rows_of (found_of c.args.matches.now)) c.args.options.now c.loop-option.option-index c.option-item.result _ c.loop-option-test.true c.option-item.is c.requires.given option in
    record { some = some_is_some _ _ found }

pub loop-option-preserved : goal.loop-option-preserved
loop-option-preserved c =
    let option = ap (λ (s : Setting). s.option) c.option.view_is in
    let found = value_at (rows_of (found_of c.args.matches.now)) c.args.options.now c.loop-option.option-index c.option-item.result _ c.loop-option-test.true c.option-item.is c.requires.given option in
    let value = same_value _ _ _ c.in_ok-value_of.ensures found ∙ ap (λ (s : Setting). s.value) c.option-item.is in
    let more = map_more (λ (s : Setting). s.value) c.args.options.now c.loop-option.option-index c.option-item.result c.loop-option-test.true in
    let all = ap₂ (λ (xs : List (List ℕ)) (v : List ℕ). xs ++ v ∷ []) c.loop-option.invariant value ∙ sym more in
    ◌∙◌ {A = List (List ℕ)} c.in_ok-push.ensures.items all
