use Rattle.std.proofs.Common.{◌≡◌, ◌∙◌, ◌<◌, ◌∷◌, ◌++◌, [], List, ℕ, Bor, true, false, length, map, take, rules, ap, sym}
use Rattle.std.proofs.lemmas.List.{map-append}
use Rattle.std.specs.Str.{bytes_eq}
use Rattle.command_line.specs.Spelling.{values_under}
use Rattle.command_line.proofs.Under.{under_hit, under_miss}
use Rattle.command_line.proofs.values.values_of.Goals.{then-eq+in_ok-push, else-eq}
use Rattle.command_line.proofs.values.values_of.Goals as goal

abbrev text_of : Bor (List ℕ) → List ℕ
text_of value = value.now

pub loop-setting-preserved : goal.loop-setting-preserved
loop-setting-preserved c =
    let option = c.args.option.now in
    let settings = c.args.settings.now in
    let item = c.setting-item.result in
    let within : c.loop-setting.setting-index < length settings = search rules in
    elim c.if-eq.branch [
      | then-eq+in_ok-push w ↦
          let hit : bytes_eq item.option option ≡ true = search rules in
          let items : c.if-eq.values.items ≡ c.loop-setting.values.items ++ w.value.result ∷ [] = search rules in
          let value : w.value.result.now ≡ item.value = search rules in
          ap (map text_of) items ∙ map-append text_of c.loop-setting.values.items (w.value.result ∷ []) ∙ ap (λ (xs : List (List ℕ)). xs ++ w.value.result.now ∷ []) c.loop-setting.invariant
          ∙ (ap (λ (v : List ℕ). values_under option (take c.loop-setting.setting-index settings) ++ v ∷ []) value ∙ sym (under_hit option settings c.loop-setting.setting-index item within c.setting-item.is hit))
      | else-eq w ↦
          let miss : bytes_eq item.option option ≡ false = search rules in
          let items : c.if-eq.values.items ≡ c.loop-setting.values.items = search rules in
          ap (map text_of) items ∙ c.loop-setting.invariant ∙ sym (under_miss option settings c.loop-setting.setting-index item within c.setting-item.is miss)
    ]
