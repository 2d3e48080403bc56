use Rattle.std.proofs.Common.{◌≡◌, ◌∷◌, ◌∙◌, List, length, map, string_bytes, rules, ap₂}
use Rattle.command_line.specs.Spelling.{dashed, Word}
use Rattle.command_line.proofs.Spellings.{begins_alone, map_none}
use Rattle.command_line.proofs.settings.first_option.Goals as goal

pub returns-in_default-clause-none : goal.returns-in_default-clause-none
returns-in_default-clause-none c s rest lacks begins =
    let words : map string_bytes c.args.words.now ≡ string_bytes c.in_ok-word.word.now ∷ map string_bytes c.in_ok-word.behind.now = search rules in
    let word : string_bytes c.in_ok-word.word.now ≡ dashed c.in_ok-text.text.now = search rules in
    let none : length c.in_ok-word.behind.now ≡ 0 = search rules in
    let alone = words ∙ ap₂ (λ (w : Word) (ws : List Word). w ∷ ws) word (map_none string_bytes _ none) in
    begins_alone s c.in_ok-text.text.now _ rest alone c.in-None.ensures.absent begins
