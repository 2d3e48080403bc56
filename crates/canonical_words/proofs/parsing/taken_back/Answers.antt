use Rattle.std.proofs.Common.{◌∙◌, List, ap, ap₂, map, string_bytes}
use Rattle.command_line.specs.Spelling.{Setting}
use Rattle.clap.specs.Words.{Row, first_of, matches_of, takes}
use Rattle.canonical_words.proofs.parsing.taken_back.Goals as goal

pub parse-requires : goal.parse-requires
parse-requires c =
    let words = ap (map string_bytes) c.as_slice.ensures.value ∙ c.in_ok-words.ensures in
    record { taken = ap₂ takes c.in_ok-command.ensures words ∙ c.requires.comes.taken }

pub values_of-requires : goal.values_of-requires
values_of-requires c =
    let words = ap (map string_bytes) c.as_slice.ensures.value ∙ c.in_ok-words.ensures in
    let rows = c.in_ok-matches.ensures ∙ ap₂ matches_of c.in_ok-command.ensures words in
    record { given = ap (λ (r : List Row). map (λ (s : Setting). first_of s.option r) c.args.options.now) rows ∙ c.requires.comes.values }
