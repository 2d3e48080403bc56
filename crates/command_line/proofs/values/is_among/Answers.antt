use Rattle.std.proofs.Common.{◌∙◌, List, ℕ}
use Rattle.std.specs.Str.{bytes_eq}
use Rattle.command_line.proofs.Under.{any_map}
use Rattle.command_line.proofs.values.is_among.Goals as goal

pub returns : goal.returns
returns c = c.has_text.ensures ∙ any_map (λ (other : List ℕ). bytes_eq other c.args.option.now) c.args.options.now
