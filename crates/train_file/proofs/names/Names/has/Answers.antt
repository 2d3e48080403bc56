use Rattle.std.proofs.Common.{◌≡◌, ℕ, List, ap, ◌∙◌}
use Rattle.std.specs.List.{list_any}
use Rattle.std.specs.Str.{bytes_eq}
use Rattle.train_file.proofs.Keys.{any_seen}
use Rattle.train_file.proofs.names.Names.has.Goals as goal

pub returns : goal.returns
returns c = c.contains.ensures ∙ any_seen (λ key. key.items) (bytes_eq c.args.name.now) c.self.inside.set.keys ∙ ap (list_any (bytes_eq c.args.name.now)) c.self.view_is
