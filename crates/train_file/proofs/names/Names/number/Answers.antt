use Rattle.std.proofs.Common.{◌≡◌, ℕ, List, ap, ◌∙◌, position}
use Rattle.std.specs.Str.{bytes_eq}
use Rattle.train_file.proofs.Keys.{position_seen}
use Rattle.train_file.proofs.names.Names.number.Goals as goal

pub returns : goal.returns
returns c = c.get_index_of.ensures.index ∙ position_seen (λ key. key.items) (bytes_eq c.args.name.now) c.self.inside.set.keys ∙ ap (position (bytes_eq c.args.name.now)) c.self.view_is
