use Rattle.std.proofs.Common.{string_bytes, ap, ◌∙◌}
use Rattle.std.specs.Str.{bytes_eq}
use Rattle.rail_types.proofs.Keys.{any_seen}
use Rattle.rail_types.specs.IdLists.{is_known}
use Rattle.rail_types.proofs.id_lists.ids.Ids.has.Goals as goal

pub returns : goal.returns
returns c = c.contains.ensures ∙ any_seen (λ key. string_bytes key) (bytes_eq c.args.id.now) c.self.inside.set.keys ∙ ap (is_known c.args.id.now) c.self.view_is
