use Rattle.std.proofs.Common.{string_bytes, ap, ◌∙◌}
use Rattle.std.specs.Str.{bytes_eq}
use Rattle.rail_types.proofs.Keys.{position_seen}
use Rattle.rail_types.specs.IdLists.{number_of}
use Rattle.rail_types.proofs.id_lists.ids.Ids.number.Goals as goal

pub returns-in_err-place-clause-number : goal.returns-in_err-place-clause-number
returns-in_err-place-clause-number c = c.from_residual.ensures ∙ c.in_err-place.ensures.index ∙ position_seen (λ key. string_bytes key) (bytes_eq c.args.id.now) c.self.inside.set.keys ∙ ap (number_of c.args.id.now) c.self.view_is

pub returns-clause-number : goal.returns-clause-number
returns-clause-number c = c.in_ok-place.ensures.index ∙ position_seen (λ key. string_bytes key) (bytes_eq c.args.id.now) c.self.inside.set.keys ∙ ap (number_of c.args.id.now) c.self.view_is
