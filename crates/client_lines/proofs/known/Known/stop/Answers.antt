use Rattle.std.proofs.Common.{◌∙◌, ap, sym}
use Rattle.std.specs.Str.{bytes_eq}
use Rattle.std.proofs.lemmas.Iterator.Adapters.{position_from-zero}
use Rattle.rail_types.specs.IdLists.{number_of}
use Rattle.client_lines.specs.Names.{Names}
use Rattle.client_lines.proofs.known.Known.stop.Goals as goal

pub returns : goal.returns
returns c =
    c.place_in.ensures ∙ c.self.invariant.places.each c.args.name.now
    ∙ sym (position_from-zero (bytes_eq c.args.name.now) c.self.inside.railway.stops)
    ∙ ap (λ (names : Names). number_of c.args.name.now names.railway.stops) c.self.view_is
