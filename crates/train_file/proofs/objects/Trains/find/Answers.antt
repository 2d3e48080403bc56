use Rattle.std.proofs.Common.{◌≡◌, ℕ, List, ap, ◌∙◌, sym, position, map, Option}
use Rattle.std.specs.Prelude.{find, slice_get}
use Rattle.std.specs.Str.{bytes_eq}
use Rattle.rail_types.specs.declared.trains.Train.{Train}
use Rattle.train_file.specs.Trains.{train_named, name_of}
use Rattle.train_file.proofs.Keys.{position_seen, found_none, found_some}
use Rattle.train_file.proofs.objects.Trains.find.Goals as goal

pub returns-in_default : goal.returns-in_default
returns-in_default c =
    found_none (λ (train : Train). bytes_eq c.args.name.now train.name) c.self.inside.trains.items (c.in_default.ensures ∙ ap (position (bytes_eq c.args.name.now)) c.self.invariant ∙ sym (position_seen name_of (bytes_eq c.args.name.now) c.self.inside.trains.items))
    ∙ ap (train_named c.args.name.now) c.self.view_is

pub returns : goal.returns
returns c =
    c.train_at.ensures
    ∙ ap (λ (trains : List Train). slice_get trains c.in-Some.number) c.as_slice.ensures.value
    ∙ found_some (λ (train : Train). bytes_eq c.args.name.now train.name) c.self.inside.trains.items c.in-Some.number (c.in-Some.ensures ∙ ap (position (bytes_eq c.args.name.now)) c.self.invariant ∙ sym (position_seen name_of (bytes_eq c.args.name.now) c.self.inside.trains.items))
    ∙ ap (train_named c.args.name.now) c.self.view_is
