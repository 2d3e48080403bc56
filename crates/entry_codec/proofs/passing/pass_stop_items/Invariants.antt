use Rattle.std.proofs.Common.{◌≡◌, ◌-◌}
use Rattle.entry_codec.specs.Reading.{after, items_field, stop_field}
use Rattle.entry_codec.proofs.passing.pass_stop_items.Given as goal

abbrev pub invariant-loop : goal.invariant-loop
invariant-loop l = after (items_field stop_field (l.count - l.counter) l.fields) ≡ after (items_field stop_field l.count l.fn.fields)
