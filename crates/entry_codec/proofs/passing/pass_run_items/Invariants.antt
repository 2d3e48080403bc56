use Rattle.std.proofs.Common.{◌≡◌, ◌-◌}
use Rattle.entry_codec.specs.Reading.{after, items_field, run_field}
use Rattle.entry_codec.proofs.passing.pass_run_items.Given as goal

abbrev pub invariant-loop : goal.invariant-loop
invariant-loop l = after (items_field run_field (l.count - l.counter) l.fields) ≡ after (items_field run_field l.count l.fn.fields)
