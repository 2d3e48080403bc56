use Rattle.std.proofs.Common.{◌≡◌, ◌-◌}
use Rattle.entry_codec.specs.Reading.{items_field, run_field}
use Rattle.entry_codec.proofs.Items.{with_front}
use Rattle.entry_codec.proofs.reading.read_run_items.Given as goal

abbrev pub invariant-loop : goal.invariant-loop
invariant-loop l = with_front l.runs.items (items_field run_field (l.count - l.counter) l.fields) ≡ items_field run_field l.count l.fn.fields
