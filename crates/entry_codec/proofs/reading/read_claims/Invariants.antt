use Rattle.std.proofs.Common.{◌≡◌, ◌-◌}
use Rattle.entry_codec.specs.Reading.{before_all, claims_field}
use Rattle.entry_codec.proofs.Items.{with_front}
use Rattle.entry_codec.proofs.reading.read_claims.Given as goal

abbrev pub invariant-loop : goal.invariant-loop
invariant-loop l = with_front l.claims.items (claims_field (l.count - l.counter) l.before l.fields) ≡ claims_field l.count before_all l.fn.fields
