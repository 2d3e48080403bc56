use Rattle.std.proofs.Common.{◌≡◌, ◌-◌}
use Rattle.entry_codec.specs.Reading.{after, before_all, claims_field}
use Rattle.entry_codec.proofs.passing.pass_claims.Given as goal

abbrev pub invariant-loop : goal.invariant-loop
invariant-loop l = after (claims_field (l.count - l.counter) l.before l.fields) ≡ after (claims_field l.count before_all l.fn.fields)
