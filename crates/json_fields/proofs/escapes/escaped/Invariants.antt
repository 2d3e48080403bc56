use Rattle.std.proofs.Common.{◌≡◌, take}
use Rattle.json_fields.specs.Escapes.{escaped}
use Rattle.json_fields.proofs.escapes.escaped.Given as goal

abbrev pub invariant-bytes : goal.invariant-bytes
invariant-bytes l = l.text.items ≡ escaped (take l.byte-index l.name)
