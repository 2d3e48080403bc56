use Rattle.std.proofs.Common.{arith, get_or}
use Rattle.std.proofs.lemmas.List.Folds.{length-flat_map-take}
use Rattle.json_fields.specs.Escapes.{escaped_byte}
use Rattle.json_fields.proofs.name_text.writing.push_escaped.Goals as goal

pub returns-in_default-clause-room : goal.returns-in_default-clause-room
returns-in_default-clause-room c fits =
    c.in_default.ensures.room (omega (arith, fits, c.bytes.invariant.spare, length-flat_map-take escaped_byte c.args.name.now c.bytes.byte-index 0 (omega (arith, c.bytes-test.true))))

pub returns-in_default-clause-spare : goal.returns-in_default-clause-spare
returns-in_default-clause-spare c =
    omega (arith, c.push_byte.ensures.spare, c.bytes.invariant.spare, length-flat_map-take escaped_byte c.args.name.now c.bytes.byte-index 0 (omega (arith, c.bytes-test.true)))
