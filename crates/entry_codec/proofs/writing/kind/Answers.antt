use Rattle.std.proofs.Common.{ap, sym, ◌∙◌}
use Rattle.entry_codec.specs.Body.{kind_byte}
use Rattle.entry_codec.proofs.writing.kind.Goals as goal

pub returns-in-Hold : goal.returns-in-Hold
returns-in-Hold c = c.hold_kind.ensures c.in-Hold.field-0 ∙ ap kind_byte (sym c.in-Hold.is)
