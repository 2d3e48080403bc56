use Rattle.std.proofs.Common.{◌≡◌, ◌+◌, ◌≤◌, ◌++◌, length, take}
use Rattle.std.specs.Io.{StartsWith}
use Rattle.json_fields.specs.Escapes.{escaped}
use Rattle.json_fields.proofs.name_text.writing.push_escaped.Given as goal

abbrev pub invariant-bytes : goal.invariant-bytes
invariant-bytes l = record {
  held : l.to.held ≡ l.fn.to.held ++ escaped (take l.byte-index l.name);
  spare : l.fn.to.spare ≤ l.to.spare + length (escaped (take l.byte-index l.name));
}
