use Rattle.std.proofs.Common.{◌≡◌, drop}
use Rattle.json_fields.specs.declared.name_text.spellings.Escape.TheVariants.{Outside}
use Rattle.json_fields.specs.NameReading.{IsHalf, read_on, with_front}
use Rattle.json_fields.proofs.name_text.spellings.read.Given as goal

abbrev pub invariant-bytes : goal.invariant-bytes
invariant-bytes l = record {
  so_far : with_front l.name.items (read_on l.escape (drop l.byte-index l.text)) ≡ read_on Outside l.text;
  half : IsHalf l.escape;
}
