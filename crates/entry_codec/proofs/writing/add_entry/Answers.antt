use Rattle.std.proofs.Common.{ℕ, ◌++◌, ◌∷◌, [], ap, ◌∙◌}
use Rattle.std.specs.Int.{w32, w64, to_be_bytes}
use Rattle.entry_codec.specs.Body.{kind_byte, name_text, deed_text}
use Rattle.entry_codec.proofs.Appends.{appended}
use Rattle.entry_codec.proofs.writing.add_entry.Goals as goal

pub returns-clause-held : goal.returns-clause-held
returns-clause-held c =
    let old = c.args.to.now.held in
    let entry = c.args.entry.now in
    let kind = kind_byte entry.deed ∷ [] in
    let number = to_be_bytes w64 entry.number in
    let line = to_be_bytes w32 entry.line in
    let owner = name_text entry.owner in
    let one = c.add_byte.ensures.held ∙ ap (λ (byte : ℕ). old ++ (byte ∷ [])) c.kind.ensures in
    let two = appended old _ _ kind number one c.add_long_number.ensures.held in
    let three = appended old _ _ (kind ++ number) line two c.add_number.ensures.held in
    let four = appended old _ _ ((kind ++ number) ++ line) owner three c.add_name.ensures.held in
    appended old _ _ (((kind ++ number) ++ line) ++ owner) (deed_text entry.deed) four c.add_deed.ensures.held
