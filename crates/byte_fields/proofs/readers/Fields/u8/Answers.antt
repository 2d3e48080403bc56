use Rattle.std.proofs.Common.{sym, ap, ◌∙◌, Ok}
use Rattle.byte_fields.proofs.Fronts.{byte_back}
use Rattle.byte_fields.proofs.readers.Fields.u8.Goals as goal

pub returns-clause-back : goal.returns-clause-back
returns-clause-back c =
    λ v rest fits e.
    let both = byte_back c.in_ok-bytes.bytes.now c.bytes.new.self.left rest v c.in_ok-bytes.ensures.count (sym e ∙ c.in_ok-bytes.ensures.taken) in
    (ap Ok both.0, both.1)
