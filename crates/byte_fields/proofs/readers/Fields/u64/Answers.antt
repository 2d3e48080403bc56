use Rattle.std.proofs.Common.{◌++◌, List, ℕ, sym, ap, ◌∙◌, Ok, rules}
use Rattle.std.proofs.lemmas.Nat.{be_bytes_8}
use Rattle.byte_fields.proofs.Fronts.{number_back}
use Rattle.byte_fields.proofs.readers.Fields.u64.Goals as goal

pub returns-clause-taken : goal.returns-clause-taken
returns-clause-taken c =
    c.in_ok-bytes.ensures.taken
    ∙ ap (λ (front : List ℕ). front ++ c.bytes.new.self.left) (sym (be_bytes_8 c.in_ok-bytes.bytes.now _ c.in_ok-bytes.ensures.count (search rules) c.from_be_bytes.ensures))

pub returns-clause-back : goal.returns-clause-back
returns-clause-back c =
    λ v rest fits e.
    let both = number_back c.in_ok-bytes.bytes.now c.bytes.new.self.left rest v fits c.in_ok-bytes.ensures.count (sym e ∙ c.in_ok-bytes.ensures.taken) in
    (ap Ok (c.from_be_bytes.ensures ∙ both.0), both.1)
