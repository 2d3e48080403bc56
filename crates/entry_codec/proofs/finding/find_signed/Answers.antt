use Rattle.std.proofs.Common.{ℤ, Ok, ap, sym, ◌∙◌, rules, FitsSigned}
use Rattle.std.specs.Int.{w64}
use Rattle.std.proofs.lemmas.Int.{to_z-of_z}
use Rattle.entry_codec.proofs.Fields.{signed_gives}
use Rattle.entry_codec.proofs.finding.find_signed.Goals as goal

pub returns : goal.returns
returns c =
    let fits : FitsSigned w64 c.in_ok-i64.field-0 = search rules in
    signed_gives c.args.fields.now c.i64.new.self c.in_ok-i64.field-0 fits c.in_ok-i64.ensures.taken c.in_ok-i64.ensures.passed
    ∙ ap (λ (v : ℤ). Ok (v, c.i64.new.self)) (sym (to_z-of_z w64 c.in_ok-i64.field-0 fits))
