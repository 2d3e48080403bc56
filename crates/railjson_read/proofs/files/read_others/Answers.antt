use Rattle.std.proofs.Common.{Err, sym, ap, ◌∙◌}
use Rattle.serde_json.specs.View.{view}
use Rattle.railjson_read.proofs.Kept.{others_refused, others_text}
use Rattle.railjson_read.proofs.files.read_others.Goals as goal

pub returns-in-Err-clause-read : goal.returns-in-Err-clause-read
returns-in-Err-clause-read c = λ some.
    let none = c.in-Err.ensures some in
    others_refused c.args.landmarks.now c.args.file none.1 ∙ ap Err (sym none.0)

pub returns-in-Ok-clause-read : goal.returns-in-Ok-clause-read
returns-in-Ok-clause-read c =
    let kept = c.in-Ok.ensures in
    rw (others_text kept.0 (view c.in-Ok.value) kept.2 c.args.landmarks.now c.args.file kept.1) c.others_of.ensures.read
