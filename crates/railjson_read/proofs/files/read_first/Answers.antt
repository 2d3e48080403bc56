use Rattle.std.proofs.Common.{Err, sym, ap, ◌∙◌}
use Rattle.serde_json.specs.View.{view}
use Rattle.railjson_read.proofs.Kept.{first_refused, first_text}
use Rattle.railjson_read.proofs.files.read_first.Goals as goal

pub returns-in-Err-clause-read : goal.returns-in-Err-clause-read
returns-in-Err-clause-read c = λ some.
    let none = c.in-Err.ensures.kept some in
    first_refused c.args.file.now none.1 ∙ ap Err (sym none.0)

pub returns-in-Ok-clause-read : goal.returns-in-Ok-clause-read
returns-in-Ok-clause-read c =
    let kept = c.in-Ok.ensures.kept in
    rw (first_text kept.0 (view c.in-Ok.value) kept.2 c.args.file.now kept.1) c.read_object.ensures.read
