use Rattle.std.proofs.Common.{rules}
use Rattle.railjson_read.specs.Files.{joined, others_at}
use Rattle.railjson_read.proofs.Kept.{behind_first, by_halves, made, no_text}
use Rattle.railjson_read.proofs.files.read_text.Goals as goal

pub returns-in_err-file-clause-read : goal.returns-in_err-file-clause-read
returns-in_err-file-clause-read c quoted h =
    no_text c.from_residual.result c.in_err-file.field-0.0 quoted c.from_residual.ensures.1 (λ some. c.in_err-file.ensures.fault some quoted h)

pub returns-in_err-first-clause-read : goal.returns-in_err-first-clause-read
returns-in_err-first-clause-read c = λ quoted h. rw (c.in_ok-file.ensures.text quoted h, by_halves c.in_ok-file.file) (search (rules, c.from_residual-in_err-first.ensures, c.in_err-first.ensures.read))

pub returns-clause-read : goal.returns-clause-read
returns-clause-read c =
    let first = c.in_ok-first.first in
    λ quoted h. rw (c.in_ok-file.ensures.text quoted h, behind_first c.in_ok-file.file first c.in_ok-first.ensures.read, c.infra_of.ensures.read)
    (made (joined first) c.read_others-others.result (others_at first.landmarks c.in_ok-file.file) (rw c.in_ok-first.ensures.same at c.read_others-others.ensures.read))
