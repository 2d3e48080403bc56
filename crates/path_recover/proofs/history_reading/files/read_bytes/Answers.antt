use Rattle.std.proofs.lemmas.Result.{err_from_is_err_and}
use Rattle.path_recover.proofs.Renewed.{start-refused, used-found, walk-refused}
use Rattle.path_recover.proofs.history_reading.files.read_bytes.Goals as goal

pub returns-clause-used : goal.returns-clause-used
returns-clause-used c =
    let entries = c.in_ok-found.found.history.entries in
    let network = c.args.network.now in
    let base = c.args.base.now in
    used-found network base entries c.in_ok-found.found.gate (c.bytes_are_counted.ensures.header network base c.told-network c.told-base) (c.bytes_are_counted.ensures.front network base entries c.told-network c.told-base) c.in_ok-found.ensures.found.place

pub returns-in_err-left-clause-refused : goal.returns-in_err-left-clause-refused
returns-in_err-left-clause-refused c =
    let p = err_from_is_err_and c.from_residual.result c.from_residual.ensures.1 in
    rw (p.1, p.2) ((start-refused c.args.empty.timetable c.args.version c.args.network.now c.args.base.now c.args.file.now c.in_err-left.field-0.0 c.in_err-left.ensures.refused).0)

pub returns-in_err-left-clause-quiet : goal.returns-in_err-left-clause-quiet
returns-in_err-left-clause-quiet c =
    let p = err_from_is_err_and c.from_residual.result c.from_residual.ensures.1 in
    rw (p.1, p.2) ((start-refused c.args.empty.timetable c.args.version c.args.network.now c.args.base.now c.args.file.now c.in_err-left.field-0.0 c.in_err-left.ensures.refused).1)

pub returns-in_err-found-clause-refused : goal.returns-in_err-found-clause-refused
returns-in_err-found-clause-refused c =
    let p = err_from_is_err_and c.from_residual-in_err-found.result c.from_residual-in_err-found.ensures.1 in
    rw (p.1, p.2) ((walk-refused c.args.empty.timetable c.args.version c.args.network.now c.args.base.now c.args.file.now c.in_ok-left.left.now c.in_err-found.field-0.0 c.in_ok-left.ensures.passed c.in_err-found.ensures.refused).0)

pub returns-in_err-found-clause-quiet : goal.returns-in_err-found-clause-quiet
returns-in_err-found-clause-quiet c =
    let p = err_from_is_err_and c.from_residual-in_err-found.result c.from_residual-in_err-found.ensures.1 in
    rw (p.1, p.2) ((walk-refused c.args.empty.timetable c.args.version c.args.network.now c.args.base.now c.args.file.now c.in_ok-left.left.now c.in_err-found.field-0.0 c.in_ok-left.ensures.passed c.in_err-found.ensures.refused).1)
