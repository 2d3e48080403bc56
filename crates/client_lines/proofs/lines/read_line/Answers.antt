use Rattle.client_lines.specs.Cuts.{fields_of}
use Rattle.client_lines.specs.Lines.{a_line}
use Rattle.client_lines.proofs.FormLaws.{ok_spells, err_refuses, gives_ok, gives_err}
use Rattle.client_lines.proofs.Meanings.{NameLaws}
use Rattle.client_lines.proofs.lines.read_line.Goals as goal

pub returns-clause-spelled : goal.returns-clause-spelled
returns-clause-spelled c =
    let laws : NameLaws = record { spelled = c.names_are_spelled_once.ensures.spelled; read = c.names_are_spelled_once.ensures.read } in
    ok_spells laws (a_line c.args.known.now) (fields_of c.args.line.now) c.read_all.result c.read_all.ensures

pub returns-clause-read : goal.returns-clause-read
returns-clause-read c said spells =
    let laws : NameLaws = record { spelled = c.names_are_spelled_once.ensures.spelled; read = c.names_are_spelled_once.ensures.read } in
    gives_ok laws (a_line c.args.known.now) (fields_of c.args.line.now) c.read_all.result said spells c.read_all.ensures

pub returns-clause-wrong : goal.returns-clause-wrong
returns-clause-wrong c =
    let laws : NameLaws = record { spelled = c.names_are_spelled_once.ensures.spelled; read = c.names_are_spelled_once.ensures.read } in
    err_refuses laws (a_line c.args.known.now) (fields_of c.args.line.now) c.read_all.result c.read_all.ensures

pub returns-clause-refused : goal.returns-clause-refused
returns-clause-refused c field wrong =
    let laws : NameLaws = record { spelled = c.names_are_spelled_once.ensures.spelled; read = c.names_are_spelled_once.ensures.read } in
    gives_err laws (a_line c.args.known.now) (fields_of c.args.line.now) c.read_all.result field wrong c.read_all.ensures
