use Rattle.json_fields.proofs.Spelled.{read_on-escaped, spelled}
use Rattle.json_fields.proofs.name_text.spellings.names_are_spelled_once.Goals as goal

pub returns-clause-spelled : goal.returns-clause-spelled
returns-clause-spelled c = spelled

pub returns-clause-read : goal.returns-clause-read
returns-clause-read c = read_on-escaped
