use Rattle.grant_journal.proofs.Counts.{front_bytes, header_bytes}
use Rattle.grant_journal.proofs.journal_text.laws.bytes_are_counted.Goals as goal

pub returns-clause-header : goal.returns-clause-header
returns-clause-header c = header_bytes

pub returns-clause-front : goal.returns-clause-front
returns-clause-front c = front_bytes
