use Rattle.std.proofs.Common.{inl}
use Rattle.carry_command.proofs.disks.find_empty.Goals as goal

pub returns-in-Err-NotOpened : goal.returns-in-Err-NotOpened
returns-in-Err-NotOpened g c =
    let said = rw c.in-Err-NotOpened.field-0-is at c.in-Err-NotOpened.ensures.says in
    record {
      step = record {
        says = inl (record { unready = said.0; same = said.1; rose = said.2; told = c.not_opened.ensures });
        only = c.in-Err-NotOpened.ensures.only;
      };
    }
