use Rattle.std.proofs.Common.{◌≡◌, take}
use Rattle.command_reports.specs.Writing.{TookAll}
use Rattle.batch_command.specs.Writing.{text_of_all}
use Rattle.batch_command.proofs.list_replies.writing.write_texts.Given as goal

abbrev pub invariant-loop-text : goal.invariant-loop-text
invariant-loop-text g l = record {
  lines : l.lines ≡ l.text-index;
  took : TookAll g.T.Sink (text_of_all (take l.text-index l.texts)) l.fn.sink l.sink;
}
