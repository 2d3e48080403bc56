use Rattle.batch_command.proofs.Once.{no_flaw, one_flaw}
use Rattle.batch_command.proofs.laws.lists_are_judged_once.Goals as goal

pub returns : goal.returns
returns c =
    let numbered = c.numbers_are_one.ensures in record {
      one = λ known batch workers entries lines told other first second. one_flaw numbered known batch workers entries lines told other first second;
      either = λ known batch workers entries lines numbers told asked flaw. no_flaw numbered known batch workers entries lines numbers told asked flaw;
    }
