use Rattle.command_line.proofs.Spellings.{lacks_cut}
use Rattle.command_line.proofs.proof_words.belonging.is_file_name.Goals as goal

pub returns-in-Some : goal.returns-in-Some
returns-in-Some c = (λ is. cc, λ named. absurd (lacks_cut 58 _ _ _ named.no_colon c.in-Some.ensures.found.parts))
