use Rattle.ask_turns.proofs.Passing.{earlier_pass, refusals_pass}
use Rattle.ask_turns.proofs.certificates.laws.certificates_pass.Goals as goal

pub returns-clause-refused : goal.returns-clause-refused
returns-clause-refused c = refusals_pass

pub returns-clause-earlier : goal.returns-clause-earlier
returns-clause-earlier c = earlier_pass c.windows_change_no_places.ensures c.a_path_is_a_list_of_moves.ensures
