use Rattle.client_lines.proofs.Asking.{line_asked}
use Rattle.client_lines.proofs.laws.asks_spell_requests.Goals as goal

pub returns : goal.returns
returns c known fields line number request spells is = line_asked known number request fields line spells is
