use Rattle.std.proofs.lemmas.Result.{on_ok_weaker}
use Rattle.label_search.proofs.Growth.{further_none}
use Rattle.label_search.proofs.searches.go_on_at_once.Goals as goal

pub returns-then-place_at-ne0-clause-further : goal.returns-then-place_at-ne0-clause-further
returns-then-place_at-ne0-clause-further c = further_none _

pub wait-requires-clause-ticks : goal.wait-requires-clause-ticks
wait-requires-clause-ticks c = c.requires.front.ticks

pub returns-clause-reached : goal.returns-clause-reached
returns-clause-reached c = on_ok_weaker c.wait.result (λ all none tick held. all tick held) c.wait.ensures.reached
