use Rattle.std.proofs.Common.{◌∙◌, sym}
use Rattle.label_search.proofs.endings.is_shut.Goals as goal

pub returns-then-not-is_call : goal.returns-then-not-is_call
returns-then-not-is_call c holds = record {
  calls = λ leads. absurd (let never = c.if-not-is_call.true in let same = c.is_call.ensures in cc);
}

pub is_never_free-requires-clause-run : goal.is_never_free-requires-clause-run
is_never_free-requires-clause-run c = c.requires.way.run (sym c.is_call.ensures ∙ c.if-not-is_call.false)

pub is_never_free-requires-clause-pieces : goal.is_never_free-requires-clause-pieces
is_never_free-requires-clause-pieces c = c.requires.way.pieces (sym c.is_call.ensures ∙ c.if-not-is_call.false)

pub returns : goal.returns
returns c holds = record { calls = λ leads. c.is_never_free.ensures holds }
