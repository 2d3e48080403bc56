use Rattle.std.proofs.Common.{◌≡◌, ◌∷◌, ◌∙◌, [], List, ap, subst, sym}
use Rattle.std.specs.Prelude.{IfNone, IfSome}
use Rattle.label_search.specs.declared.lent.FirstMove.{FirstMove}
use Rattle.label_search.specs.declared.plans.Move.{Move}
use Rattle.label_search.specs.Lent.{moves_lent}
use Rattle.label_search.proofs.lent.LentMoves.split_first.Goals as goal

pub returns-in-Charted-clause-some : goal.returns-in-Charted-clause-some
returns-in-Charted-clause-some c =
    subst (λ (moves : List Move). IfSome c.first_charted.result
    (λ (parts : FirstMove). moves ≡ parts.step ∷ parts.behind))
    (ap moves_lent (sym c.in-Charted.is) ∙ c.self.view_is) c.first_charted.ensures.some

pub returns-in-Charted-clause-none : goal.returns-in-Charted-clause-none
returns-in-Charted-clause-none c =
    subst (λ (moves : List Move). IfNone c.first_charted.result (moves ≡ []))
    (ap moves_lent (sym c.in-Charted.is) ∙ c.self.view_is) c.first_charted.ensures.none
