use Rattle.std.proofs.Common.{◌∙◌, All, ap, subst, sym}
use Rattle.label_search.specs.declared.limits.Limits.{Limits}
use Rattle.label_search.specs.Limits.{IsAhead, ahead_at}
use Rattle.label_search.proofs.lent_limits.LentLimits.ahead_at.Goals as goal

pub at-requires : goal.at-requires
at-requires c = subst (λ (limits : Limits). All IsAhead limits.ahead) (sym c.self.view_is) c.requires

pub returns-clause-value : goal.returns-clause-value
returns-clause-value c = c.at.ensures.value ∙ ap (λ (limits : Limits). ahead_at limits.ahead c.args.place) c.self.view_is
