-- What is ahead of a target, as it is handed on.
use Rattle.std.proofs.Common.{◌≡◌, ◌∙◌, ap, subst, sym}
use Rattle.label_search.specs.declared.plans.Target.{Target}
use Rattle.label_search.specs.declared.limits.Ahead.{Ahead}
use Rattle.label_search.specs.declared.limits.Limits.{Limits}
use Rattle.label_search.specs.declared.searches.Search.{Search}
use Rattle.label_search.specs.declared.firsts.Outlook.{Outlook}
use Rattle.label_search.specs.Limits.{IsAhead, ahead_to}
use Rattle.label_search.specs.Outlooks.{IsOutlook}
use Rattle.label_search.specs.Search.{IsFurther}

module _ (old new : Search) (further : IsFurther old new) (target : Target) where
  pub ahead_further : (there : Ahead) → there ≡ ahead_to old.limits.ahead target → there ≡ ahead_to new.limits.ahead target
  ahead_further there is = subst (λ (l : Limits). there ≡ ahead_to l.ahead target) (sym further.limits) is

  pub outlook_further : (outlook : Outlook) → outlook.target ≡ target → outlook.ahead ≡ ahead_to old.limits.ahead target → IsAhead outlook.ahead → IsOutlook new.limits.ahead outlook
  outlook_further outlook same is ahead = record {
    value = ahead_further outlook.ahead is ∙ ap (ahead_to new.limits.ahead) (sym same);
    ahead = ahead;
  }
