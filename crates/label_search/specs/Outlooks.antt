-- Inside: what is ahead of a target, as it is handed on.
use Rattle.std.specs.Prelude.{◌≡◌, List}
use Rattle.label_search.specs.declared.limits.Ahead.{Ahead}
use Rattle.label_search.specs.declared.firsts.Outlook.{Outlook}
use Rattle.label_search.specs.Limits.{IsAhead, ahead_to}

-- it tells what the list says of its target
pub record IsOutlook (all : List Ahead) (outlook : Outlook) : Type 0 where
  pub value : outlook.ahead ≡ ahead_to all outlook.target
  pub ahead : IsAhead outlook.ahead
