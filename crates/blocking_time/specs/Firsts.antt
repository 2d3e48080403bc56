-- What it means that a broken rule is the first.
use Rattle.std.specs.Prelude.{◌≡◌, ◌⊎◌, ℕ, ◌<◌, length}
use Rattle.rail_types.specs.declared.tracks.Network.{Network}
use Rattle.rail_types.specs.declared.trains.Request.{Request}
use Rattle.rail_types.specs.declared.entries.Settings.{Settings}
use Rattle.rail_types.specs.declared.entries.Wanted.{Wanted}
use Rattle.rail_types.specs.declared.entries.Wanted.TheVariants.{Asked, Pinned}
use Rattle.rail_types.specs.declared.paths.Path.{Path}
use Rattle.blocking_time.specs.declared.rules.Broken.{Broken}
use Rattle.blocking_time.specs.Rules.{AskedRule, Breaks, BreaksRequest, KeepsRequestRules}
use Rattle.blocking_time.specs.Rules.{KeepsRunRules, RunRule}
use Rattle.blocking_time.specs.Broken.{asked_rule_number, run_rule_number}

-- the run breaks this rule of runs, no earlier run breaks any, and it breaks none before this one
pub record IsFirstRun
    (net : Network) (settings : Settings) (path : Path) (k : ℕ) (rule : RunRule) : Type 0 where
  pub within : k < length path.runs
  pub breaks : Breaks net settings path rule k
  pub runs : (j : ℕ) (other : RunRule) → j < k → ¬ Breaks net settings path other j
  pub rules :
      (other : RunRule) → run_rule_number other < run_rule_number rule
      → ¬ Breaks net settings path other k

-- the run breaks this rule of the request, no run breaks an earlier one, and
-- no earlier run breaks this one
pub record IsFirstAsked
    (net : Network) (request : Request) (path : Path) (k : ℕ) (rule : AskedRule) : Type 0 where
  pub within : k < length path.runs
  pub breaks : BreaksRequest net request path rule k
  pub rules :
      (j : ℕ) (other : AskedRule) → j < length path.runs
      → asked_rule_number other < asked_rule_number rule → ¬ BreaksRequest net request path other j
  pub runs : (j : ℕ) → j < k → ¬ BreaksRequest net request path rule j

-- the first of the rules of runs is told
abbrev pub IsFirstOfRuns : Network → Settings → Path → Broken → Type 0
IsFirstOfRuns net settings path at =
    (rule : RunRule) × (at.rule ≡ run_rule_number rule) × IsFirstRun net settings path at.run rule

-- the first of the rules of a request is told
abbrev pub IsFirstOfRequest : Network → Request → Path → Broken → Type 0
IsFirstOfRequest net request path at =
    (rule : AskedRule) × (at.rule ≡ asked_rule_number rule)
    × IsFirstAsked net request path at.run rule

-- which run and rule are told of a path that keeps not all
abbrev pub IsFirstBroken : Network → Settings → Path → Wanted → Broken → Type 0
IsFirstBroken net settings path Pinned at = IsFirstOfRuns net settings path at
IsFirstBroken net settings path (Asked request) at =
    IsFirstOfRuns net settings path at
    ⊎ (KeepsRunRules net settings path × IsFirstOfRequest net request path at)

-- a path keeps what it is held to
abbrev pub Keeps : Network → Settings → Path → Wanted → Type 0
Keeps net settings path Pinned = KeepsRunRules net settings path
Keeps net settings path (Asked request) =
    KeepsRunRules net settings path × KeepsRequestRules net request path
