use Rattle.std.proofs.Common.{rules}
use Rattle.std.proofs.lemmas.Fn.{filter_same}
use Rattle.std.specs.List.{list_any}
use Rattle.rail_types.specs.FirstClash.{clashes}
use Rattle.grant_log.proofs.clashes.clashing_of.Goals as goal

pub returns : goal.returns
returns c = filter_same _ (λ one. list_any (clashes one.0) c.args.claims.now) _ (λ x b f' k. search rules) _ _ c.retain.ensures.filtered
