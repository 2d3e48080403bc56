use Rattle.ask_turns.proofs.Short.{answered, prints}
use Rattle.ask_turns.proofs.laws.found_paths_are_short.Goals as goal

pub returns : goal.returns
returns c = record {
  answered = answered c.networks_without_flaws.ensures.counts
      c.the_first_broken_rule_is_told.ensures c.contents_are_compared.ensures;
  prints = prints c.networks_without_flaws.ensures.counts
      c.the_first_broken_rule_is_told.ensures c.contents_are_compared.ensures;
}
