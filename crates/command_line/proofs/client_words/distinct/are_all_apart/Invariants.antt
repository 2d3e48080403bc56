use Rattle.std.proofs.Common.{length}
use Rattle.std.specs.List.{AllPairs}
use Rattle.command_line.specs.Clients.{AreApart}
use Rattle.command_line.proofs.client_words.distinct.are_all_apart.Given as goal

abbrev pub invariant-loop-first : goal.invariant-loop-first
invariant-loop-first l = record {
  whole : AllPairs AreApart l.rest → AllPairs AreApart l.clients;
  rest : AllPairs AreApart l.clients → AllPairs AreApart l.rest;
}

abbrev pub decreases-loop-first : goal.decreases-loop-first
decreases-loop-first l = length l.rest
