use Rattle.std.specs.Prelude.{◌≡◌}
use Rattle.label_search.specs.Search.{IsSearch, IsStarted}
use Rattle.label_search.specs.Pending.{AreInHand}
use Rattle.label_search.proofs.firsts.take_up_all.Given as goal

abbrev pub invariant-loop : goal.invariant-loop
invariant-loop l = record {
  search : IsSearch l.plan l.trip l.book l.search;
  started : IsStarted l.plan l.trip l.search;
  limits : l.search.limits ≡ l.fn.search.limits;
  in_hand : AreInHand l.plan l.trip l.book l.search l.queue;
}
