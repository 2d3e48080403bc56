use Rattle.std.proofs.Common.{Bor, map}
use Rattle.label_search.specs.declared.nearing.Near.{Near}
use Rattle.label_search.proofs.lent_limits.Aheads.summed.Goals as goal

pub returns-clause-ahead : goal.returns-clause-ahead
returns-clause-ahead c =
    c.aheads_are_consistent.ensures.ahead c.args.chart.now.spots c.args.calls.now (map (λ (near : Bor Near). near.now) c.args.nears.now) c.args.rests.now
    c.requires.dwells c.requires.nears c.requires.rests

pub returns-clause-consistent : goal.returns-clause-consistent
returns-clause-consistent c =
    c.aheads_are_consistent.ensures.consistent c.args.chart.now.spots c.args.calls.now (map (λ (near : Bor Near). near.now) c.args.nears.now) c.args.rests.now
    c.requires.dwells c.requires.nears c.requires.rests
