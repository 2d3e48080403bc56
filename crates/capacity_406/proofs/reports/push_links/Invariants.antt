use Rattle.std.proofs.Common.{◌≡◌, ◌++◌, drop, flat_map}
use Rattle.capacity_406.specs.Report.{later_line}
use Rattle.capacity_406.proofs.reports.push_links.Given as goal

abbrev pub invariant-loop-link : goal.invariant-loop-link
invariant-loop-link l = l.to.items ++ flat_map (later_line l.told) (drop l.link-index l.links) ≡ l.fn.to.items ++ flat_map (later_line l.told) l.links
