use Rattle.std.proofs.Common.{◌≡◌, ◌∙◌, Some, sym}
use Rattle.signal_blocks.specs.Faults.{railway_fault}
use Rattle.signal_blocks.specs.Networks.{HasFault}
use Rattle.signal_blocks.proofs.Whole.{blocks_tell}
use Rattle.signal_blocks.proofs.networks.network_with.Goals as goal

pub returns-in_ok-told_blocks-in-Some-clause-fault : goal.returns-in_ok-told_blocks-in-Some-clause-fault
returns-in_ok-told_blocks-in-Some-clause-fault c =
    let first : railway_fault c.args.railway.now ≡ Some c.in-Some.fault = sym c.in_ok-fault.ensures ∙ c.in-Some.is in
    let has : HasFault c.args.infra.now c.in-Some.fault = record {
      layout = c.args.graph.now;
      railway = c.args.railway.now;
      is = c.requires.railway;
      first = first;
    } in
    rw c.in_ok-told_blocks-in-Some.ensures (blocks_tell c.args.infra.now c.in-Some.fault has)
