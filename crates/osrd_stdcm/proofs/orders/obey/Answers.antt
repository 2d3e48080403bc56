use Rattle.std.proofs.Common.{◌≢◌, subst, sym}
use Rattle.command_reports.specs.Scenes.{scene}
use Rattle.command_words.specs.Orders.{IsWithinLimits}
use Rattle.carry_command.specs.Names.{Names}
use Rattle.osrd_stdcm.specs.Carries.{LeavesCarry}
use Rattle.osrd_stdcm.specs.Orders.{OrderLeaves}
use Rattle.osrd_stdcm.proofs.Fitting.{clients_fit}
use Rattle.osrd_stdcm.proofs.orders.obey.Goals as goal

pub run_serve-requires-clause-clients : goal.run_serve-requires-clause-clients
run_serve-requires-clause-clients g c κs within =
    let limits = subst IsWithinLimits c.in-Serve.is c.requires.limits in
    rw (c.as_slice.ensures, c.as_slice-in-Serve.ensures) (clients_fit _ _ limits.0 limits.1)

pub returns-clause-leaves : goal.returns-clause-leaves
returns-clause-leaves g c =
    let old = scene g.O.Outside c.args.outside.now in
    let new = scene g.O.Outside c.run_carry.new.outside in
    let names = c.names_of-names.result in
    let limits = subst IsWithinLimits c.in-Carry.is c.requires.limits in
    let apart : names.from ≢ names.journal =
    subst (λ (n : Names). n.from ≢ n.journal) (sym c.names_of-names.ensures) limits.journals in
    let left : LeavesCarry g.O.Src.Source g.O.Dsk.Disk names old new = record {
      new_disk = c.run_carry.ensures.moments apart;
      old_disk = c.run_carry.ensures.read apart;
      clean = c.run_carry.ensures.clean;
      sinks = c.run_carry.ensures.sinks;
    } in
    subst (λ order. OrderLeaves g.O.Src.Source g.O.Dsk.Disk order old new) (sym c.in-Carry.is)
    (subst (λ (n : Names). LeavesCarry g.O.Src.Source g.O.Dsk.Disk n old new) c.names_of-names.ensures left)
