-- What is told of bytes by the fault of their network.
use Rattle.std.proofs.Common.{◌≡◌, ◌⊎◌, ℕ, List, inl, inr, refl}
use Rattle.rail_types.specs.declared.infra_types.infras.Infra.{Infra}
use Rattle.signal_blocks.specs.Networks.{NetTells}
use Rattle.signal_blocks.specs.Texts.{fault_text}
use Rattle.signal_blocks.specs.declared.faults.NetFault.{NetFault}
use Rattle.command_reports.specs.declared.refusals.Refusal.{Refusal}
use Rattle.command_reports.specs.declared.refusals.Refusal.TheVariants.{Memory}
use Rattle.command_files.specs.Files.{HasNetworkFault, IsInfraOf, TellsNet}
use Rattle.command_files.specs.Steps.{IsFaulty}
use Rattle.command_files.specs.declared.files.FileKind.TheVariants.{Network}

pub net_says : (bytes : List ℕ) (infra : Infra) (fault : NetFault) (refusal : Refusal) → IsInfraOf bytes infra → NetTells infra fault → TellsNet fault refusal → IsFaulty Network HasNetworkFault bytes refusal ⊎ (refusal ≡ Memory)
net_says bytes infra fault refusal read tells (inl told) = inl (record {
  text = fault_text fault;
  has = inr (record {
    infra = infra;
    fault = fault;
    read = read;
    tells = tells;
    some = told.0;
    text_is = refl;
  });
  told = told.1;
})
net_says bytes infra fault refusal read tells (inr wanted) = inr wanted
