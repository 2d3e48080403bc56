-- The steps of the command keep to its opening calls, and only read the journal.
use Rattle.std.proofs.Common.{◌≡◌, ℕ, List, [], ◌∷◌, Vec, Result, Ok, Err, inl, inr, sym, subst}
use Rattle.std.specs.Global.{Global}
use Rattle.outside_io.specs.Openings.{source_at, disk_at}
use Rattle.outside_io.specs.Places.{Place, hidden, kept, lent, empty, Replaces}
use Rattle.outside_io.specs.declared.disks.Disk.{Ghosts as Disks}
use Rattle.outside_io.specs.declared.sources.Source.{Ghosts as Sources}
use Rattle.command_reports.specs.Scenes.{Scene}
use Rattle.proof_texts.specs.lines.Names.{Names}
use Rattle.path_recover.specs.history.Legal.{Register}
use Rattle.path_recover.specs.Failing.{IsOnlyRead}
use Rattle.command_reports.specs.Works.{KeepsTo}
use Rattle.command_reports.specs.declared.refusals.Refusal.{Refusal}
use Rattle.command_reports.proofs.Steps.{follows_keep}
use Rattle.command_files.specs.Files.{BaseStep, HasBaseFault, HasNetworkFault, HasTrainFault}
use Rattle.command_files.specs.Files.{IsBaseFile, IsNetworkFile, IsTrainFile, NetworkStep}
use Rattle.command_files.specs.Files.{TrainStep}
use Rattle.command_files.specs.declared.bases.BaseFile.{BaseFile}
use Rattle.command_files.specs.declared.files.FileKind.TheVariants as kind
use Rattle.command_files.specs.declared.networks.NetworkFile.{NetworkFile}
use Rattle.command_files.proofs.Kept.{file_keeps}
use Rattle.print_commands.specs.Journals.{IsHistoryOn, IsRefusedOn, JournalSays, JournalStep}
use Rattle.print_commands.specs.Steps.{Tells, WasOnlyRead}
use Rattle.print_commands.proofs.Printed.{journal_keeps}
use Rattle.rail_types.specs.declared.trains.Train.{Train}
use Rattle.check_command.specs.Checks.{TellsProofs}
use Rattle.check_command.specs.Files.{ProofFileStep}
use Rattle.check_command.specs.Works.{check_calls, names_of, plain_of, ReadsBase, ReadsJournal}
use Rattle.check_command.specs.Works.{ReadsNetwork, ReadsProofs, ReadsTrains}
use Rattle.command_files.proofs.Kept.{one_source}
use Rattle.print_commands.proofs.Printed.{tells_keep}

-- ---- opening calls

proof_keeps : {Src Snk Dsk : Type 0} (source : Sources Src) (name : List ℕ) (old new : Scene Src Snk Dsk) (result : Result (Vec ℕ Global) Refusal) → ProofFileStep source name old new result → KeepsTo (source_at name ∷ []) old new result
proof_keeps source name old new (Ok bytes) step = record { keeps = one_source name old new step.only; opens = step.only.opened }
proof_keeps source name old new (Err refusal) step = record { keeps = one_source name old new step.only; opens = (1, step.only.opened) }

-- ---- places of disks

replaces_more : {Dsk : Type 0} (P Q : Dsk → Dsk → Type 0) → ((before after : Dsk) → P before after → Q before after) → (old new : Place Dsk) → Replaces P old new → Replaces Q old new
replaces_more P Q more hidden new replaced = replaced
replaces_more P Q more (kept before) new replaced = (replaced.0, replaced.1, more before replaced.0 replaced.2)
replaces_more P Q more lent new replaced = absurd replaced
replaces_more P Q more empty new replaced = absurd replaced

still_then_read : {Dsk : Type 0} (disk : Disks Dsk) (old between new : Place Dsk) → between ≡ old → WasOnlyRead disk between new → WasOnlyRead disk old new
still_then_read {Dsk} disk old between new still read = subst (λ (place : Place Dsk). WasOnlyRead disk place new) still read

pub read_then_still : {Dsk : Type 0} (disk : Disks Dsk) (old between new : Place Dsk) → WasOnlyRead disk old between → new ≡ between → WasOnlyRead disk old new
read_then_still {Dsk} disk old between new read still = subst (λ (place : Place Dsk). WasOnlyRead disk old place) (sym still) read

module _ {Src Snk Dsk : Type 0} (source : Sources Src) (disk : Disks Dsk) where
  proofs_keep : (proof : List ℕ) (known : Names) (history : Register) (old new : Scene Src Snk Dsk) (result : Result (List ℕ) Refusal) → ReadsProofs source proof known history old new result → KeepsTo (source_at proof ∷ []) old new result
  proofs_keep proof known history old new result works =
      follows_keep (source_at proof ∷ []) [] (ProofFileStep source proof) (λ (bytes : Vec ℕ Global). Tells (TellsProofs known history.timetable history.entries bytes.items))
      (proof_keeps source proof) (λ (bytes : Vec ℕ Global). tells_keep (TellsProofs known history.timetable history.entries bytes.items)) old new result works

  journal_on : (journal proof : List ℕ) (network : NetworkFile) (trains : List Train) (base : BaseFile) (old new : Scene Src Snk Dsk) (result : Result (List ℕ) Refusal) → ReadsJournal source disk journal proof network trains base old new result
      → KeepsTo (disk_at journal ∷ source_at proof ∷ []) old new result
  journal_on journal proof network trains base old new result works =
      follows_keep (disk_at journal ∷ []) (source_at proof ∷ []) (JournalStep disk (plain_of network) base journal) (λ (history : Register). ReadsProofs source proof (names_of network trains) history)
      (journal_keeps disk (plain_of network) base journal) (λ (history : Register). proofs_keep proof (names_of network trains) history) old new result works

  base_on : (base journal proof : List ℕ) (network : NetworkFile) (trains : List Train) (old new : Scene Src Snk Dsk) (result : Result (List ℕ) Refusal) → ReadsBase source disk base journal proof network trains old new result
      → KeepsTo (source_at base ∷ disk_at journal ∷ source_at proof ∷ []) old new result
  base_on base journal proof network trains old new result works =
      follows_keep (source_at base ∷ []) (disk_at journal ∷ source_at proof ∷ []) (BaseStep source network.named.network.zones base) (λ (file : BaseFile). ReadsJournal source disk journal proof network trains file)
      (file_keeps kind.Base source base (IsBaseFile network.named.network.zones) (HasBaseFault network.named.network.zones)) (λ (file : BaseFile). journal_on journal proof network trains file) old new result works

  trains_on : (trains base journal proof : List ℕ) (network : NetworkFile) (old new : Scene Src Snk Dsk) (result : Result (List ℕ) Refusal) → ReadsTrains source disk trains base journal proof network old new result
      → KeepsTo (source_at trains ∷ source_at base ∷ disk_at journal ∷ source_at proof ∷ []) old new result
  trains_on trains base journal proof network old new result works =
      follows_keep (source_at trains ∷ []) (source_at base ∷ disk_at journal ∷ source_at proof ∷ []) (TrainStep source trains) (λ (read : List Train). ReadsBase source disk base journal proof network read)
      (file_keeps kind.Trains source trains IsTrainFile HasTrainFault) (λ (read : List Train). base_on base journal proof network read) old new result works

  pub check_keeps : (network trains base journal proof : List ℕ) (old new : Scene Src Snk Dsk) (result : Result (List ℕ) Refusal) → ReadsNetwork source disk network trains base journal proof old new result
      → KeepsTo (check_calls network trains base journal proof) old new result
  check_keeps network trains base journal proof old new result works =
      follows_keep (source_at network ∷ []) (source_at trains ∷ source_at base ∷ disk_at journal ∷ source_at proof ∷ []) (NetworkStep source network) (λ (file : NetworkFile). ReadsTrains source disk trains base journal proof file)
      (file_keeps kind.Network source network IsNetworkFile HasNetworkFault) (λ (file : NetworkFile). trains_on trains base journal proof file) old new result works

  -- ---- the disk of the journal

  said_read : (network : NetworkFile) (base : BaseFile) (name : List ℕ) (old new : Scene Src Snk Dsk) (result : Result Register Refusal) → JournalSays disk network base name old new result → WasOnlyRead disk (old.disks name) (new.disks name)
  said_read network base name old new (Ok history) says =
      inr (replaces_more (IsHistoryOn disk network base history.entries) (IsOnlyRead disk) (λ before after on. on.read) (old.disks name) (new.disks name) says.read)
  said_read network base name old new (Err refusal) (inl unopened) = inl (unopened.same name)
  said_read network base name old new (Err refusal) (inr refused) =
      inr (replaces_more (IsRefusedOn disk network base refused.fault) (IsOnlyRead disk) (λ before after on. on.read) (old.disks name) (new.disks name) refused.left)

  journal_read : (journal proof : List ℕ) (network : NetworkFile) (trains : List Train) (base : BaseFile) (old new : Scene Src Snk Dsk) (result : Result (List ℕ) Refusal) → ReadsJournal source disk journal proof network trains base old new result
      → WasOnlyRead disk (old.disks journal) (new.disks journal)
  journal_read journal proof network trains base old new (Ok line) (inl stopped) = absurd stopped
  journal_read journal proof network trains base old new (Err refusal) (inl stopped) = said_read (plain_of network) base journal old new (Err refusal) stopped.says
  journal_read journal proof network trains base old new result (inr goes) =
      read_then_still disk (old.disks journal) (goes.between.disks journal) (new.disks journal) (said_read (plain_of network) base journal old goes.between (Ok goes.given) goes.first.says)
      ((proofs_keep proof (names_of network trains) goes.given goes.between new result goes.next).keeps.disks journal ((λ e. cc), tt))

  base_read : (base journal proof : List ℕ) (network : NetworkFile) (trains : List Train) (old new : Scene Src Snk Dsk) (result : Result (List ℕ) Refusal) → ReadsBase source disk base journal proof network trains old new result
      → WasOnlyRead disk (old.disks journal) (new.disks journal)
  base_read base journal proof network trains old new (Ok line) (inl stopped) = absurd stopped
  base_read base journal proof network trains old new (Err refusal) (inl stopped) = inl (stopped.only.disks journal)
  base_read base journal proof network trains old new result (inr goes) =
      still_then_read disk (old.disks journal) (goes.between.disks journal) (new.disks journal) (goes.first.only.disks journal) (journal_read journal proof network trains goes.given goes.between new result goes.next)

  trains_read : (trains base journal proof : List ℕ) (network : NetworkFile) (old new : Scene Src Snk Dsk) (result : Result (List ℕ) Refusal) → ReadsTrains source disk trains base journal proof network old new result
      → WasOnlyRead disk (old.disks journal) (new.disks journal)
  trains_read trains base journal proof network old new (Ok line) (inl stopped) = absurd stopped
  trains_read trains base journal proof network old new (Err refusal) (inl stopped) = inl (stopped.only.disks journal)
  trains_read trains base journal proof network old new result (inr goes) =
      still_then_read disk (old.disks journal) (goes.between.disks journal) (new.disks journal) (goes.first.only.disks journal) (base_read base journal proof network goes.given goes.between new result goes.next)

  pub check_read : (network trains base journal proof : List ℕ) (old new : Scene Src Snk Dsk) (result : Result (List ℕ) Refusal) → ReadsNetwork source disk network trains base journal proof old new result → WasOnlyRead disk (old.disks journal) (new.disks journal)
  check_read network trains base journal proof old new (Ok line) (inl stopped) = absurd stopped
  check_read network trains base journal proof old new (Err refusal) (inl stopped) = inl (stopped.only.disks journal)
  check_read network trains base journal proof old new result (inr goes) =
      still_then_read disk (old.disks journal) (goes.between.disks journal) (new.disks journal) (goes.first.only.disks journal) (trains_read trains base journal proof goes.given goes.between new result goes.next)
