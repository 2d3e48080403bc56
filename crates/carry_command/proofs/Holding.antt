-- What is said of the old journal, by what was done while its disk was out.
use Rattle.std.proofs.Common.{ℕ, List, Result, Ok, Err, inr}
use Rattle.outside_io.specs.declared.disks.Disk.{Ghosts as Disks}
use Rattle.command_reports.specs.Scenes.{Scene}
use Rattle.command_reports.specs.declared.refusals.Refusal.{Refusal}
use Rattle.command_files.specs.declared.bases.BaseFile.{BaseFile}
use Rattle.command_files.specs.declared.networks.NetworkFile.{NetworkFile}
use Rattle.carry_command.specs.Olds.{GoesOver, IsHeldOver, LentSays, OldStep, Over}

module _ {Src Snk Dsk A : Type 0} (disk : Disks Dsk) (network : NetworkFile) (base : BaseFile) (name : List ℕ) (Next : Over Src Snk Dsk A) where
  pub goes_says : (before after : Dsk) (old new : Scene Src Snk Dsk) (result : Result A Refusal) → GoesOver disk network base Next before after old new result → LentSays disk network base name Next before after old new result
  goes_says before after old new (Ok it) goes = goes
  goes_says before after old new (Err refusal) goes = inr goes

  pub held_says : (old new : Scene Src Snk Dsk) (result : Result A Refusal) → IsHeldOver disk network base name Next old new result → OldStep disk network base name Next old new result
  held_says old new (Ok it) held = held
  held_says old new (Err refusal) held = inr held
