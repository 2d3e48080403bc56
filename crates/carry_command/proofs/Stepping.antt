-- The steps of the command keep to its opening calls.
use Rattle.std.proofs.Common.{◌≡◌, ◌≢◌, ◌∙◌, ◌++◌, ℕ, zero, suc, List, [], ◌∷◌, Option, None, Some}
use Rattle.std.proofs.Common.{is_some, Result, Ok, Err, inl, inr, sym, ap, subst, take}
use Rattle.std.proofs.lemmas.List.{append_assoc}
use Rattle.outside_io.specs.Openings.{Opening, Opens as CallsOf, source_at, sink_at, disk_at}
use Rattle.outside_io.specs.declared.disks.Disk.{Ghosts as Disks}
use Rattle.outside_io.specs.declared.sinks.Sink.{Ghosts as Sinks}
use Rattle.outside_io.specs.declared.sources.Source.{Ghosts as Sources}
use Rattle.command_reports.specs.Scenes.{ChangesOnlySink, Scene}
use Rattle.command_reports.specs.Works.{Keeps, KeepsTo, Misses, OpensInTurn}
use Rattle.command_reports.specs.declared.refusals.Refusal.{Refusal}
use Rattle.command_reports.proofs.Steps.{alone, follows_keep, keeps_more, silent}
use Rattle.path_recover.specs.history.Legal.{Register}
use Rattle.command_files.specs.Files.{BaseStep, HasBaseFault, HasNetworkFault, IsBaseFile}
use Rattle.command_files.specs.Files.{IsNetworkFile, NetworkStep}
use Rattle.command_files.specs.declared.bases.BaseFile.{BaseFile}
use Rattle.command_files.specs.declared.files.FileKind.TheVariants as kind
use Rattle.command_files.specs.declared.networks.NetworkFile.{NetworkFile}
use Rattle.command_files.proofs.Kept.{file_keeps}
use Rattle.init_command.proofs.Rounds.{one_disk, stands_back}
use Rattle.carry_command.specs.Before.{BeforeStep}
use Rattle.carry_command.specs.Disks.{EmptyStep}
use Rattle.carry_command.specs.Lent.{IsLent, IsReturned}
use Rattle.carry_command.specs.Names.{Names}
use Rattle.carry_command.specs.Olds.{IsHeldOver, LentSays, OldStep, Over}
use Rattle.carry_command.specs.Prepared.{Prepares}
use Rattle.carry_command.specs.Works.{carry_calls, CarriesOver, Finds, FindsEmpty, left_calls}
use Rattle.carry_command.specs.Works.{LeftStep, ReadsBase, ReadsBefore, ReadsNetwork, ReadsOld}
use Rattle.carry_command.specs.Works.{writing_calls, WritesAll, WritesJournal}
use Rattle.carry_command.specs.declared.preparing.Prepared.{Prepared}
use Rattle.command_reports.proofs.Steps.{opens_both as calls_both}
use Rattle.command_files.proofs.Kept.{one_sink}

-- ---- which names the calls are not of

-- no call while the old disk is out is of another disk than the new one
pub misses_disk : (name journal : List ℕ) (left : Option (List ℕ)) → name ≢ journal → Misses (disk_at name) (left_calls left ++ disk_at journal ∷ [])
misses_disk name journal None differs = ((λ e. differs cc), tt)
misses_disk name journal (Some file) differs = ((λ e. cc), ((λ e. differs cc), tt))

-- and none is of another sink than that of the lines
pub misses_sink : (name journal : List ℕ) (left : Option (List ℕ)) → left ≢ Some name → Misses (sink_at name) (left_calls left ++ disk_at journal ∷ [])
misses_sink name journal None other = ((λ e. cc), tt)
misses_sink name journal (Some file) other = ((λ e. other cc), ((λ e. cc), tt))

-- ---- steps that open nothing, or one name

-- a step that left the outside alone made none of the calls, and at a refusal that is a beginning of them
stays : {Src Snk Dsk A : Type 0} (calls : List Opening) (old new : Scene Src Snk Dsk) (refusal : Refusal) → new ≡ old → KeepsTo {A = A} calls old new (Err refusal)
stays {Src = Src} {Snk = Snk} {Dsk = Dsk} {A = A} calls old new refusal same =
    subst (λ (s : Scene Src Snk Dsk). KeepsTo {A = A} calls old s (Err refusal)) (sym same) (record { keeps = keeps_more [] calls old old (alone old); opens = (zero, silent old.opened) })

still : {Src Snk Dsk A : Type 0} (old new : Scene Src Snk Dsk) (result : Result A Refusal) → new ≡ old → KeepsTo [] old new result
still {Src = Src} {Snk = Snk} {Dsk = Dsk} {A = A} old new (Ok it) same = subst (λ (s : Scene Src Snk Dsk). KeepsTo {A = A} [] old s (Ok it)) (sym same) (record { keeps = alone old; opens = silent old.opened })
still old new (Err refusal) same = stays [] old new refusal same

before_keeps : {Src Snk Dsk : Type 0} (source : Sources Src) (zones : ℕ) (name : List ℕ) (old new : Scene Src Snk Dsk) (result : Result BaseFile Refusal) → BeforeStep source zones name old new result → KeepsTo (source_at name ∷ []) old new result
before_keeps source zones name old new (Ok file) step = record {
  keeps = (file_keeps kind.Base source name (IsBaseFile zones) (HasBaseFault zones) old new step.read step.step).keeps;
  opens = step.step.only.opened;
}
before_keeps source zones name old new (Err refusal) step = record {
  keeps = (file_keeps kind.Base source name (IsBaseFile zones) (HasBaseFault zones) old new step.read step.step).keeps;
  opens = (1, step.step.only.opened);
}

left_keeps : {Src Snk Dsk : Type 0} (sink : Sinks Snk) (left : Option (List ℕ)) (lines : List ℕ) (old new : Scene Src Snk Dsk) (result : Result (Unit {0}) Refusal) → LeftStep sink left lines old new result → KeepsTo (left_calls left) old new result
left_keeps sink None lines old new result step = still old new result step.0
left_keeps sink (Some name) lines old new (Ok done) step = record { keeps = one_sink name old new step.only; opens = step.only.opened }
left_keeps sink (Some name) lines old new (Err refusal) step = record { keeps = one_sink name old new step.only; opens = (1, step.only.opened) }

journal_keeps : {Src Snk Dsk : Type 0} (disk : Disks Dsk) (names : Names) (prepared : Prepared) (old new : Scene Src Snk Dsk) (result : Result (List ℕ) Refusal) → WritesJournal disk names prepared old new result → KeepsTo (disk_at names.journal ∷ []) old new result
journal_keeps disk names prepared old new (Ok told) works = one_disk names.journal old new (Ok told) works.0.only
journal_keeps disk names prepared old new (Err refusal) works = one_disk names.journal old new (Err refusal) works.only

-- ---- a disk that is out while more is done

lent_keeps : {Src Snk Dsk : Type 0} (name : List ℕ) (calls : List Opening) (before after : Dsk) (old out done new : Scene Src Snk Dsk) → IsLent name before old out → Keeps calls out done → IsReturned name after done new → Keeps (disk_at name ∷ calls) old new
lent_keeps name calls before after old out done new lent keeps back = record {
  standing = stands_back name before old.standing out.standing done.standing new.standing lent.ready keeps.standing back.ready;
  sources = λ other misses. back.sources other ∙ (keeps.sources other misses.1 ∙ lent.sources other);
  sinks = λ other misses. back.sinks other ∙ (keeps.sinks other misses.1 ∙ lent.sinks other);
  disks = λ other misses. back.object.others other (λ same. misses.0 (ap disk_at (sym same))) ∙ (keeps.disks other misses.1 ∙ lent.object.others other (λ same. misses.0 (ap disk_at (sym same))));
  report = back.report ∙ (keeps.report ∙ lent.report);
}

lent_opens : {Src Snk Dsk A : Type 0} (name : List ℕ) (calls : List Opening) (old out done new : Scene Src Snk Dsk) (result : Result A Refusal) → CallsOf (disk_at name ∷ []) old.opened out.opened → OpensInTurn calls out done result → new.opened ≡ done.opened
    → OpensInTurn (disk_at name ∷ calls) old new result
lent_opens name calls old out done new (Ok it) first next same =
    subst (λ (now : Option (List Opening)). CallsOf (disk_at name ∷ calls) old.opened now) (sym same) (calls_both (disk_at name ∷ []) calls old.opened out.opened done.opened first next)
lent_opens name calls old out done new (Err refusal) first next same =
    (suc next.0, subst (λ (now : Option (List Opening)). CallsOf (disk_at name ∷ take next.0 calls) old.opened now) (sym same) (calls_both (disk_at name ∷ []) (take next.0 calls) old.opened out.opened done.opened first next.1))

module _ {Src Snk Dsk A : Type 0} (disk : Disks Dsk) (network : NetworkFile) (base : BaseFile) (name : List ℕ) (Next : Over Src Snk Dsk A) (calls : List Opening)
    (next_keeps : (history : Register) (old new : Scene Src Snk Dsk) (result : Result A Refusal) → Next history old new result → KeepsTo calls old new result) where
  said_keeps : (before after : Dsk) (old new : Scene Src Snk Dsk) (result : Result A Refusal) → LentSays disk network base name Next before after old new result → KeepsTo calls old new result
  said_keeps before after old new (Ok it) goes = next_keeps goes.history old new (Ok it) goes.next
  said_keeps before after old new (Err refusal) (inl refused) = stays calls old new refusal refused.same
  said_keeps before after old new (Err refusal) (inr goes) = next_keeps goes.history old new (Err refusal) goes.next

  held_keeps : (old new : Scene Src Snk Dsk) (result : Result A Refusal) → IsHeldOver disk network base name Next old new result → KeepsTo (disk_at name ∷ calls) old new result
  held_keeps old new result held =
      let inside = said_keeps held.before held.after held.out held.done result held.says in
      record {
        keeps = lent_keeps name calls held.before held.after old held.out held.done new held.lent inside.keeps held.returned;
        opens = lent_opens name calls old held.out held.done new result held.lent.opened inside.opens held.returned.opened;
      }

  pub old_step_keeps : (old new : Scene Src Snk Dsk) (result : Result A Refusal) → OldStep disk network base name Next old new result → KeepsTo (disk_at name ∷ calls) old new result
  old_step_keeps old new (Ok it) held = held_keeps old new (Ok it) held
  old_step_keeps old new (Err refusal) (inl shut) = record {
    keeps = keeps_more (disk_at name ∷ []) calls old new (one_disk {A = A} name old new (Err refusal) shut.only).keeps;
    opens = (1, shut.only.opened);
  }
  old_step_keeps old new (Err refusal) (inr held) = held_keeps old new (Err refusal) held

-- ---- the command

module _ {Src Snk Dsk : Type 0} (sink : Sinks Snk) (disk : Disks Dsk) (names : Names) where
  all_keep : (prepared : Prepared) (old new : Scene Src Snk Dsk) (result : Result (List ℕ) Refusal) → WritesAll sink disk names prepared old new result → KeepsTo (writing_calls names) old new result
  all_keep prepared old new result works =
      follows_keep (left_calls names.left) (disk_at names.journal ∷ []) (LeftStep sink names.left prepared.lines) (λ (done : Unit {0}). WritesJournal disk names prepared)
      (left_keeps sink names.left prepared.lines) (λ (done : Unit {0}). journal_keeps disk names prepared) old new result works

  pub over_keeps : (network : NetworkFile) (base : BaseFile) (history : Register) (old new : Scene Src Snk Dsk) (result : Result (List ℕ) Refusal) → CarriesOver sink disk names network base history old new result → KeepsTo (writing_calls names) old new result
  over_keeps network base history old new result works =
      follows_keep [] (writing_calls names) (Finds (Prepares network base history (is_some names.left))) (λ (prepared : Prepared). WritesAll sink disk names prepared)
      (λ before after said finds. still before after said finds.0) (λ (prepared : Prepared). all_keep prepared) old new result works

  old_keeps : (network : NetworkFile) (base before : BaseFile) (old new : Scene Src Snk Dsk) (result : Result (List ℕ) Refusal) → ReadsOld sink disk names network base before old new result → KeepsTo (disk_at names.from ∷ writing_calls names) old new result
  old_keeps network base before old new result works =
      old_step_keeps disk network before names.from (CarriesOver sink disk names network base) (writing_calls names) (over_keeps network base) old new result works

  empty_keeps : (network : NetworkFile) (base before : BaseFile) (old new : Scene Src Snk Dsk) (result : Result (List ℕ) Refusal) → FindsEmpty sink disk names network base before old new result
      → KeepsTo (disk_at names.journal ∷ disk_at names.from ∷ writing_calls names) old new result
  empty_keeps network base before old new result works =
      follows_keep (disk_at names.journal ∷ []) (disk_at names.from ∷ writing_calls names) (EmptyStep disk names.journal) (λ (done : Unit {0}). ReadsOld sink disk names network base before)
      (λ first after said step. one_disk names.journal first after said step.only) (λ (done : Unit {0}). old_keeps network base before) old new result works

module _ {Src Snk Dsk : Type 0} (source : Sources Src) (sink : Sinks Snk) (disk : Disks Dsk) (names : Names) where
  before_on : (network : NetworkFile) (base : BaseFile) (old new : Scene Src Snk Dsk) (result : Result (List ℕ) Refusal) → ReadsBefore source sink disk names network base old new result
      → KeepsTo (source_at names.from_base ∷ disk_at names.journal ∷ disk_at names.from ∷ writing_calls names) old new result
  before_on network base old new result works =
      follows_keep (source_at names.from_base ∷ []) (disk_at names.journal ∷ disk_at names.from ∷ writing_calls names) (BeforeStep source network.named.network.zones names.from_base) (λ (before : BaseFile). FindsEmpty sink disk names network base before)
      (before_keeps source network.named.network.zones names.from_base) (λ (before : BaseFile). empty_keeps sink disk names network base before) old new result works

  base_on : (network : NetworkFile) (old new : Scene Src Snk Dsk) (result : Result (List ℕ) Refusal) → ReadsBase source sink disk names network old new result
      → KeepsTo (source_at names.base ∷ source_at names.from_base ∷ disk_at names.journal ∷ disk_at names.from ∷ writing_calls names) old new result
  base_on network old new result works =
      follows_keep (source_at names.base ∷ []) (source_at names.from_base ∷ disk_at names.journal ∷ disk_at names.from ∷ writing_calls names) (BaseStep source network.named.network.zones names.base) (λ (base : BaseFile). ReadsBefore source sink disk names network base)
      (file_keeps kind.Base source names.base (IsBaseFile network.named.network.zones) (HasBaseFault network.named.network.zones)) (λ (base : BaseFile). before_on network base) old new result works

  pub carry_keeps : (old new : Scene Src Snk Dsk) (result : Result (List ℕ) Refusal) → ReadsNetwork source sink disk names old new result → KeepsTo (carry_calls names) old new result
  carry_keeps old new result works =
      follows_keep (source_at names.network ∷ []) (source_at names.base ∷ source_at names.from_base ∷ disk_at names.journal ∷ disk_at names.from ∷ writing_calls names) (NetworkStep source names.network) (λ (network : NetworkFile). ReadsBase source sink disk names network)
      (file_keeps kind.Network source names.network IsNetworkFile HasNetworkFault) (λ (network : NetworkFile). base_on network) old new result works
