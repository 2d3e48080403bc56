-- A file of version 1 in the version of today.
use Rattle.std.proofs.Common.{◌≡◌, ℕ, ◌+◌, List, [], ◌∷◌, ◌++◌, length, take, Option, None, Some, Result, Ok, Err, refl, sym, ap, ◌∙◌, subst, arith, append_assoc, length-append}
use Rattle.std.specs.Prelude.{IfErr, IfOk, IfSome, slice_set}
use Rattle.std.proofs.lemmas.List.{take_at, nil_from_length}
use Rattle.rail_types.specs.declared.entries.Entry.{Entry}
use Rattle.rail_types.specs.Timetables.{Timetable}
use Rattle.grant_journal.specs.Headers.{header_of, header_of_version}
use Rattle.grant_journal.specs.Histories.{bodies_of, bytes_of, front_of, opened}
use Rattle.path_recover.specs.Files.{IsFound}
use Rattle.outside_io.specs.declared.disks.Disk.{Ghosts}
use Rattle.path_recover.specs.declared.journal_reading.faults.OpenFault.{OpenFault}
use Rattle.path_recover.specs.declared.journal_reading.faults.OpenFault.TheVariants.{ReadFault, Empty, OldVersion, NotAJournal, OtherNetwork, OtherBase, Damaged, Illegal, Memory}
use Rattle.path_recover.specs.Beginning.{IsAsItWas, WasEmpty}
use Rattle.path_recover.specs.Failing.{HasFaultCause, IsAsFaulty, IsNotOfDisk, IsUnread}
use Rattle.path_recover.specs.Files.{IsRefused, TellsHistory, WalkIsRefused}
use Rattle.path_recover.specs.Starts.{StartIsRefused}
use Rattle.path_recover.specs.Moving.{HasMoveCause, IsMoved, IsMoveRefused, IsUnwritten, move_fault}

pub if-some : {X : Type 0} (P Q : X → Type 0) (o : Option X) → ((x : X) → o ≡ Some x → P x → Q x) → IfSome o P → IfSome o Q
if-some P Q None more holds = tt
if-some P Q (Some x) more holds = more x refl holds

with_version : (network base behind : List ℕ) → slice_set (header_of_version 1 network base ++ behind) 11 2 ≡ header_of network base ++ behind
with_version network base behind = refl

header_size : (network base : List ℕ) → length network ≡ 32 → length base ≡ 32 → length (header_of_version 1 network base) ≡ 76
header_size network base n b = omega (arith, length-append network base)

pub is-renewed : (timetable : Timetable) (network base file bytes : List ℕ) (entries : List Entry) (gate count : ℕ) → length network ≡ 32 → length base ≡ 32 → IsFound timetable 1 network base file entries gate → bytes ≡ slice_set (take gate file) 11 2 ++ 0 ∷ [] → count ≡ length entries → IsMoved timetable network base count (λ image. image ≡ bytes) file
is-renewed timetable network base file bytes entries gate count n b found is counted =
    let header = header_of_version 1 network base in
    let all = opened (bodies_of entries) in
    let read = found.2 in
    let split : file ≡ (header ++ all) ++ read.rest = found.1 ∙ ap (λ (l : List ℕ). header ++ l) read.passes.split ∙ sym (append_assoc header all read.rest) in
    let size : length (header ++ all) ≡ gate = omega (arith, length-append header all, header_size network base n b, read.place) in
    let front : take gate file ≡ header ++ all = ap (take gate) split ∙ take_at (header ++ all) read.rest gate size in
    let whole : bytes ≡ (header_of network base ++ all) ++ 0 ∷ [] = is ∙ ap (λ (l : List ℕ). slice_set l 11 2 ++ 0 ∷ []) front ∙ ap (λ (l : List ℕ). l ++ 0 ∷ []) (with_version network base all) in
    record {
      entries = entries;
      gate = gate;
      found = found;
      count_is = counted;
      reads = λ image same. record { gate = 0; rest = []; split = same ∙ whole; closed = λ e. absurd (omega (arith, e)) };
      exact = λ image same. same ∙ whole;
    }

-- an image that is the bytes reads as they do
pub moved-on : (timetable : Timetable) (network base file bytes : List ℕ) (count : ℕ) (P : List ℕ → Type 0) → ((image : List ℕ) → P image → image ≡ bytes) → IsMoved timetable network base count (λ image. image ≡ bytes) file → IsMoved timetable network base count P file
moved-on timetable network base file bytes count P is moved = record {
  entries = moved.entries;
  gate = moved.gate;
  found = moved.found;
  count_is = moved.count_is;
  reads = λ image has. moved.reads image (is image has);
  exact = λ image has. moved.exact image (is image has);
}

pub was-empty : (contents : Option (List ℕ)) (len : ℕ) → len ≡ 0 → IfSome contents (λ bytes. len ≡ length bytes) → IfSome contents (λ bytes. bytes ≡ [])
was-empty contents len none counts = if-some (λ bytes. len ≡ length bytes) (λ bytes. bytes ≡ []) contents (λ bytes told count. nil_from_length bytes (omega (arith, count, none))) counts

-- the gate that was found is the last byte that counts
pub used-found : (network base : List ℕ) (entries : List Entry) (gate : ℕ) → length (header_of network base) ≡ 76 → length (front_of (header_of network base) (bodies_of entries)) + 1 ≡ bytes_of entries → gate ≡ 76 + length (opened (bodies_of entries)) → gate + 1 ≡ bytes_of entries
used-found network base entries gate size counted place = omega (arith, size, counted, length-append (header_of network base) (opened (bodies_of entries)), place)

-- what is told where the old disk is refused: why, that nothing was written, and the counts
pub refused-from : {D E : Type 0} (new_disk : Ghosts D) (old_disk : Ghosts E) (timetable : Timetable) (network base : List ℕ) (disk : D) (from : E) (fault : OpenFault) → WasEmpty new_disk disk → IfSome (old_disk.contents from) (λ file. IsRefused timetable 1 network base file fault) → IsMoveRefused new_disk old_disk timetable network base disk from (move_fault fault)
refused-from new_disk old_disk timetable network base disk from ReadFault empty refused = (empty, refused)
refused-from new_disk old_disk timetable network base disk from Empty empty refused = (empty, refused)
refused-from new_disk old_disk timetable network base disk from OldVersion empty refused = (empty, refused)
refused-from new_disk old_disk timetable network base disk from (NotAJournal at) empty refused = (empty, refused)
refused-from new_disk old_disk timetable network base disk from (OtherNetwork had found) empty refused = (empty, refused)
refused-from new_disk old_disk timetable network base disk from (OtherBase had found) empty refused = (empty, refused)
refused-from new_disk old_disk timetable network base disk from (Damaged at) empty refused = (empty, refused)
refused-from new_disk old_disk timetable network base disk from (Illegal entry) empty refused = (empty, refused)
refused-from new_disk old_disk timetable network base disk from Memory empty refused = tt

pub unwritten-from : {D : Type 0} (disk : Ghosts D) (old new : D) (fault : OpenFault) → IsAsItWas disk old new → IsUnwritten disk old new (move_fault fault)
unwritten-from disk old new ReadFault same = same
unwritten-from disk old new Empty same = same
unwritten-from disk old new OldVersion same = same
unwritten-from disk old new (NotAJournal at) same = same
unwritten-from disk old new (OtherNetwork had found) same = same
unwritten-from disk old new (OtherBase had found) same = same
unwritten-from disk old new (Damaged at) same = same
unwritten-from disk old new (Illegal entry) same = same
unwritten-from disk old new Memory same = same

pub cause-from : (before now old_before old_now : ℕ) (fault : OpenFault) → now ≡ before → HasFaultCause old_before old_now fault → HasMoveCause before now old_before old_now (move_fault fault)
cause-from before now old_before old_now ReadFault same cause = (same, cause)
cause-from before now old_before old_now Empty same cause = (same, cause)
cause-from before now old_before old_now OldVersion same cause = (same, cause)
cause-from before now old_before old_now (NotAJournal at) same cause = (same, cause)
cause-from before now old_before old_now (OtherNetwork had found) same cause = (same, cause)
cause-from before now old_before old_now (OtherBase had found) same cause = (same, cause)
cause-from before now old_before old_now (Damaged at) same cause = (same, cause)
cause-from before now old_before old_now (Illegal entry) same cause = (same, cause)
cause-from before now old_before old_now Memory same cause = (same, cause)

-- a refusal of the bytes that were read is one of the contents
pub whole-from : {T : Type 0} (timetable : Timetable) (version : ℕ) (network base read : List ℕ) (result : Result T OpenFault) (contents : Option (List ℕ)) → ((entries : List Entry) (fault : OpenFault) → TellsHistory timetable version network base read entries → IsRefused timetable version network base read fault → IsUnread fault) → IfErr result (IsRefused timetable version network base read) → IfSome contents (λ bytes. read ≡ bytes) → IfErr result (λ fault. IfSome contents (λ file. (entries : List Entry) → TellsHistory timetable version network base file entries → IsUnread fault))
whole-from timetable version network base read (Ok found) contents law refused same = tt
whole-from timetable version network base read (Err fault) contents law refused same = if-some (λ bytes. read ≡ bytes) (λ file. (entries : List Entry) → TellsHistory timetable version network base file entries → IsUnread fault) contents (λ file told is entries tells. law entries fault (subst (λ (f : List ℕ). TellsHistory timetable version network base f entries) (sym is) tells) refused) same

-- what holds of the bytes that were read holds of the contents
pub read-ok : {A B : Type 0} (P : A → B → Type 0) (result : Result A OpenFault) (contents : Option B) (read : B) → IfSome contents (λ bytes. read ≡ bytes) → IfOk result (λ it. P it read) → IfOk result (λ it. IfSome contents (P it))
read-ok P (Ok it) None read same holds = tt
read-ok P (Ok it) (Some bytes) read same holds = subst (P it) same holds
read-ok P (Err fault) contents read same holds = tt

pub read-err : {A B : Type 0} (P : B → OpenFault → Type 0) (result : Result A OpenFault) (contents : Option B) (read : B) → IfSome contents (λ bytes. read ≡ bytes) → IfErr result (P read) → IfErr result (λ fault. IfSome contents (λ bytes. P bytes fault))
read-err P (Ok it) contents read same holds = tt
read-err P (Err fault) None read same holds = tt
read-err P (Err fault) (Some bytes) read same holds = subst (λ b. P b fault) same holds

-- the count stays where the fault isn't one of the disk
pub quiet-cause : {A : Type 0} (before now : ℕ) (result : Result A OpenFault) → now ≡ before → IfErr result IsNotOfDisk → IsAsFaulty before now result
quiet-cause before now (Ok it) same quiet = same
quiet-cause before now (Err ReadFault) same quiet = absurd quiet
quiet-cause before now (Err Empty) same quiet = same
quiet-cause before now (Err OldVersion) same quiet = same
quiet-cause before now (Err (NotAJournal at)) same quiet = same
quiet-cause before now (Err (OtherNetwork had found)) same quiet = same
quiet-cause before now (Err (OtherBase had found)) same quiet = same
quiet-cause before now (Err (Damaged at)) same quiet = same
quiet-cause before now (Err (Illegal entry)) same quiet = same
quiet-cause before now (Err Memory) same quiet = same

-- a refusal of the beginning of a file, and one of what stands behind its header
pub start-refused : (timetable : Timetable) (version : ℕ) (network base file : List ℕ) (fault : OpenFault) → StartIsRefused version network base file fault → IsRefused timetable version network base file fault × IsNotOfDisk fault
start-refused timetable version network base file ReadFault why = absurd why
start-refused timetable version network base file Empty why = (why, tt)
start-refused timetable version network base file OldVersion why = (why, tt)
start-refused timetable version network base file (NotAJournal at) why = (why, tt)
start-refused timetable version network base file (OtherNetwork had found) why = (why, tt)
start-refused timetable version network base file (OtherBase had found) why = (why, tt)
start-refused timetable version network base file (Damaged at) why = absurd why
start-refused timetable version network base file (Illegal entry) why = absurd why
start-refused timetable version network base file Memory why = absurd why

pub walk-refused : (timetable : Timetable) (version : ℕ) (network base file left : List ℕ) (fault : OpenFault) → file ≡ header_of_version version network base ++ left → WalkIsRefused timetable version left fault → IsRefused timetable version network base file fault × IsNotOfDisk fault
walk-refused timetable version network base file left ReadFault split why = absurd why
walk-refused timetable version network base file left Empty split why = absurd why
walk-refused timetable version network base file left OldVersion split why = absurd why
walk-refused timetable version network base file left (NotAJournal at) split why = absurd why
walk-refused timetable version network base file left (OtherNetwork had found) split why = absurd why
walk-refused timetable version network base file left (OtherBase had found) split why = absurd why
walk-refused timetable version network base file left (Damaged at) split why = ((left, split, why), tt)
walk-refused timetable version network base file left (Illegal entry) split why = ((left, split, why), tt)
walk-refused timetable version network base file left Memory split why = (tt, tt)
