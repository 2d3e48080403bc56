-- Refusals of a journal as reports write them.
use Rattle.std.specs.Prelude.{ℕ, List, ◌++◌, Option, None, Some, codes, decimal}
use Rattle.hex.specs.Hex.{encode_lower}
use Rattle.path_recover.specs.declared.journal_reading.faults.OpenFault.{OpenFault}
use Rattle.path_recover.specs.declared.journal_reading.faults.OpenFault.TheVariants.{ReadFault}
use Rattle.path_recover.specs.declared.journal_reading.faults.OpenFault.TheVariants.{Empty}
use Rattle.path_recover.specs.declared.journal_reading.faults.OpenFault.TheVariants.{OldVersion}
use Rattle.path_recover.specs.declared.journal_reading.faults.OpenFault.TheVariants.{NotAJournal}
use Rattle.path_recover.specs.declared.journal_reading.faults.OpenFault.TheVariants.{OtherNetwork}
use Rattle.path_recover.specs.declared.journal_reading.faults.OpenFault.TheVariants.{OtherBase}
use Rattle.path_recover.specs.declared.journal_reading.faults.OpenFault.TheVariants.{Damaged}
use Rattle.path_recover.specs.declared.journal_reading.faults.OpenFault.TheVariants.{Illegal}
use Rattle.path_recover.specs.declared.journal_reading.faults.OpenFault.TheVariants.{Memory}

-- the digest that the journal has, and the one that was found, in hexadecimal digits
abbrev pub digests_text : List ℕ → List ℕ → List ℕ
digests_text had found = encode_lower had ++ codes " found " ++ encode_lower found

-- the text of a refusal; a fault of the disk and want of memory are none of the journal
abbrev pub fault_text : OpenFault → Option (List ℕ)
fault_text ReadFault = None
fault_text Empty = Some (codes "empty")
fault_text OldVersion = Some (codes "version 1")
fault_text (NotAJournal at) = Some (codes "not a journal at " ++ decimal at)
fault_text (OtherNetwork had found) = Some (codes "network " ++ digests_text had found)
fault_text (OtherBase had found) = Some (codes "base " ++ digests_text had found)
fault_text (Damaged at) = Some (codes "damaged at " ++ decimal at)
fault_text (Illegal entry) = Some (codes "entry " ++ decimal entry ++ codes " illegal")
fault_text Memory = None

-- the text of a journal that is not begun, since its disk has so many bytes
abbrev pub not_empty_text : ℕ → List ℕ
not_empty_text len = codes "not empty " ++ decimal len
