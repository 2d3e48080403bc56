-- What the beginning of a file tells.
use Rattle.std.specs.Prelude.{◌≡◌, ◌≢◌, ◌⊎◌, ℕ, ◌<◌, List, [], ◌++◌, length, take, Some, slice_get}
use Rattle.std.specs.Int.{w32, to_be_bytes}
use Rattle.grant_journal.specs.Headers.{header_of_version, magic}
use Rattle.path_recover.specs.declared.journal_reading.faults.OpenFault.{OpenFault}
use Rattle.path_recover.specs.declared.journal_reading.faults.OpenFault.TheVariants.{Empty}
use Rattle.path_recover.specs.declared.journal_reading.faults.OpenFault.TheVariants.{OldVersion}
use Rattle.path_recover.specs.declared.journal_reading.faults.OpenFault.TheVariants.{NotAJournal}
use Rattle.path_recover.specs.declared.journal_reading.faults.OpenFault.TheVariants.{OtherNetwork}
use Rattle.path_recover.specs.declared.journal_reading.faults.OpenFault.TheVariants.{OtherBase}

-- the twelve bytes with which each journal of a version begins
abbrev pub start_of : ℕ → List ℕ
start_of version = magic ++ to_be_bytes w32 version

-- the file has a byte at this offset, the first that isn't as at the start
pub record DiffersAt (start file : List ℕ) (at : ℕ) : Type 0 where
  pub before : take at file ≡ take at start
  pub byte : ℕ
  pub here : slice_get file at ≡ Some byte
  pub within : at < length start
  pub other : slice_get start at ≢ Some byte

-- as far as both go, the file begins as this start
abbrev pub NoneDiffers : List ℕ → List ℕ → Type 0
NoneDiffers start file = take (length start) file ≡ take (length file) start

-- the file ends in the header, and none of its bytes differs
pub record EndsEarly (start file : List ℕ) (at : ℕ) : Type 0 where
  pub none : NoneDiffers start file
  pub short : length file < 76
  pub end : at ≡ length file

-- the file begins as one of version 1, and another version is asked for
pub record IsOldVersion (version : ℕ) (file : List ℕ) : Type 0 where
  pub other : version ≢ 1
  pub rest : List ℕ
  pub split : file ≡ start_of 1 ++ rest

-- the file has a header of this version with these digests
pub record HasDigests (version : ℕ) (network base file : List ℕ) : Type 0 where
  pub left : List ℕ
  pub split : file ≡ header_of_version version network base ++ left
  pub network_size : length network ≡ 32
  pub base_size : length base ≡ 32

-- the file is no journal of this version
pub record IsNoJournal (version : ℕ) (file : List ℕ) (at : ℕ) : Type 0 where
  pub some : file ≢ []
  pub new : ¬ IsOldVersion version file
  pub place : DiffersAt (start_of version) file at ⊎ EndsEarly (start_of version) file at

-- why the beginning of a file is refused that should be a journal of
-- this version with these digests
abbrev pub StartIsRefused : ℕ → List ℕ → List ℕ → List ℕ → OpenFault → Type 0
StartIsRefused version network base file Empty = file ≡ []
StartIsRefused version network base file OldVersion = IsOldVersion version file
StartIsRefused version network base file (NotAJournal at) = IsNoJournal version file at
StartIsRefused version network base file (OtherNetwork had found) =
    (found ≡ network) × (had ≢ network)
    × (other : List ℕ) × HasDigests version had other file
StartIsRefused version network base file (OtherBase had found) =
    (found ≡ base) × (had ≢ base) × HasDigests version network had file
StartIsRefused version network base file other = ⊥
