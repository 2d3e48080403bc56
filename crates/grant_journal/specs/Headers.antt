-- The bytes at the beginning of a journal: what it is, in which version,
-- and to which files it belongs.
use Rattle.std.specs.Prelude.{ℕ, List, ◌++◌, codes}
use Rattle.std.specs.Int.{w32, to_be_bytes}

-- the letters with which each journal begins
abbrev pub magic : List ℕ
magic = codes "STDCMJNL"

-- the letters, the version, and the digests of the network's file and of the base timetable's
abbrev pub header_of_version : ℕ → List ℕ → List ℕ → List ℕ
header_of_version version network base = magic ++ to_be_bytes w32 version ++ network ++ base

-- the header of a journal as it is written today
abbrev pub header_of : List ℕ → List ℕ → List ℕ
header_of network base = header_of_version 2 network base
