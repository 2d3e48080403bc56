-- The history that a file stands for.
use Rattle.std.specs.Prelude.{◌⊎◌, ℕ, ◌+◌, ◌≤◌, List, [], ◌∷◌, ◌++◌, length, map, sum_by, take}
use Rattle.std.specs.Int.{w32, to_be_bytes}
use Rattle.std.specs.List.{flat_map}
use Rattle.rail_types.specs.declared.entries.Entry.{Entry}
use Rattle.entry_codec.specs.Body.{body_of}
use Rattle.grant_journal.specs.Front.{EndsBehind}

-- four bytes of the body's length, and the body
abbrev pub counted : List ℕ → List ℕ
counted body = to_be_bytes w32 (length body) ++ body

-- the bodies, each behind an open gate
abbrev pub opened : List (List ℕ) → List ℕ
opened bodies = flat_map (λ body. 1 ∷ counted body) bodies

-- a file of these bodies, up to its first gate that isn't open
abbrev pub front_of : List ℕ → List (List ℕ) → List ℕ
front_of header bodies = header ++ opened bodies

-- the file reads as these bodies behind this header: then comes a gate that isn't open,
-- and later bytes mean nothing
abbrev pub ReadsAs : List ℕ → List (List ℕ) → List ℕ → Type 0
ReadsAs header bodies file = EndsBehind (front_of header bodies) file

-- the file reads as the bodies before or after
abbrev pub ReadsAsEither : List ℕ → List (List ℕ) → List (List ℕ) → List ℕ → Type 0
ReadsAsEither header before after file = ReadsAs header before file ⊎ ReadsAs header after file

-- the file reads as a prefix of these bodies, which has the first of them up to this count
pub record ReadsAsPrefix (header : List ℕ) (bodies : List (List ℕ)) (least : ℕ)
    (file : List ℕ) : Type 0 where
  pub count : ℕ
  pub enough : least ≤ count
  pub within : count ≤ length bodies
  pub reads : ReadsAs header (take count bodies) file

-- the bodies of a history
abbrev pub bodies_of : List Entry → List (List ℕ)
bodies_of entries = map body_of entries

-- a record of an entry: the body's length, the body, and a closed gate
abbrev pub record_of : Entry → List ℕ
record_of entry = counted (body_of entry) ++ 0 ∷ []

-- how many bytes of a journal count that stands for these entries: the header with the
-- first gate, and a record of each
abbrev pub bytes_of : List Entry → ℕ
bytes_of entries = 77 + sum_by (λ entry. length (body_of entry) + 5) entries
