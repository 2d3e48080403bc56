-- The table of a stairway, line by line: zone, from, to, run, each aligned right.
use Rattle.std.specs.Prelude.{ℕ, ◌+◌, ◌-◌, List, [], ◌∷◌, ◌++◌, codes, decimal, drop, flat_map}
use Rattle.std.specs.Prelude.{length, map, replicate, take}
use Rattle.std.specs.Fmt.{signed_decimal}
use Rattle.blocking_time.specs.Runs.{block_at, run_numbers}
use Rattle.blocking_time.specs.Stairway.{claims_of_run}
use Rattle.rail_types.specs.declared.entries.Settings.{Settings}
use Rattle.rail_types.specs.declared.paths.Claim.{Claim}
use Rattle.rail_types.specs.declared.paths.Path.{Path}
use Rattle.rail_types.specs.declared.tracks.Network.{Network}

-- a field at the right end of so many places; a wider one takes the places that it needs
abbrev pub aligned : ℕ → List ℕ → List ℕ
aligned width field = replicate (width - length field) 32 ++ field

-- four fields and the end of the line
abbrev pub stairs_line : List ℕ → List ℕ → List ℕ → List ℕ → List ℕ
stairs_line zone from to run =
    aligned 6 zone ++ aligned 9 from ++ aligned 9 to ++ aligned 5 run ++ 10 ∷ []

-- a claim of the run of that number
abbrev pub claim_line : ℕ → Claim → List ℕ
claim_line run claim =
    stairs_line (decimal claim.zone) (signed_decimal claim.span.from)
    (signed_decimal claim.span.to) (decimal run)

abbrev pub claim_lines : ℕ → List Claim → List ℕ
claim_lines run claims = flat_map (claim_line run) claims

-- the claims of a run, cell by cell
abbrev pub run_lines : Network → Settings → Path → ℕ → List ℕ
run_lines net settings path run = claim_lines run (claims_of_run net settings path run)

abbrev pub stairs_header : List ℕ
stairs_header = stairs_line (codes "zone") (codes "from") (codes "to") (codes "run")

-- the header, and a line for each claim of the stairway, in its order
abbrev pub stairs_text : Network → Settings → Path → List ℕ
stairs_text net settings path =
    stairs_header ++ flat_map (run_lines net settings path) (run_numbers path)

-- *inside*: how many claims each run has
abbrev pub counts_of : Network → Path → List ℕ
counts_of net path = map (λ run. length (block_at net run.block).cells) path.runs

-- *inside*: claims cut into those of runs from a number on, each run with its count
abbrev pub cut_lines : ℕ → List ℕ → List Claim → List ℕ
cut_lines run [] claims = []
cut_lines run (count ∷ counts) claims =
    claim_lines run (take count claims) ++ cut_lines (run + 1) counts (drop count claims)
