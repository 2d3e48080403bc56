-- Claims that are cut into those of runs, by how many each has, are those of the runs.
use Rattle.std.proofs.Common.{◌≡◌, ◌∙◌, ap, arith, refl, sym, ℕ, zero, suc, ◌+◌, ◌<◌, List, ◌++◌, length, map, flat_map, get_or}
use Rattle.std.specs.List.{range_with_len}
use Rattle.std.proofs.Math.Seq.{drop-append_seam, take-append_seam}
use Rattle.std.proofs.lemmas.List.{ext_get_or, get_or-map, length-map}
use Rattle.std.proofs.lemmas.List.FromFn.{get_or-map-range_with_len, length-map-range_with_len}
use Rattle.blocking_time.specs.Runs.{block_at, run_numbers}
use Rattle.blocking_time.specs.Stairway.{claims_of_path, claims_of_run}
use Rattle.rail_types.specs.declared.entries.Settings.{Settings}
use Rattle.rail_types.specs.declared.paths.Claim.{Claim}
use Rattle.rail_types.specs.declared.paths.Path.{Path}
use Rattle.rail_types.specs.declared.tracks.Network.{Network}
use Rattle.stairway_print.specs.Stairs.{claim_lines, counts_of, cut_lines, run_lines}

cut : (claims : ℕ → List Claim) (n k : ℕ)
    → cut_lines k (map (λ j. length (claims j)) (range_with_len k n)) (flat_map claims (range_with_len k n))
    ≡ flat_map (λ j. claim_lines j (claims j)) (range_with_len k n)
cut claims zero k = refl
cut claims (suc n) k =
    let rest : List Claim = flat_map claims (range_with_len (k + 1) n) in
    (rw (take-append_seam (claims k) rest, drop-append_seam (claims k) rest) (ap (λ text. claim_lines k (claims k) ++ text) (cut claims n (k + 1))))

counted : {A : Type 0} (count : A → ℕ) (default : A) (all : List A) (by : ℕ → ℕ)
    → ((i : ℕ) → by i ≡ count (get_or all i default))
    → map count all ≡ map by (range_with_len 0 (length all))
counted count default all by each =
    ext_get_or 0 (map count all) (map by (range_with_len 0 (length all)))
    (length-map all count ∙ sym (length-map-range_with_len by 0 (length all)))
    (λ i within.
    let there : i < length all = rw (sym (length-map all count)) within in
    get_or-map count all i default 0 there ∙ (sym (each i) ∙ sym (get_or-map-range_with_len by 0 (length all) i i 0 there (omega arith))))

pub counts_are : (net : Network) (settings : Settings) (path : Path)
    → counts_of net path ≡ map (λ k. length (claims_of_run net settings path k)) (run_numbers path)
counts_are net settings path =
    counted (λ run. length (block_at net run.block).cells) _ path.runs (λ k. length (claims_of_run net settings path k))
    (λ k. length-map _ _)

pub cut_whole : (net : Network) (settings : Settings) (path : Path)
    → cut_lines 0 (counts_of net path) (claims_of_path net settings path)
    ≡ flat_map (run_lines net settings path) (run_numbers path)
cut_whole net settings path =
    rw (counts_are net settings path) (cut (claims_of_run net settings path) (length path.runs) 0)
