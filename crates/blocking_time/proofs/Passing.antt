-- Where the head is, by the numbers of runs and from leg to leg.
use Rattle.std.proofs.Common.{◌≡◌, ◌∙◌, sym, ap, refl, ℕ, zero, suc, ◌+◌, ◌-◌, ◌<◌, ◌≤◌, Bool, true, false, cond, nat_le, List, [], ◌∷◌, length, get_or, take, drop, find, sum_by, Some, arith, length-drop, append_assoc, flat_map, ◌++◌}
use Rattle.std.proofs.lemmas.Bool.Decides.{nat_tests}
use Rattle.std.proofs.lemmas.List.{get_or-drop, take_more}
use Rattle.std.proofs.lemmas.List.Sums.{sum_by-append, sum_by-cons}
use Rattle.std.specs.List.{range_with_len}
use Rattle.rail_types.specs.declared.tracks.Network.{Network}
use Rattle.rail_types.specs.declared.entries.Settings.{Settings}
use Rattle.rail_types.specs.declared.paths.Path.{Path}
use Rattle.blocking_time.specs.Runs.{block_at, block_of, run_at}
use Rattle.rail_types.specs.declared.paths.Claim.{Claim}
use Rattle.blocking_time.proofs.Finding.{range_on}
use Rattle.blocking_time.specs.Stairway.{claims_of_run, gone_at, gone_in, metres_between}
use Rattle.blocking_time.specs.Legs.{gone, legs_of}
use Rattle.blocking_time.proofs.Suffixes.{gone_here, gone_on, gone_end, no_run}

sum_more : {X : Type 0} (f : X → ℕ) (xs : List X) (i : ℕ) (d : X) → i < length xs → sum_by f (take (i + 1) xs) ≡ sum_by f (take i xs) + f (get_or xs i d)
sum_more f xs i d within =
    let one = sum_by-cons f (get_or xs i d) [] in
    let none : sum_by f [] ≡ 0 = refl in
    ap (sum_by f) (take_more xs i d within) ∙ (sum_by-append f (take i xs) (get_or xs i d ∷ []) ∙ omega (arith, one, none))

pub metres_more : (net : Network) (path : Path) (k m : ℕ) → k ≤ m → m < length path.runs → metres_between net path k (m + 1) ≡ metres_between net path k m + (block_of net path m).length_m
metres_more net path k m from within =
    let more : m + 1 - k ≡ m - k + 1 = omega arith in
    let here : k + (m - k) ≡ m = omega arith in
    let inside : m - k < length (drop k path.runs) = simp length-drop (omega arith) in
    ap (λ n. sum_by (λ run. (block_at net run.block).length_m) (take n (drop k path.runs))) more
    ∙ (sum_more (λ run. (block_at net run.block).length_m) (drop k path.runs) (m - k) no_run inside
    ∙ ap (λ run. metres_between net path k m + (block_at net run.block).length_m) (get_or-drop k path.runs (m - k) no_run ∙ ap (λ n. get_or path.runs n no_run) here))

module _ (net : Network) (settings : Settings) (path : Path) (k metres : ℕ) where
  abbrev reaches : ℕ → Bool
  reaches m = nat_le metres (metres_between net path k (m + 1))

  gone_past : (rest m : ℕ) → k ≤ m → m + rest ≡ length path.runs
      → gone path.train settings (run_at path (m - 1)).leave (drop m (legs_of net path)) (metres - metres_between net path k m) ≡ gone_in net settings path k metres (find reaches (range_with_len m rest))
  gone_past zero m from all =
      let end : m ≡ length path.runs = omega (arith, all) in
      gone_end net settings path (run_at path (m - 1)).leave m _ (omega arith) ∙ ap (λ n. (run_at path (n - 1)).leave) end
  gone_past (suc rest) m from all = go (reaches m) refl (gone_past rest (m + 1) (omega arith) (omega (arith, all)))
    where
      more : metres_between net path k (m + 1) ≡ metres_between net path k m + (block_of net path m).length_m
      more = metres_more net path k m from (omega (arith, all))

      go : (b : Bool) → reaches m ≡ b
          → gone path.train settings (run_at path (m + 1 - 1)).leave (drop (m + 1) (legs_of net path)) (metres - metres_between net path k (m + 1)) ≡ gone_in net settings path k metres (find reaches (range_with_len (m + 1) rest))
          → gone path.train settings (run_at path (m - 1)).leave (drop m (legs_of net path)) (metres - metres_between net path k m) ≡ gone_in net settings path k metres (cond (reaches m) (Some m) (find reaches (range_with_len (m + 1) rest)))
      go true is again =
          let within : metres ≤ metres_between net path k (m + 1) = grind (arith, nat_tests) in
          rw is (gone_here net settings path (run_at path (m - 1)).leave m (metres - metres_between net path k m) (omega (arith, all)) (omega (arith, more)))
      go false is again =
          let beyond : metres_between net path k (m + 1) < metres = grind (arith, nat_tests) in
          let less : m + 1 - 1 ≡ m = omega arith in
          let left : metres - metres_between net path k m - (block_of net path m).length_m ≡ metres - metres_between net path k (m + 1) = omega (arith, more) in
          rw is (gone_on net settings path (run_at path (m - 1)).leave m (metres - metres_between net path k m) (omega (arith, all)) (omega (arith, more))
          ∙ (ap (λ n. gone path.train settings (run_at path m).leave (drop (m + 1) (legs_of net path)) n) left
          ∙ (ap (λ n. gone path.train settings (run_at path n).leave (drop (m + 1) (legs_of net path)) (metres - metres_between net path k (m + 1))) (sym less) ∙ again)))

pub gone_by_numbers : (net : Network) (settings : Settings) (path : Path) (k metres : ℕ) → k ≤ length path.runs → gone path.train settings (run_at path (k - 1)).leave (drop k (legs_of net path)) metres ≡ gone_at net settings path k metres
gone_by_numbers net settings path k metres within =
    let none : metres_between net path k k ≡ 0 = (let zero_long : k - k ≡ 0 = omega arith in rw zero_long refl) in
    let all : metres - metres_between net path k k ≡ metres = omega (arith, none) in
    sym (rw all refl) ∙ gone_past net settings path k metres (length path.runs - k) k (omega arith) (omega arith)

-- the claims so far with those of one run more
pub claims_on : (net : Network) (settings : Settings) (path : Path) (k : ℕ) (before after all : List Claim) → k < length path.runs
    → before ++ flat_map (claims_of_run net settings path) (range_with_len k (length path.runs - k)) ≡ all
    → after ≡ before ++ claims_of_run net settings path k
    → after ++ flat_map (claims_of_run net settings path) (range_with_len (k + 1) (length path.runs - (k + 1))) ≡ all
claims_on net settings path k before after all within invariant more =
    rw (more, append_assoc) (sym (ap (λ numbers. before ++ flat_map (claims_of_run net settings path) numbers) (range_on k (length path.runs) within)) ∙ invariant)
