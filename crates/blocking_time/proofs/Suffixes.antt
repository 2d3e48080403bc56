-- The legs of a path from a number on.
use Rattle.std.proofs.Common.{◌≡◌, ◌∙◌, sym, ap, refl, ℕ, zero, suc, ◌+◌, ◌-◌, ◌<◌, ◌≤◌, true, false, List, [], ◌∷◌, length, get_or, drop, subst, map, append_assoc, ◌++◌, Option, Some, ℤ, nat_eq, nat_le, arith, add-one, pos}
use Rattle.std.proofs.lemmas.Grind.{common_steps}
use Rattle.std.proofs.lemmas.Bool.Decides.{nat_tests}
use Rattle.rail_types.specs.declared.tracks.Block.{Block}
use Rattle.rail_types.specs.declared.tracks.Network.{Network}
use Rattle.rail_types.specs.declared.trains.Train.{Train}
use Rattle.rail_types.specs.declared.paths.Run.{Run}
use Rattle.rail_types.specs.declared.paths.Path.{Path}
use Rattle.running_time.specs.declared.edges.Enter.{Enter}
use Rattle.running_time.specs.declared.edges.Enter.TheVariants.{Still}
use Rattle.rail_types.specs.declared.entries.Settings.{Settings}
use Rattle.blocking_time.specs.Runs.{block_at, block_of, entry_at, entry_behind, run_at}
use Rattle.blocking_time.specs.Passages.{passage_of}
use Rattle.blocking_time.specs.Legs.{Leg, begin_of, claim_until, claims_behind, gone, legs_from, legs_of, reached}
use Rattle.blocking_time.specs.Indexed.{leg_at, leg_before, claim_by_legs, IsCursor}
use Rattle.blocking_time.specs.declared.stairways.Cursor.{Cursor}
use Rattle.rail_types.specs.declared.paths.Claim.{Claim}

abbrev pub no_run : Run
no_run = record { block = 0; enter = pos 0; leave = pos 0; stops = false }

-- how a run is entered, the first of them in this way
abbrev entry_in : Network → Train → Enter → List Run → ℕ → Enter
entry_in net train entry runs zero = entry
entry_in net train entry runs (suc k) = entry_behind train (block_at net (get_or runs k no_run).block) (get_or runs k no_run).stops

abbrev leg_in : Network → Train → Enter → List Run → ℕ → Leg
leg_in net train entry runs k = record { block = block_at net (get_or runs k no_run).block; entry = entry_in net train entry runs k; run = get_or runs k no_run }

next_entry : (net : Network) (train : Train) (entry : Enter) (run : Run) (runs : List Run) (k : ℕ) → entry_in net train (entry_behind train (block_at net run.block) run.stops) runs k ≡ entry_in net train entry (run ∷ runs) (suc k)
next_entry net train entry run runs zero = refl
next_entry net train entry run runs (suc k) = refl

legs_at : (net : Network) (train : Train) (entry : Enter) (runs : List Run) (k : ℕ) → k < length runs → drop k (legs_from net train entry runs) ≡ leg_in net train entry runs k ∷ drop (suc k) (legs_from net train entry runs)
legs_at net train entry [] k within = absurd (omega arith)
legs_at net train entry (run ∷ runs) zero within = refl
legs_at net train entry (run ∷ runs) (suc k) within =
    let here = legs_at net train (entry_behind train (block_at net run.block) run.stops) runs k (omega arith) in
    rw (← next_entry net train entry run runs k) here

entry_is : (net : Network) (path : Path) (k : ℕ) → entry_in net path.train Still path.runs k ≡ entry_at net path k
entry_is net path zero = refl
entry_is net path (suc k) = let less : suc k - 1 ≡ k = omega arith in let some : nat_eq (suc k) 0 ≡ false = grind (arith, nat_tests) in rw (some, less) refl

-- the leg of a number, and those behind it
pub legs_from_here : (net : Network) (path : Path) (k : ℕ) → k < length path.runs → drop k (legs_of net path) ≡ leg_at net path k ∷ drop (k + 1) (legs_of net path)
legs_from_here net path k within = rw (add-one, ← entry_is net path k) (legs_at net path.train Still path.runs k within)

length_legs : (net : Network) (train : Train) (runs : List Run) (entry : Enter) → length (legs_from net train entry runs) ≡ length runs
length_legs net train [] entry = refl
length_legs net train (run ∷ runs) entry = ap suc (length_legs net train runs (entry_behind train (block_at net run.block) run.stops))

pub legs_past : (net : Network) (path : Path) (k : ℕ) → length path.runs ≤ k → drop k (legs_of net path) ≡ []
legs_past net path k past = let long = length_legs net path.train path.runs Still in grind (arith, common_steps)

-- where the head is by the legs from one on
module _ (net : Network) (settings : Settings) (path : Path) (leave : ℤ) (k : ℕ) where
  pub gone_here : (metres : ℕ) → k < length path.runs → metres ≤ (block_of net path k).length_m → gone path.train settings leave (drop k (legs_of net path)) metres ≡ reached path.train settings (leg_at net path k) metres
  gone_here metres within here = let test : nat_le metres (block_of net path k).length_m ≡ true = grind (arith, nat_tests) in rw (legs_from_here net path k within, test) refl

  pub gone_on : (metres : ℕ) → k < length path.runs → (block_of net path k).length_m < metres → gone path.train settings leave (drop k (legs_of net path)) metres ≡ gone path.train settings (run_at path k).leave (drop (k + 1) (legs_of net path)) (metres - (block_of net path k).length_m)
  gone_on metres within beyond = let test : nat_le metres (block_of net path k).length_m ≡ false = grind (arith, nat_tests) in rw (legs_from_here net path k within, test) refl

  pub gone_end : (metres : ℕ) → length path.runs ≤ k → gone path.train settings leave (drop k (legs_of net path)) metres ≡ leave
  gone_end metres past = rw (legs_past net path k past) refl

  -- the same, as a walk from leg to leg does it
  pub walk_here : (metres : ℕ) (block : Block) (end here : ℤ) → k < length path.runs → block ≡ block_of net path k → metres ≤ block.length_m → here ≡ reached path.train settings (leg_at net path k) metres
      → gone path.train settings leave (drop k (legs_of net path)) metres ≡ end → here ≡ end
  walk_here metres block end here within is short reaches invariant = reaches ∙ (sym (gone_here metres within (subst (λ b. metres ≤ b.length_m) is short)) ∙ invariant)

  pub walk_on : (metres : ℕ) (block : Block) (end : ℤ) → k < length path.runs → block ≡ block_of net path k → block.length_m < metres
      → gone path.train settings leave (drop k (legs_of net path)) metres ≡ end
      → gone path.train settings (run_at path (k + 1 - 1)).leave (drop (k + 1) (legs_of net path)) (metres - block.length_m) ≡ end
  walk_on metres block end within is beyond invariant =
      let less : k + 1 - 1 ≡ k = omega arith in
      rw (less, is) (sym (gone_on metres within (subst (λ b. b.length_m < metres) is beyond)) ∙ invariant)

-- behind the last leg
pub walk_end : (net : Network) (settings : Settings) (path : Path) (k metres : ℕ) (end : ℤ) (runs : List Run) → runs ≡ path.runs → length runs ≤ k → k ≤ length runs
    → gone path.train settings (run_at path (k - 1)).leave (drop k (legs_of net path)) metres ≡ end → (get_or runs (length runs - 1) no_run).leave ≡ end
walk_end net settings path k metres end runs is past within invariant =
    let last : k ≡ length path.runs = omega (arith, ap length is) in
    rw is (ap (λ n. (get_or path.runs (n - 1) no_run).leave) (sym last) ∙ (sym (gone_end net settings path (run_at path (k - 1)).leave k metres (omega arith)) ∙ invariant))

map-map : {A B C : Type 0} (f : B → C) (g : A → B) (xs : List A) → map f (map g xs) ≡ map (λ x. f (g x)) xs
map-map f g [] = refl
map-map f g (x ∷ xs) = ap (λ others. f (g x) ∷ others) (map-map f g xs)

split : (train : Train) (settings : Settings) (before : Option Leg) (leave : ℤ) (leg : Leg) (rest legs : List Leg) → legs ≡ leg ∷ rest
    → claims_behind train settings before legs ≡ map (λ cell. claim_until train settings (begin_of train settings before leg leg.entry) leave legs (passage_of train cell)) leg.block.cells ++ claims_behind train settings (Some leg) rest
split train settings before leave leg rest legs is =
    subst (λ all. claims_behind train settings before all ≡ map (λ cell. claim_until train settings (begin_of train settings before leg leg.entry) leave all (passage_of train cell)) leg.block.cells ++ claims_behind train settings (Some leg) rest) (sym is)
    (ap (λ first. first ++ claims_behind train settings (Some leg) rest) (map-map (claim_until train settings (begin_of train settings before leg leg.entry) leg.run.leave (leg ∷ rest)) (passage_of train) leg.block.cells))

-- the claims of a leg, and those of the legs behind it
pub claims_split : (net : Network) (settings : Settings) (path : Path) (k : ℕ) → k < length path.runs
    → claims_behind path.train settings (leg_before net path k) (drop k (legs_of net path)) ≡ map (claim_by_legs net settings path k) (block_of net path k).cells ++ claims_behind path.train settings (leg_before net path (k + 1)) (drop (k + 1) (legs_of net path))
claims_split net settings path k within =
    let less : k + 1 - 1 ≡ k = omega arith in
    let some : nat_eq (k + 1) 0 ≡ false = grind (arith, nat_tests) in
    rw (some, less) (split path.train settings (leg_before net path k) (run_at path (k - 1)).leave (leg_at net path k) (drop (k + 1) (legs_of net path)) (drop k (legs_of net path)) (legs_from_here net path k within))

pub claims_done : (net : Network) (settings : Settings) (path : Path) (k : ℕ) (before : Option Leg) → length path.runs ≤ k → claims_behind path.train settings before (drop k (legs_of net path)) ≡ []
claims_done net settings path k before past = rw (legs_past net path k past) refl

-- the claims so far with those of one leg more
pub claims_more : (net : Network) (settings : Settings) (path : Path) (k : ℕ) (before after all : List Claim) → k < length path.runs
    → before ++ claims_behind path.train settings (leg_before net path k) (drop k (legs_of net path)) ≡ all
    → after ≡ before ++ map (claim_by_legs net settings path k) (block_of net path k).cells
    → after ++ claims_behind path.train settings (leg_before net path (k + 1)) (drop (k + 1) (legs_of net path)) ≡ all
claims_more net settings path k before after all within invariant more = rw (more, append_assoc) (ap (λ others. before ++ others) (sym (claims_split net settings path k within)) ∙ invariant)

-- where a cursor may stand
pub cursor_here : (net : Network) (settings : Settings) (path : Path) (index : ℕ) (cursor : Cursor) → index ≤ length path.runs → cursor.run ≡ index → cursor.metres ≡ 0 → IsCursor net settings path index cursor
cursor_here net settings path index cursor within here start = record {
  within = omega arith;
  skips = λ metres beyond. let same : metres - cursor.metres ≡ metres = omega arith in rw (here, same) refl;
}

pub cursor_on : (net : Network) (settings : Settings) (path : Path) (index : ℕ) (cursor next : Cursor) (block : Block) → IsCursor net settings path index cursor
    → cursor.run < length path.runs → block ≡ block_of net path cursor.run → next.run ≡ cursor.run + 1 → next.metres ≡ cursor.metres + block.length_m → IsCursor net settings path index next
cursor_on net settings path index cursor next block is_cursor within is run_on metres_on = record {
  within = omega arith;
  skips = λ metres beyond.
      let long : block.length_m ≡ (block_of net path cursor.run).length_m = ap (λ b. b.length_m) is in
      let less : cursor.run + 1 - 1 ≡ cursor.run = omega arith in
      let left : metres - next.metres ≡ metres - cursor.metres - (block_of net path cursor.run).length_m = omega arith in
      rw (run_on, less, left) (is_cursor.skips metres (omega arith) ∙ gone_on net settings path (run_at path (cursor.run - 1)).leave cursor.run (metres - cursor.metres) within (omega arith));
}

pub cursor_next : (net : Network) (settings : Settings) (path : Path) (index : ℕ) (cursor next : Cursor) (block : Block) → IsCursor net settings path index cursor
    → index < length path.runs → block ≡ block_of net path index → block.length_m ≤ cursor.metres → next.run ≡ cursor.run → next.metres ≡ cursor.metres - block.length_m → IsCursor net settings path (index + 1) next
cursor_next net settings path index cursor next block is_cursor within is short same_run metres_left = record {
  within = omega (arith, is_cursor.within);
  skips = λ metres beyond.
      let long : block.length_m ≡ (block_of net path index).length_m = ap (λ b. b.length_m) is in
      let less : index + 1 - 1 ≡ index = omega arith in
      let back : metres + (block_of net path index).length_m - (block_of net path index).length_m ≡ metres = omega arith in
      let left : metres + (block_of net path index).length_m - cursor.metres ≡ metres - next.metres = omega arith in
      let on = gone_on net settings path (run_at path (index - 1)).leave index (metres + (block_of net path index).length_m) within (omega arith) in
      let skip = is_cursor.skips (metres + (block_of net path index).length_m) (omega arith) in
      rw (less, same_run, ← left) (rw back at (sym on) ∙ skip);
}
