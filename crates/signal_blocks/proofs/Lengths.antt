-- Where no block is too long, each length is a number of 32 bits.
use Rattle.std.proofs.Common.{◌≡◌, ℕ, zero, suc, ◌+◌, ◌-◌, ◌<◌, ◌≤◌, Bool, true, false, List, [], ◌∷◌, length, Option, Some, None, option_map, slice_index, slice_index_or, nat_lt, if◌then◌else◌, refl, arith, ltb-false}
use Rattle.rail_types.specs.declared.limits.TheConstants.{MAX_BLOCK_LENGTH_M}
use Rattle.signal_blocks.specs.Blocks.{AreShort}
use Rattle.signal_blocks.specs.Cuts.{metres_at, cut_places}
use Rattle.signal_blocks.specs.Faults.{long_behind, long_in, or_fault, long_fault, railway_fault, empty_fault, count_fault}
use Rattle.std.specs.List.{All}
use Rattle.std.proofs.lemmas.List.Elements.{All-nil, All-cons}
use Rattle.signal_blocks.specs.CutNetworks.{AreFine, IsRailway}
use Rattle.signal_blocks.specs.declared.block_cuts.faults.Fault.{Fault}
use Rattle.signal_blocks.specs.declared.block_cuts.faults.Railway.{Railway}
use Rattle.route_walk.specs.declared.walks.Passed.{Passed}
use Rattle.route_walk.specs.declared.walks.Walk.{Walk}

none_if : {A : Type 0} (b : Bool) (x : A) (rest : Option A) → (if b then Some x else rest) ≡ None → (b ≡ false) × (rest ≡ None)
none_if true x rest e = absurd (cc e)
none_if false x rest e = (refl, e)

short_behind : (passed : List Passed) (first : ℕ) (cuts : List ℕ) → long_behind passed (Some (metres_at passed first)) cuts ≡ None → (k : ℕ) → k + 1 < length (first ∷ cuts) → metres_at passed (slice_index (first ∷ cuts) (k + 1)) - metres_at passed (slice_index (first ∷ cuts) k) ≤ MAX_BLOCK_LENGTH_M
short_behind passed first [] e k lt = absurd (omega (arith, lt))
short_behind passed first (cut ∷ cuts) e zero lt =
    let parts = none_if (nat_lt MAX_BLOCK_LENGTH_M (metres_at passed cut - metres_at passed first)) (metres_at passed cut - metres_at passed first) (long_behind passed (Some (metres_at passed cut)) cuts) e in
    ltb-false _ _ parts.0
short_behind passed first (cut ∷ cuts) e (suc k) lt =
    let parts = none_if (nat_lt MAX_BLOCK_LENGTH_M (metres_at passed cut - metres_at passed first)) (metres_at passed cut - metres_at passed first) (long_behind passed (Some (metres_at passed cut)) cuts) e in
    let on : suc k + 1 ≡ suc (k + 1) = omega arith in
    rw on (short_behind passed cut cuts parts.1 k (omega (arith, lt)))

pub short_from : (passed : List Passed) (cuts : List ℕ) → long_behind passed None cuts ≡ None → (k : ℕ) → k + 1 < length cuts → metres_at passed (slice_index cuts (k + 1)) - metres_at passed (slice_index cuts k) ≤ MAX_BLOCK_LENGTH_M
short_from passed [] e k lt = absurd (omega (arith, lt))
short_from passed (first ∷ cuts) e k lt = short_behind passed first cuts e k lt

pub short_walk : (sights : List (Option ℕ)) (walk : Walk) → long_in sights walk ≡ None → AreShort walk (cut_places sights walk.passed)
short_walk sights walk e k lt = let most = short_from walk.passed (cut_places sights walk.passed) e k lt in omega (arith, most)

pub none_or : (a b : Option Fault) → or_fault a b ≡ None → (a ≡ None) × (b ≡ None)
none_or None b e = (refl, e)
none_or (Some fault) b e = absurd (cc e)

pub none_map : {A B : Type 0} (f : A → B) (o : Option A) → option_map f o ≡ None → o ≡ None
none_map f None e = refl
none_map f (Some x) e = absurd (cc e)

pub long_none : (sights : List (Option ℕ)) (walks : List Walk) → long_fault sights walks ≡ None → All (λ walk. long_in sights walk ≡ None) walks
long_none sights [] e = All-nil (λ walk. long_in sights walk ≡ None)
long_none sights (walk ∷ walks) e =
    let parts = none_or _ _ e in
    All-cons (λ walk. long_in sights walk ≡ None) walk walks (none_map _ _ parts.0) (long_none sights walks parts.1)

pub fine_walks : (railway : Railway) → IsRailway railway → railway_fault railway ≡ None → All (AreFine railway.lines) railway.walks
fine_walks railway is e =
    let behind = none_or (empty_fault railway.lines.sights 0 railway.walks) (or_fault (count_fault railway) (long_fault railway.lines.sights railway.walks)) e in
    let last = none_or (count_fault railway) (long_fault railway.lines.sights railway.walks) behind.1 in
    let long = long_none railway.lines.sights railway.walks last.1 in
    λ k d lt. record {
      sound = (is.walks k d lt).sound;
      short = short_walk railway.lines.sights (slice_index_or railway.walks k d) (long k d lt);
    }
