-- The claims of a path that keeps the rules are near.
use Rattle.std.proofs.Common.{◌≡◌, ◌∙◌, sym, ap, subst, refl, ℕ, zero, suc, ◌+◌, ◌-◌, ◌*◌, ◌^◌, ◌<◌, ◌≤◌, min, max, ℤ, pos, ◌+ℤ◌, ◌-ℤ◌, ◌<ℤ◌, ◌≤ℤ◌, Bool, true, false, cond, nat_le, if◌then◌else◌, List, [], ◌∷◌, ◌++◌, length, All, get_or, find, flat_map, map, Option, Some, None, inl, inr, arith}
use Rattle.std.specs.Prelude.{neg_ℤ, nat_eq, Contains}
use Rattle.std.specs.Int.{div_ceil}
use Rattle.std.specs.List.{range_with_len}
use Rattle.std.proofs.Math.Nat.{mul-le-mul_left, mul-le-mul_right, suc-mul}
use Rattle.std.proofs.lemmas.Bool.{cases_lt}
use Rattle.std.proofs.lemmas.Bool.Decides.{nat_tests}
use Rattle.std.proofs.lemmas.Grind.{div_ceil_times}
use Rattle.std.proofs.lemmas.Int.{ints}
use Rattle.std.proofs.lemmas.List.Elements.{All-nil, All-append, All-contains_itself, All-cons, All-head, All-tail}
use Rattle.rail_types.specs.declared.tracks.Block.{Block}
use Rattle.rail_types.specs.declared.tracks.Network.{Network}
use Rattle.rail_types.specs.declared.trains.Train.{Train}
use Rattle.rail_types.specs.declared.entries.Settings.{Settings}
use Rattle.rail_types.specs.declared.paths.Claim.{Claim}
use Rattle.rail_types.specs.declared.paths.Path.{Path}
use Rattle.rail_types.specs.Limits.{IsBlockWithinLimits, IsNear, IsNearSpan, IsSettingsWithinLimits, IsTrainWithinLimits}
use Rattle.rail_types.specs.Occupation.{HasTicks}
use Rattle.running_time.specs.declared.edges.Enter.{Enter}
use Rattle.running_time.specs.declared.edges.Edge.{Edge}
use Rattle.running_time.specs.Times.{lesser_speed, part_ticks, rolling_seconds, sight_ticks, ticks_of}
use Rattle.blocking_time.specs.Joined.{CoverTheSame, blocked, joined_claims}
use Rattle.blocking_time.specs.Laws.{StairwaysAreNear}
use Rattle.blocking_time.specs.Paths.{IsPathOf}
use Rattle.blocking_time.specs.Rules.{KeepsRunRules}
use Rattle.blocking_time.specs.Runs.{block_of, entry_at, exit_of, is_from_stand, reached_at, run_at}
use Rattle.blocking_time.specs.Stairway.{blocked_from, claim_at, claims_of_path, claims_of_run, gone_at, gone_in, metres_between}
use Rattle.blocking_time.specs.Ticks.{Covers, Takes}
use Rattle.blocking_time.proofs.Horizons.{begins_at_zero, ends_by_horizon, is_timed, leaves_late}
use Rattle.blocking_time.proofs.Hulls.{joined_are_one}
use Rattle.blocking_time.proofs.Lasting.{begins_early, stairways_have_ticks}
use Rattle.blocking_time.proofs.Passing.{metres_more}
use Rattle.blocking_time.proofs.Suffixes.{no_run}

-- a quotient rounded up rises with what is divided
ceil_rises : (a c b : ℕ) → 0 < b → a ≤ c → div_ceil a b ≤ div_ceil c b
ceil_rises a c b some rises = elim (cases_lt (div_ceil c b) (div_ceil a b)) [
  | inl less ↦
      let low = div_ceil_times a b some in
      let high = div_ceil_times c b some in
      let times : suc (div_ceil c b) * b ≤ div_ceil a b * b = mul-le-mul_right b (omega arith) in
      let one : suc (div_ceil c b) * b ≡ div_ceil c b * b + b = suc-mul (div_ceil c b) b in
      absurd (omega (arith, low.1, high.0, times, one))
  | inr more ↦ more
]

-- and is at most what is divided
ceil_small : (a b : ℕ) → 0 < b → div_ceil a b ≤ a
ceil_small a b some = elim (cases_lt a (div_ceil a b)) [
  | inl more ↦
      let low = div_ceil_times a b some in
      let times : suc a * b ≤ div_ceil a b * b = mul-le-mul_right b (omega arith) in
      let one : suc a * b ≡ a * b + b = suc-mul a b in
      let enough : a * 1 ≤ a * b = mul-le-mul_left a some in
      let single : a * 1 ≡ a = omega arith in
      absurd (omega (arith, low.1, times, one, enough, single))
  | inr less ↦ less
]

max_rises : (a c : ℕ) → a ≤ c → max a 1 ≤ max c 1
max_rises a c rises = omega arith

-- more metres take no less time
pub part_rises : (block : Block) (train : Train) (settings : Settings) (entry : Enter) (exit : Edge) (some all : ℕ) → 0 < lesser_speed block train → 0 < settings.tick_s → some ≤ all → part_ticks block train settings entry exit some ≤ part_ticks block train settings entry exit all
unfolding part_ticks
part_rises block train settings entry exit some all speed tick rises =
    let metres : 1000 * some ≤ 1000 * all = mul-le-mul_left 1000 rises in
    let rolls : rolling_seconds block train some ≤ rolling_seconds block train all = ceil_rises (1000 * some * (100 + train.allowance)) (1000 * all * (100 + train.allowance)) (100 * lesser_speed block train) (omega arith) (mul-le-mul_right (100 + train.allowance) metres) in
    max_rises _ _ (ceil_rises _ _ settings.tick_s tick (omega (arith, rolls)))

-- the sight distance is passed in good time
pub sight_small : (block : Block) (train : Train) (settings : Settings) → 0 < lesser_speed block train → 0 < settings.tick_s → block.sight_m ≤ 100000 → train.allowance ≤ 1000 → sight_ticks block train settings ≤ 110000000001
unfolding sight_ticks
sight_small block train settings speed tick sight allowance = go (nat_eq block.sight_m 0)
  where
    rolls : rolling_seconds block train block.sight_m ≤ 110000000000
    rolls =
        let metres : 1000 * block.sight_m ≤ 100000000 = omega arith in
        let first : 1000 * block.sight_m * (100 + train.allowance) ≤ 100000000 * (100 + train.allowance) = mul-le-mul_right (100 + train.allowance) metres in
        let small = ceil_small (1000 * block.sight_m * (100 + train.allowance)) (100 * lesser_speed block train) (omega arith) in
        omega (arith, small, first)

    go : (none : Bool) → (if none then 0 else ticks_of settings (rolling_seconds block train block.sight_m)) ≤ 110000000001
    go true = omega arith
    go false = let small = ceil_small (rolling_seconds block train block.sight_m) settings.tick_s tick in omega (arith, small, rolls)

-- what all of two lists have all of each have
all_left : (some others : List Claim) → All (λ claim. HasTicks claim.span) (some ++ others) → All (λ claim. HasTicks claim.span) some
all_left [] others all = All-nil (λ claim. HasTicks claim.span)
all_left (one ∷ some) others all = All-cons (λ claim. HasTicks claim.span) one some (All-head (λ claim. HasTicks claim.span) one (some ++ others) all) (all_left some others (All-tail (λ claim. HasTicks claim.span) one (some ++ others) all))

all_right : (some others : List Claim) → All (λ claim. HasTicks claim.span) (some ++ others) → All (λ claim. HasTicks claim.span) others
all_right [] others all = all
all_right (one ∷ some) others all = all_right some others (All-tail (λ claim. HasTicks claim.span) one (some ++ others) all)

module _ (net : Network) (settings : Settings) (path : Path) (is : IsPathOf net settings path) (keep : KeepsRunRules net settings path) where
  tick_is : 0 < settings.tick_s
  tick_is = omega (arith, is.timetable.tick_s.0)

  block_is : (k : ℕ) → k < length path.runs → IsBlockWithinLimits (block_of net path k)
  block_is k within = is.blocks (run_at path k).block _ (is.runs k no_run within)

  speed_is : (k : ℕ) → k < length path.runs → 0 < lesser_speed (block_of net path k) path.train
  speed_is k within = let block = (block_is k within).speed.0 in let train = is.train.speed.0 in omega (arith, block, train)

  -- a part of a run ends by the horizon
  reached_early : (k metres : ℕ) → k < length path.runs → metres ≤ (block_of net path k).length_m → reached_at net settings path k metres ≤ℤ pos settings.horizon
  reached_early k metres within inside =
      let rises = part_rises (block_of net path k) path.train settings (entry_at net path k) (exit_of (run_at path k).stops) metres (block_of net path k).length_m (speed_is k within) tick_is inside in
      let whole : reached_at net settings path k (block_of net path k).length_m ≤ℤ pos settings.horizon = subst (λ tick. tick ≤ℤ pos settings.horizon) (is_timed net settings path keep k within) (ends_by_horizon net settings path keep k within) in
      first (run_at path k).enter _ _ (pos settings.horizon) rises whole
    where
      first : (enter : ℤ) (some all : ℕ) (end : ℤ) → some ≤ all → (enter +ℤ pos all) ≤ℤ end → (enter +ℤ pos some) ≤ℤ end
      first enter some all end rises whole = omega (arith, ints)

  gone_early_in : (k metres : ℕ) (n a : ℕ) → k < length path.runs → k ≤ a → a + n ≤ length path.runs → gone_in net settings path k metres (find (λ m. nat_le metres (metres_between net path k (m + 1))) (range_with_len a n)) ≤ℤ pos settings.horizon
  gone_early_in k metres zero a within from inside = ends_by_horizon net settings path keep (length path.runs - 1) (omega arith)
  gone_early_in k metres (suc n) a within from inside = go (nat_le metres (metres_between net path k (a + 1))) refl (gone_early_in k metres n (a + 1) within (omega arith) (omega arith))
    where
      go : (b : Bool) → nat_le metres (metres_between net path k (a + 1)) ≡ b → gone_in net settings path k metres (find (λ m. nat_le metres (metres_between net path k (m + 1))) (range_with_len (a + 1) n)) ≤ℤ pos settings.horizon → gone_in net settings path k metres (cond b (Some a) (find (λ m. nat_le metres (metres_between net path k (m + 1))) (range_with_len (a + 1) n))) ≤ℤ pos settings.horizon
      go true here again =
          let reach : metres ≤ metres_between net path k (a + 1) = grind (arith, nat_tests) in
          let more = metres_more net path k a from (omega arith) in
          reached_early a (metres - metres_between net path k a) (omega arith) (omega (arith, reach, more))
      go false here again = again

  gone_early : (k metres : ℕ) → k < length path.runs → gone_at net settings path k metres ≤ℤ pos settings.horizon
  gone_early k metres within = gone_early_in k metres (length path.runs - k) k within (omega arith) (omega arith)

  -- and the approach begins not long before
  blocked_late : (k : ℕ) → k < length path.runs → neg_ℤ (pos 1099511627776) ≤ℤ blocked_from net settings path k
  blocked_late k within = go (is_from_stand path k) (is_from_stand path (k - 1)) (begins_at_zero net settings path keep k within) (begins_at_zero net settings path keep (k - 1) (omega arith)) (sight_small (block_of net path (k - 1)) path.train settings (speed_is (k - 1) (omega arith)) tick_is (block_is (k - 1) (omega arith)).sight_m is.train.allowance) is.timetable.setting
    where
      go : (here there : Bool) → pos 0 ≤ℤ (run_at path k).enter → pos 0 ≤ℤ (run_at path (k - 1)).enter → sight_ticks (block_of net path (k - 1)) path.train settings ≤ 110000000001 → settings.setting ≤ 1000
          → neg_ℤ (pos 1099511627776) ≤ℤ (if here then (run_at path k).enter -ℤ pos settings.setting else if there then (run_at path (k - 1)).enter -ℤ pos settings.setting else (run_at path (k - 1)).enter -ℤ pos settings.setting -ℤ pos (sight_ticks (block_of net path (k - 1)) path.train settings))
      go true there now before sight setting = omega (arith, ints)
      go false true now before sight setting = omega (arith, ints)
      go false false now before sight setting = omega (arith, ints)

  span_near : (k : ℕ) (metres : ℕ) → k < length path.runs → blocked_from net settings path k <ℤ (gone_at net settings path k metres +ℤ pos settings.release) → IsNear (blocked_from net settings path k) × IsNear (gone_at net settings path k metres +ℤ pos settings.release)
  span_near k metres within ticks =
      let late = blocked_late k within in
      let early = begins_early net settings path keep k within in
      let leaves = leaves_late net settings path keep k within in
      let ends = ends_by_horizon net settings path keep k within in
      let gone = gone_early k metres within in
      bounds (blocked_from net settings path k) (gone_at net settings path k metres) (run_at path k).enter (run_at path k).leave settings.horizon settings.release late early leaves ends gone ticks is.timetable.horizon.1 is.timetable.release
    where
      bounds : (from gone enter leave : ℤ) (horizon release : ℕ) → neg_ℤ (pos 1099511627776) ≤ℤ from → from ≤ℤ enter → enter <ℤ leave → leave ≤ℤ pos horizon → gone ≤ℤ pos horizon → from <ℤ (gone +ℤ pos release) → horizon ≤ 17280 → release ≤ 1000 → IsNear from × IsNear (gone +ℤ pos release)
      bounds from gone enter leave horizon release late early leaves ends before ticks long short = ((late, omega (arith, ints)), (omega (arith, ints), omega (arith, ints)))

  claims_near : (k : ℕ) → k < length path.runs → All (λ claim. HasTicks claim.span) (claims_of_run net settings path k) → All (λ claim. IsNearSpan claim.span) (claims_of_run net settings path k)
  claims_near k within ticks = near_each (block_of net path k).cells ticks
    where
      near_each : (cells : List _) → All (λ claim. HasTicks claim.span) (map (claim_at net settings path k) cells) → All (λ claim. IsNearSpan claim.span) (map (claim_at net settings path k) cells)
      near_each [] all = All-nil (λ claim. IsNearSpan claim.span)
      near_each (cell ∷ cells) all = All-cons (λ claim. IsNearSpan claim.span) _ _ (span_near k (cell.release_m + path.train.length_m) within (All-head (λ claim. HasTicks claim.span) _ _ all)) (near_each cells (All-tail (λ claim. HasTicks claim.span) _ _ all))

  all_near : (n a : ℕ) → a + n ≤ length path.runs → All (λ claim. HasTicks claim.span) (flat_map (claims_of_run net settings path) (range_with_len a n)) → All (λ claim. IsNearSpan claim.span) (flat_map (claims_of_run net settings path) (range_with_len a n))
  all_near zero a inside ticks = All-nil (λ claim. IsNearSpan claim.span)
  all_near (suc n) a inside ticks = All-append (λ claim. IsNearSpan claim.span) (claims_of_run net settings path a) _ (claims_near a (omega arith) (all_left (claims_of_run net settings path a) _ ticks)) (all_near n (a + 1) (omega arith) (all_right (claims_of_run net settings path a) _ ticks))

-- what is covered is near
covered_near : (claims : List Claim) (zone : ℕ) (tick : ℤ) → All (λ claim. IsNearSpan claim.span) claims → Covers claims zone tick → (neg_ℤ (pos 1099511627776) ≤ℤ tick) × (tick <ℤ pos 1099511627776)
covered_near [] zone tick all covers = absurd covers
covered_near (claim ∷ claims) zone tick all (inl takes) = let near = All-head (λ one. IsNearSpan one.span) claim claims all in between claim.span.from claim.span.to tick near.0.0 near.1.1 takes.1.0 takes.1.1
  where
    between : (from to tick : ℤ) → neg_ℤ (pos 1099511627776) ≤ℤ from → to ≤ℤ pos 1099511627776 → from ≤ℤ tick → tick <ℤ to → (neg_ℤ (pos 1099511627776) ≤ℤ tick) × (tick <ℤ pos 1099511627776)
    between from to tick low high begins ends = (omega (arith, ints), omega (arith, ints))
covered_near (claim ∷ claims) zone tick all (inr covers) = covered_near claims zone tick (All-tail (λ one. IsNearSpan one.span) claim claims all) covers

covers_own : (claims : List Claim) (claim : Claim) (tick : ℤ) → Contains claims claim → claim.span.from ≤ℤ tick → tick <ℤ claim.span.to → Covers claims claim.zone tick
covers_own [] claim tick (k, within, here) begins ends = absurd (omega arith)
covers_own (one ∷ claims) claim tick (zero, within, here) begins ends = inl (subst (λ it. Takes it claim.zone tick) (sym here) (refl, (begins, ends)))
covers_own (one ∷ claims) claim tick (suc k, within, here) begins ends = inr (covers_own claims claim tick (k, omega arith, here) begins ends)

joined_near : (claims : List Claim) → All (λ claim. IsNearSpan claim.span) claims → All (λ claim. IsNearSpan claim.span) (joined_claims claims)
joined_near claims all k claim within =
    let it = get_or (joined_claims claims) k claim in
    let ticks : HasTicks it.span = (joined_are_one.joined claims).ticks k claim within in
    let own = All-contains_itself (joined_claims claims) k claim within in
    let covered : (tick : ℤ) → it.span.from ≤ℤ tick → tick <ℤ it.span.to → (neg_ℤ (pos 1099511627776) ≤ℤ tick) × (tick <ℤ pos 1099511627776) = λ tick begins ends. covered_near claims it.zone tick all ((joined_are_one.same claims it.zone tick).0 (covers_own (joined_claims claims) it tick own begins ends)) in
    ends it.span.from it.span.to ticks covered
  where
    ends : (from to : ℤ) → from <ℤ to → ((tick : ℤ) → from ≤ℤ tick → tick <ℤ to → (neg_ℤ (pos 1099511627776) ≤ℤ tick) × (tick <ℤ pos 1099511627776)) → IsNear from × IsNear to
    ends from to ticks covered =
        let first = covered from (omega (arith, ints)) ticks in
        let last = covered (to -ℤ pos 1) (omega (arith, ints)) (omega (arith, ints)) in
        ((first.0, omega (arith, ints)), (omega (arith, ints), omega (arith, ints)))

pub stairways_are_near : StairwaysAreNear
stairways_are_near net settings path is keep =
    joined_near (claims_of_path net settings path) (all_near net settings path is keep (length path.runs) 0 (omega arith) (stairways_have_ticks net settings path keep))
