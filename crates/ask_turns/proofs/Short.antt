-- Paths that were found have few runs, all within their limits.
use Rattle.std.proofs.Common.{◌≡◌, ◌≢◌, ◌↔◌, ℕ, zero, suc, ◌+◌, ◌-◌, ◌<◌, ◌≤◌, ℤ, pos, ◌+ℤ◌, ◌<ℤ◌}
use Rattle.std.proofs.Common.{◌≤ℤ◌, Bool, true, false, Decides, length, List, [], All, None, ap}
use Rattle.std.proofs.Common.{sym, ◌∙◌, subst, refl, arith}
use Rattle.std.proofs.lemmas.Int.{ints, by_lt_z}
use Rattle.std.proofs.lemmas.Bool.Decides.{Decides-int_eq}
use Rattle.std.proofs.lemmas.List.{get_or_default}
use Rattle.std.specs.Ordering.{int_eq}
use mathlib.Core.Logic.{inl, inr}
use Rattle.blocking_time.specs.Laws.{TheFirstIsTold}
use Rattle.blocking_time.specs.Possible.{CanBeGranted}
use Rattle.blocking_time.specs.Rules.{EntersWrongly, KeepsRunRules, rule_2, rule_3, rule_5, rule_12}
use Rattle.blocking_time.specs.Runs.{block_of, entry_at, exit_of, reached_at, run_at}
use Rattle.path_labels.proofs.running_lemmas.Ticks.{takes_a_tick}
use Rattle.path_commit.specs.history.Content.{HaveSameContent, has_same_content}
use Rattle.rail_types.specs.declared.entries.Deed.{Deed}
use Rattle.rail_types.specs.declared.entries.Deed.TheVariants.{Grant}
use Rattle.rail_types.specs.declared.entries.Settings.{Settings}
use Rattle.rail_types.specs.declared.entries.Wanted.TheVariants.{Asked, Pinned}
use Rattle.rail_types.specs.declared.paths.Claim.{Claim}
use Rattle.rail_types.specs.declared.paths.Path.{Path}
use Rattle.rail_types.specs.declared.paths.Run.{Run}
use Rattle.rail_types.specs.declared.tracks.Network.{Network}
use Rattle.rail_types.specs.declared.trains.Train.{Train}
use Rattle.rail_types.specs.Flaws.{first_flaw}
use Rattle.rail_types.specs.Limits.{IsAnswered, IsRunWithinLimits, IsTrainWithinLimits}
use Rattle.rail_types.specs.Networks.{HasCountsWithinLimits}
use Rattle.client_lines.specs.Rooms.{PrintsRuns}
use Rattle.ask_turns.specs.declared.asks.Ask.{Ask}
use Rattle.ask_turns.specs.Finds.{MayBeSearched}

same_ticks : (a b : ℤ) → ¬ (a ≢ b) → a ≡ b
same_ticks a b not_apart = go (int_eq a b) (Decides-int_eq a b)
  where
    go : (test : Bool) → Decides test (a ≡ b) → a ≡ b
    go true tells = tells.0 refl
    go false tells = absurd (not_apart (λ same. let told = tells.1 same in cc))

-- the head goes on
reached_late : (net : Network) (settings : Settings) (path : Path) (k metres : ℕ)
    → (run_at path k).enter <ℤ reached_at net settings path k metres
reached_late net settings path k metres =
    grows (run_at path k).enter _
    (takes_a_tick (block_of net path k) path.train settings (entry_at net path k)
    (exit_of (run_at path k).stops) metres)
  where
    grows : (a : ℤ) (n : ℕ) → 1 ≤ n → a <ℤ (a +ℤ pos n)
    grows a n some = omega (arith, ints)

abbrev no_run : Run
no_run = record { block = 0; enter = pos 0; leave = pos 0; stops = false }

enters_on : (left enter : ℤ) (stops : Bool) → ¬ EntersWrongly left stops enter → left ≤ℤ enter
enters_on left enter true keeps = by_lt_z enter left (λ early. absurd (keeps early)) (λ late. late)
enters_on left enter false keeps = let same = same_ticks enter left keeps in omega (arith, ints)

module _ (net : Network) (settings : Settings) (path : Path) (keep : KeepsRunRules net settings path) where
  leaves_late : (k : ℕ) → k < length path.runs → (run_at path k).enter <ℤ (run_at path k).leave
  leaves_late k within =
      subst (λ leave. (run_at path k).enter <ℤ leave) (sym (same_ticks _ _ (keep k rule_2 within)))
      (reached_late net settings path k (block_of net path k).length_m)

  begins_at_zero : (k : ℕ) → k < length path.runs → pos 0 ≤ℤ (run_at path k).enter
  begins_at_zero k within =
      by_lt_z (run_at path k).enter (pos 0) (λ early. absurd (keep k rule_5 within (inl early))) (λ from. from)

  ends_by_horizon : (k : ℕ) → k < length path.runs → (run_at path k).leave ≤ℤ pos settings.horizon
  ends_by_horizon k within =
      by_lt_z (pos settings.horizon) (run_at path k).leave
      (λ late. absurd (keep k rule_5 within (inr late))) (λ by. by)

  enters_late : (k : ℕ) → k + 1 < length path.runs
      → (run_at path k).leave ≤ℤ (run_at path (k + 1)).enter
  enters_late k within =
      let less : k + 1 - 1 ≡ k = omega arith in
      let on = enters_on (run_at path (k + 1 - 1)).leave (run_at path (k + 1)).enter
      (run_at path (k + 1 - 1)).stops (λ wrong. keep (k + 1) rule_3 within (omega arith, wrong)) in
      subst (λ n. (run_at path n).leave ≤ℤ (run_at path (k + 1)).enter) less on

  -- each run takes a tick at least, so the run of that number enters no earlier than at that tick
  enters_by : (k : ℕ) → k < length path.runs → pos k ≤ℤ (run_at path k).enter
  enters_by zero within = begins_at_zero 0 within
  enters_by (suc k) within =
      let next : suc k ≡ k + 1 = omega arith in
      let before = enters_by k (omega arith) in
      let on = leaves_late k (omega arith) in
      let late = enters_late k (omega arith) in
      rw next (omega (arith, ints))

  within_limits : settings.horizon ≤ 17280 → All IsRunWithinLimits path.runs
  within_limits horizon k other within =
      subst IsRunWithinLimits (sym (get_or_default path.runs k other no_run within))
      (limits (run_at path k) (begins_at_zero k within) (leaves_late k within) (ends_by_horizon k within))
    where
      limits : (run : Run) → pos 0 ≤ℤ run.enter → run.enter <ℤ run.leave
          → run.leave ≤ℤ pos settings.horizon → IsRunWithinLimits run
      limits run begins on ends =
          record { enter = (omega (arith, ints), omega (arith, ints)); leave = (omega (arith, ints), omega (arith, ints)) }

  are_few : 1 ≤ length path.runs → length path.runs ≤ settings.horizon
  are_few some =
      let last : ℕ = length path.runs - 1 in
      let within : last < length path.runs = omega arith in
      let by = enters_by last within in
      let on = leaves_late last within in
      let ends = ends_by_horizon last within in
      omega (arith, ints)

-- trains are the same where they are not told apart
module _ (law : (one other : Deed) → (has_same_content one other ≡ true) ↔ HaveSameContent one other)
    (a b : Train) where
  abbrev pinned : Train → Deed
  pinned train = Grant Pinned (record { train = train; runs = [] })

  same_train : ¬ (a ≢ b) → a ≡ b
  same_train same = go (has_same_content (pinned a) (pinned b)) refl
    where
      go : (told : Bool) → has_same_content (pinned a) (pinned b) ≡ told → a ≡ b
      go true is = ap (λ (path : Path). path.train) ((law (pinned a) (pinned b)).0 is)
      go false is = absurd (same (λ e.
          let is_same = (law (pinned a) (pinned b)).1 (ap (λ train. record { train = train; runs = [] }) e) in
          let wrong : true ≡ false = sym is_same ∙ is in cc))

module _ (counts : (net : Network) → first_flaw net ≡ None → HasCountsWithinLimits net)
    (told : TheFirstIsTold)
    (law : (one other : Deed) → (has_same_content one other ≡ true) ↔ HaveSameContent one other)
    (net : Network) (settings : Settings) (live : List Claim) (ask : Ask) (path : Path)
    (may : MayBeSearched net settings ask) (can : CanBeGranted net settings live ask.request path) where
  keeps : KeepsRunRules net settings path
  keeps = ((told.keeps net settings path (Asked ask.request)).0 can.keeps).0

  its_train : path.train ≡ ask.request.train
  its_train =
      let asked = ((told.keeps net settings path (Asked ask.request)).0 can.keeps).1 in
      same_train law path.train ask.request.train
      (λ apart. asked 0 rule_12 can.some (refl, apart))

  train_within : IsTrainWithinLimits path.train
  train_within = subst IsTrainWithinLimits (sym its_train) may.request.train

  horizon_is : settings.horizon ≤ 17280
  horizon_is = may.timetable.horizon.1

  by_horizon : length path.runs ≤ 17280
  by_horizon =
      let few = are_few net settings path keeps can.some in
      let horizon = horizon_is in omega arith

  pub answered : IsAnswered ask.request path
  answered = record {
    request = may.request;
    train = sym its_train;
    runs = record {
      train = train_within;
      some = can.some;
      count = let few = by_horizon in omega arith;
      runs = within_limits net settings path keeps horizon_is;
    };
  }

  pub prints : PrintsRuns (length path.runs) path.runs
  prints = record {
    counted = refl;
    fit = let few = by_horizon in omega arith;
    each = λ k other within. (
      within_limits net settings path keeps horizon_is k other within,
      let block = can.blocks k other within in
          let most : length net.blocks ≤ 65536 = (counts net may.sound).blocks in omega arith,
    );
  }
