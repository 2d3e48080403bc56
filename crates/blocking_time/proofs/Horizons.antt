-- The runs of a path that keeps the rules lie within their limits.
use Rattle.std.proofs.Common.{◌≡◌, sym, refl, subst, inl, inr, ℕ, ◌<◌, ◌≤◌, ℤ, pos, ◌+ℤ◌, ◌<ℤ◌, ◌≤ℤ◌, Bool, true, false, length, Decides, arith}
use Rattle.std.proofs.lemmas.Int.{ints, by_lt_z}
use Rattle.std.proofs.lemmas.Bool.Decides.{Decides-int_eq}
use Rattle.std.proofs.lemmas.List.{get_or_default}
use Rattle.std.specs.Ordering.{int_eq}
use Rattle.rail_types.specs.declared.tracks.Network.{Network}
use Rattle.rail_types.specs.declared.entries.Settings.{Settings}
use Rattle.rail_types.specs.declared.paths.Path.{Path}
use Rattle.rail_types.specs.declared.paths.Run.{Run}
use Rattle.rail_types.specs.Limits.{IsRunWithinLimits, IsSettingsWithinLimits}
use Rattle.running_time.proofs.Ticks.{takes_a_tick}
use Rattle.blocking_time.specs.Runs.{block_of, entry_at, exit_of, reached_at, run_at}
use Rattle.blocking_time.specs.Paths.{IsPathIn, IsPathOf}
use Rattle.blocking_time.specs.Rules.{KeepsRunRules, rule_2, rule_5}
use Rattle.blocking_time.proofs.Suffixes.{no_run}

pub same_ticks : (a b : ℤ) → ¬ ¬ (a ≡ b) → a ≡ b
same_ticks a b not_apart = go (int_eq a b) (Decides-int_eq a b)
  where
    go : (test : Bool) → Decides test (a ≡ b) → a ≡ b
    go true tells = tells.0 refl
    go false tells = absurd (not_apart (λ same. let told = tells.1 same in cc))

-- the head goes on
pub reached_late : (net : Network) (settings : Settings) (path : Path) (k metres : ℕ) → (run_at path k).enter <ℤ reached_at net settings path k metres
reached_late net settings path k metres = grows (run_at path k).enter _ (takes_a_tick (block_of net path k) path.train settings (entry_at net path k) (exit_of (run_at path k).stops) metres)
  where
    grows : (a : ℤ) (n : ℕ) → 1 ≤ n → a <ℤ (a +ℤ pos n)
    grows a n some = omega (arith, ints)

module _ (net : Network) (settings : Settings) (path : Path) (keep : KeepsRunRules net settings path) (k : ℕ) (within : k < length path.runs) where
  pub is_timed : (run_at path k).leave ≡ reached_at net settings path k (block_of net path k).length_m
  is_timed = same_ticks _ _ (keep k rule_2 within)

  pub leaves_late : (run_at path k).enter <ℤ (run_at path k).leave
  leaves_late = subst (λ leave. (run_at path k).enter <ℤ leave) (sym is_timed) (reached_late net settings path k (block_of net path k).length_m)

  pub begins_at_zero : pos 0 ≤ℤ (run_at path k).enter
  begins_at_zero = by_lt_z (run_at path k).enter (pos 0) (λ early. absurd (keep k rule_5 within (inl early))) (λ from. from)

  pub ends_by_horizon : (run_at path k).leave ≤ℤ pos settings.horizon
  ends_by_horizon = by_lt_z (pos settings.horizon) (run_at path k).leave (λ late. absurd (keep k rule_5 within (inr late))) (λ by. by)

within_limits : (settings : Settings) (run : Run) → IsSettingsWithinLimits settings → pos 0 ≤ℤ run.enter → run.enter <ℤ run.leave → run.leave ≤ℤ pos settings.horizon → IsRunWithinLimits run
within_limits settings run limits begins on ends =
    let horizon : settings.horizon ≤ 17280 = limits.horizon.1 in
    record { enter = (omega (arith, ints), omega (arith, ints)); leave = (omega (arith, ints), omega (arith, ints)) }

pub path_of : (net : Network) (settings : Settings) (path : Path) → IsPathIn net settings path → KeepsRunRules net settings path → IsPathOf net settings path
path_of net settings path is_in keep = record {
  blocks = is_in.blocks;
  runs = is_in.runs;
  times = λ k other within. rw (get_or_default path.runs k other no_run within) (within_limits settings (run_at path k) is_in.timetable (begins_at_zero net settings path keep k within) (leaves_late net settings path keep k within) (ends_by_horizon net settings path keep k within));
  train = is_in.train;
  timetable = is_in.timetable;
}
