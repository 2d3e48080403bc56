-- How near a train is to its calls, as it is kept with its chart.
use Rattle.std.specs.Prelude.{◌≡◌, ℕ, ◌+◌, ◌-◌, ◌<◌, ◌≤◌, List, [], ◌++◌, length, drop}
use Rattle.std.specs.List.{slice_index_or}
use Rattle.label_search.specs.declared.charts.ChartCall.{ChartCall}
use Rattle.label_search.specs.declared.charts.ChartSpot.{ChartSpot}
use Rattle.label_search.specs.declared.nearing.Near.{Near}
use Rattle.label_search.specs.Charts.{call_at}
use Rattle.label_search.specs.Endings.{spots_before}
use Rattle.label_search.specs.Nearing.{IsNearTo}
use Rattle.path_labels.specs.declared.kept_nears.KeptNear.{KeptNear}
use Rattle.path_labels.specs.declared.kept_nears.TheConstants.{MAX_NEARS}

-- it is how near a train is over these spots to the call that it is kept for, and from which of
-- them a way leads to this call
pub record IsNearKept (spots : List ChartSpot) (kept : KeptNear) : Type 0 where
  pub near_is : IsNearTo spots kept.blocks kept.near
  pub lasts_are : kept.lasts ≡ spots_before kept.blocks spots

-- what is kept at a number
abbrev pub kept_at : List KeptNear → ℕ → KeptNear
kept_at kept number = slice_index_or kept number (record {
  blocks = [];
  near = record { ticks = []; behind = [] };
  lasts = [];
})

abbrev pub near_kept : List KeptNear → ℕ → Near
near_kept kept number = (kept_at kept number).near

-- a call at the ends of these blocks stands there
pub record IsNearAt (kept : List KeptNear) (blocks : List ℕ) (number : ℕ) : Type 0 where
  pub within : number < length kept
  pub blocks_are : (kept_at kept number).blocks ≡ blocks

-- each of the calls stands at its number
pub record AreNearAt (kept : List KeptNear) (calls : List ChartCall) (numbers : List ℕ)
    : Type 0 where
  pub count : length numbers ≡ length calls
  pub each : (made : ℕ) → made < length calls
      → IsNearAt kept (call_at calls made).blocks (slice_index_or numbers made 0)

-- one that was kept for these blocks stays as it was, and else at most one is put behind the others
pub record PutsNear (before after : List KeptNear) (blocks : List ℕ) : Type 0 where
  pub kept : (number : ℕ) → IsNearAt before blocks number → after ≡ before
  pub more : List KeptNear
  pub longer : after ≡ before ++ more
  pub one : length more ≤ 1

-- the first ones are let go, no more than it takes to keep so many more, and some are put behind
pub record GoOn (before : List KeptNear) (count : ℕ) (after : List KeptNear) : Type 0 where
  pub gone : ℕ
  pub more : List KeptNear
  pub few : gone ≤ length before + count - MAX_NEARS
  pub on : after ≡ drop gone before ++ more

-- some are put behind the others
abbrev pub IsLonger : List KeptNear → List KeptNear → Type 0
IsLonger before after = (more : List KeptNear) × (after ≡ before ++ more)
