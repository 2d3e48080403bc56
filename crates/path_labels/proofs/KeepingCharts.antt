-- Charts that are kept.
use Rattle.std.proofs.Common.{◌≡◌, sym, ◌∙◌, subst, ℕ, suc, Bool, true, false, List, ◌∷◌, [], ◌++◌, All, length, take, drop, remove, get_or, if◌then◌else◌}
use Rattle.std.specs.Prelude.{nat_lt}
use Rattle.std.proofs.lemmas.List.Elements.{All-drop, All-push}
use Rattle.rail_types.specs.declared.tracks.Network.{Network}
use Rattle.rail_types.specs.declared.trains.Train.{Train}
use Rattle.rail_types.specs.declared.entries.Settings.{Settings}
use Rattle.path_labels.specs.declared.kept_charts.TheConstants.{MAX_CHARTS}
use Rattle.path_labels.specs.declared.train_charts.TrainChart.{TrainChart}
use Rattle.path_labels.specs.TrainCharts.{IsChartAt, IsChartOf, IsChartTakenOut, StayCharts, StayChartsWith, with_chart_room}
use Rattle.path_labels.proofs.Keeping.{All-apart, stands_between}

abbrev IsKept : Network → Settings → TrainChart → Type 0
IsKept net settings kept = IsChartOf net settings kept.train kept

pub taken_out : (before inside after : List TrainChart) (train : Train) (at : ℕ) (one : TrainChart) → inside ≡ before → IsChartAt inside train at → one ≡ get_or inside at one → after ≡ remove inside at
    → IsChartTakenOut before after train one
taken_out before inside after train at one same found is left = record {
  front = take at inside;
  back = drop (suc at) inside;
  stood = sym same ∙ stands_between inside at one found.within is;
  train_is = subst (λ (kept : TrainChart). kept.train ≡ train) (sym is) (found.train_is one);
  others = left;
}

pub stay_without : (before after : List TrainChart) (train : Train) (chart : TrainChart) → IsChartTakenOut before after train chart → StayCharts before after
stay_without before after train chart out net settings all =
    subst (All (IsKept net settings)) (sym out.others)
    (All-apart (IsKept net settings) out.front chart out.back (subst (All (IsKept net settings)) out.stood all)).1

All-with_room : (P : TrainChart → Type 0) (charts : List TrainChart) → All P charts → All P (with_chart_room charts)
All-with_room P charts all = go (nat_lt (length charts) MAX_CHARTS)
  where
    go : (room : Bool) → All P (if room then charts else drop 1 charts)
    go true = all
    go false = All-drop P 1 charts all

pub stay_with : (before after : List TrainChart) (chart : TrainChart) → after ≡ with_chart_room before ++ chart ∷ [] → StayChartsWith chart before after
stay_with before after chart same net settings is all =
    subst (All (IsKept net settings)) (sym same)
    (All-push (IsKept net settings) (with_chart_room before) chart (All-with_room (IsKept net settings) before all) is)
