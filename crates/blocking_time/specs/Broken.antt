-- The first rule that a path breaks, and the run that breaks it.
use Rattle.std.specs.Prelude.{ℕ, ◌+◌, ◌-◌, ℤ, pos, ◌+ℤ◌, Bool, true, false, not, ◌&&◌, ◌||◌, int_lt}
use Rattle.std.specs.Prelude.{nat_eq, nat_le, nat_lt, List, [], ◌∷◌, length, find, map, flat_map}
use Rattle.std.specs.Prelude.{Option, Some, None, option_map, bytes_eq}
use Rattle.std.specs.List.{list_any}
use Rattle.std.specs.Ordering.{int_eq}
use Rattle.rail_types.specs.declared.tracks.Network.{Network}
use Rattle.rail_types.specs.declared.trains.Train.{Train}
use Rattle.rail_types.specs.declared.trains.Request.{Request}
use Rattle.rail_types.specs.declared.entries.Settings.{Settings}
use Rattle.rail_types.specs.declared.entries.Wanted.{Wanted}
use Rattle.rail_types.specs.declared.entries.Wanted.TheVariants.{Asked, Pinned}
use Rattle.rail_types.specs.declared.paths.Path.{Path}
use Rattle.rail_types.specs.declared.paths.Window.{Window}
use Rattle.blocking_time.specs.declared.rules.Broken.{Broken}
use Rattle.blocking_time.specs.Runs.{block_of, reached_at, run_at, run_numbers}
use Rattle.blocking_time.specs.Rules.{AskedRule, RunRule, named_stop, rule_1, rule_2, rule_3}
use Rattle.blocking_time.specs.Rules.{rule_4, rule_5, rule_6, rule_7, rule_8, rule_9, rule_10}
use Rattle.blocking_time.specs.Rules.{rule_11, rule_12, stops_before}

abbrev pub is_last : Path → ℕ → Bool
is_last path k = nat_eq (k + 1) (length path.runs)

-- whether the block of a run begins elsewhere than the block of the run before ends
abbrev pub does_not_follow : Network → Path → ℕ → Bool
does_not_follow net path k =
    nat_le 1 k && not (nat_eq (block_of net path k).from_point (block_of net path (k - 1)).to_point)

-- whether the head reaches the block's end at another tick than after its running time
abbrev pub is_not_timed : Network → Settings → Path → ℕ → Bool
is_not_timed net settings path k =
    not
    (int_eq (run_at path k).leave
    (reached_at net settings path k (block_of net path k).length_m))

-- whether a train that left a block, and stopped at its end or did not, enters the next wrongly
abbrev pub enters_wrongly : ℤ → Bool → ℤ → Bool
enters_wrongly left true enter = int_lt enter left
enters_wrongly left false enter = not (int_eq enter left)

abbrev pub serves_nothing : List ℕ → Bool
serves_nothing [] = true
serves_nothing (stop ∷ stops) = false

-- whether a run breaks a rule of runs
abbrev pub breaks : Network → Settings → Path → RunRule → ℕ → Bool
breaks net settings path rule_1 k = does_not_follow net path k
breaks net settings path rule_2 k = is_not_timed net settings path k
breaks net settings path rule_3 k =
    nat_le 1 k
    && enters_wrongly (run_at path (k - 1)).leave (run_at path (k - 1)).stops (run_at path k).enter
breaks net settings path rule_4 k = is_last path k && not (run_at path k).stops
breaks net settings path rule_5 k =
    int_lt (run_at path k).enter (pos 0) || int_lt (pos settings.horizon) (run_at path k).leave
breaks net settings path rule_6 k =
    nat_lt (k + 1) (length path.runs)
    && ((run_at path k).stops && serves_nothing (block_of net path k).serves)

-- whether the block of a run serves an operational point
abbrev pub serves : Network → Path → ℕ → ℕ → Bool
serves net path k stop = list_any (λ served. nat_eq served stop) (block_of net path k).serves

-- whether a tick is none of a window, which holds both its ends
abbrev pub is_outside : Window → ℤ → Bool
is_outside window tick = int_lt tick window.from || int_lt window.to tick

-- whether a run ends with the stop of number j wrongly
abbrev pub stops_wrongly : Network → Request → Path → ℕ → ℕ → Bool
stops_wrongly net request path k j =
    nat_le (length request.stops) j
    || (not (serves net path k (named_stop request j).stop)
    || int_lt (run_at path (k + 1)).enter
    ((run_at path k).leave +ℤ pos (named_stop request j).dwell))

-- whether a stop before the last run is wrong, or stops are missing before the last run
abbrev pub makes_other_stops : Network → Request → Path → ℕ → Bool
makes_other_stops net request path k =
    (nat_lt (k + 1) (length path.runs)
    && ((run_at path k).stops && stops_wrongly net request path k (stops_before path k)))
    || (is_last path k && nat_lt (stops_before path k) (length request.stops))

-- whether two trains have the same name and the same numbers
abbrev pub is_same_train : Train → Train → Bool
is_same_train a b =
    bytes_eq a.name b.name && nat_eq a.length_m b.length_m && nat_eq a.speed b.speed
    && nat_eq a.accel b.accel && nat_eq a.brake b.brake && nat_eq a.allowance b.allowance

-- whether a run breaks a rule of the request
abbrev pub breaks_request : Network → Request → Path → AskedRule → ℕ → Bool
breaks_request net request path rule_7 k = nat_eq k 0 && not (serves net path k request.origin)
breaks_request net request path rule_8 k =
    is_last path k && not (serves net path k request.destination)
breaks_request net request path rule_9 k =
    nat_eq k 0 && is_outside request.depart (run_at path k).enter
breaks_request net request path rule_10 k =
    is_last path k && is_outside request.arrive (run_at path k).leave
breaks_request net request path rule_11 k = makes_other_stops net request path k
breaks_request net request path rule_12 k =
    nat_eq k 0 && not (is_same_train path.train request.train)

-- the rules in their order, and the number of each
abbrev pub run_rules : List RunRule
run_rules = rule_1 ∷ rule_2 ∷ rule_3 ∷ rule_4 ∷ rule_5 ∷ rule_6 ∷ []

abbrev pub asked_rules : List AskedRule
asked_rules = rule_7 ∷ rule_8 ∷ rule_9 ∷ rule_10 ∷ rule_11 ∷ rule_12 ∷ []

abbrev pub run_rule_number : RunRule → ℕ
run_rule_number rule_1 = 1
run_rule_number rule_2 = 2
run_rule_number rule_3 = 3
run_rule_number rule_4 = 4
run_rule_number rule_5 = 5
run_rule_number rule_6 = 6

abbrev pub asked_rule_number : AskedRule → ℕ
asked_rule_number rule_7 = 7
asked_rule_number rule_8 = 8
asked_rule_number rule_9 = 9
asked_rule_number rule_10 = 10
asked_rule_number rule_11 = 11
asked_rule_number rule_12 = 12

-- the first of the rules of runs that a run breaks
abbrev pub rule_of_run : Network → Settings → Path → ℕ → Option ℕ
rule_of_run net settings path k =
    option_map run_rule_number (find (λ rule. breaks net settings path rule k) run_rules)

-- a run and a rule, by their numbers
abbrev pub run_told : ℕ × RunRule → Broken
run_told at = record { run = at.0; rule = run_rule_number at.1 }

abbrev pub asked_told : ℕ × AskedRule → Broken
asked_told at = record { run = at.0; rule = asked_rule_number at.1 }

-- the rules of runs run by run, and the rules of a request rule by rule, each
-- with the run that may break it
abbrev pub run_by_run : Path → List (ℕ × RunRule)
run_by_run path = flat_map (λ k. map (λ rule. (k, rule)) run_rules) (run_numbers path)

abbrev pub rule_by_rule : Path → List (ℕ × AskedRule)
rule_by_rule path = flat_map (λ rule. map (λ k. (k, rule)) (run_numbers path)) asked_rules

-- the first of the rules of runs that is broken, with the run that breaks it
abbrev pub broken_run : Network → Settings → Path → Option Broken
broken_run net settings path =
    option_map run_told (find (λ at. breaks net settings path at.1 at.0) (run_by_run path))

-- the first of the rules of a request that is broken, with the run that breaks it
abbrev pub broken_request : Network → Request → Path → Option Broken
broken_request net request path =
    option_map asked_told
    (find (λ at. breaks_request net request path at.1 at.0) (rule_by_rule path))

-- the first answer, or else the second
abbrev pub or_else : Option Broken → Option Broken → Option Broken
or_else None other = other
or_else (Some broken) other = Some broken

-- the run and the rule that a path is told to break: run by run the rules of runs, and then, where
-- the path was asked for, those of the request
abbrev pub broken : Network → Settings → Path → Wanted → Option Broken
broken net settings path Pinned = broken_run net settings path
broken net settings path (Asked request) =
    or_else (broken_run net settings path) (broken_request net request path)
