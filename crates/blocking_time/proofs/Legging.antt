-- A path leg by leg is the path by the numbers of its runs.
use Rattle.std.proofs.Common.{◌≡◌, ◌≢◌, ◌∙◌, sym, ap, refl, subst, inl, inr, ℕ, zero, suc, ◌+◌, ◌-◌, ◌<◌, ◌≤◌, ℤ, pos, ◌+ℤ◌, ◌-ℤ◌, Bool, true, false, nat_eq, if◌then◌else◌, List, [], ◌∷◌, ◌++◌, length, map, drop, flat_map, Some, None, Decides, arith}
use Rattle.std.proofs.lemmas.Int.{ints, by_lt_z}
use Rattle.std.proofs.lemmas.Bool.Decides.{nat_tests, leb_tells, Decides-eqb}
use Rattle.std.specs.List.{range_with_len}
use Rattle.rail_types.specs.declared.tracks.Block.{Block}
use Rattle.rail_types.specs.declared.tracks.Cell.{Cell}
use Rattle.rail_types.specs.declared.tracks.Network.{Network}
use Rattle.rail_types.specs.declared.trains.Train.{Train}
use Rattle.rail_types.specs.declared.entries.Settings.{Settings}
use Rattle.rail_types.specs.declared.paths.Path.{Path}
use Rattle.running_time.specs.Times.{sight_ticks}
use Rattle.blocking_time.specs.Runs.{block_of, entry_at, entry_behind, is_from_stand, run_at}
use Rattle.blocking_time.specs.Passages.{passage_of}
use Rattle.blocking_time.specs.Rules.{Breaks, EntersWrongly, RunRule, rule_1, rule_2, rule_3, rule_4, rule_5, rule_6}
use Rattle.blocking_time.specs.Stairway.{blocked_from, claim_at, claims_of_run}
use Rattle.blocking_time.specs.Legs.{Enters, EntersFrom, Follows, KeepAll, KeepsRules, Leg, StopsWell, approach, begin_of, claims_behind, legs_of}
use Rattle.blocking_time.specs.Indexed.{claim_by_legs, leg_at, leg_before}
use Rattle.blocking_time.specs.Laws.{LegsAreTheRuns}
use Rattle.blocking_time.proofs.Horizons.{same_ticks}
use Rattle.blocking_time.proofs.Passing.{gone_by_numbers}
use Rattle.blocking_time.proofs.Suffixes.{claims_split, legs_from_here, legs_past}

-- when the zones of a leg are blocked
begin_plain : (train : Train) (settings : Settings) (before leg : Leg) (here there : Bool) (block other : Block) → before.entry ≡ entry_behind train other there
    → begin_of train settings (Some before) leg (entry_behind train block here) ≡ (if here then leg.run.enter -ℤ pos settings.setting else if there then before.run.enter -ℤ pos settings.setting else before.run.enter -ℤ pos settings.setting -ℤ pos (sight_ticks before.block train settings))
begin_plain train settings before leg true there block other is = refl
begin_plain train settings before leg false true block other is = ap (approach train settings before) is
begin_plain train settings before leg false false block other is = ap (approach train settings before) is

begin_by_numbers : (net : Network) (settings : Settings) (path : Path) (k : ℕ) → begin_of path.train settings (leg_before net path k) (leg_at net path k) (entry_at net path k) ≡ blocked_from net settings path k
begin_by_numbers net settings path zero = refl
begin_by_numbers net settings path (suc k) =
    let some : nat_eq (suc k) 0 ≡ false = grind (arith, nat_tests) in
    ap (λ b. begin_of path.train settings (if b then None else Some (leg_at net path (suc k - 1))) (leg_at net path (suc k)) (entry_at net path (suc k))) some
    ∙ begin_plain path.train settings (leg_at net path (suc k - 1)) (leg_at net path (suc k)) (is_from_stand path (suc k)) (is_from_stand path (suc k - 1)) (block_of net path (suc k - 1)) (block_of net path (suc k - 1 - 1)) refl

same_map : {X Y : Type 0} (f g : X → Y) (xs : List X) → ((x : X) → f x ≡ g x) → map f xs ≡ map g xs
same_map f g [] same = refl
same_map f g (x ∷ xs) same = λ i. same x i ∷ same_map f g xs same i

claim_same : (net : Network) (settings : Settings) (path : Path) (k : ℕ) → k < length path.runs → (cell : Cell) → claim_by_legs net settings path k cell ≡ claim_at net settings path k cell
claim_same net settings path k within cell =
    let from = begin_by_numbers net settings path k in
    let to = gone_by_numbers net settings path k (passage_of path.train cell).metres (omega arith) in
    λ i. record { zone = cell.zone; span = record { from = from i; to = to i +ℤ pos settings.release } }

claims_from : (net : Network) (settings : Settings) (path : Path) (rest k : ℕ) → k + rest ≡ length path.runs → flat_map (claims_of_run net settings path) (range_with_len k rest) ≡ claims_behind path.train settings (leg_before net path k) (drop k (legs_of net path))
claims_from net settings path zero k all = rw (legs_past net path k (omega (arith, all))) refl
claims_from net settings path (suc rest) k all =
    let within : k < length path.runs = omega (arith, all) in
    ap (λ claims. claims ++ flat_map (claims_of_run net settings path) (range_with_len (k + 1) rest)) (sym (same_map (claim_by_legs net settings path k) (claim_at net settings path k) (block_of net path k).cells (claim_same net settings path k within)))
    ∙ (ap (λ claims. map (claim_by_legs net settings path k) (block_of net path k).cells ++ claims) (claims_from net settings path rest (k + 1) (omega (arith, all)))
    ∙ sym (claims_split net settings path k within))

-- rules, leg by leg
same_numbers : (a b : ℕ) → ¬ (a ≢ b) → a ≡ b
same_numbers a b not_apart = go (nat_eq a b) (Decides-eqb a b)
  where
    go : (test : Bool) → Decides test (a ≡ b) → a ≡ b
    go true tells = tells.0 refl
    go false tells = absurd (not_apart (λ same. let told = tells.1 same in cc))

must_stop : (stops : Bool) → ¬ (stops ≡ false) → stops ≡ true
must_stop true keeps = refl
must_stop false keeps = absurd (keeps refl)

enters_well : (left enter : ℤ) (stops : Bool) → ¬ EntersWrongly left stops enter → EntersFrom left enter stops
enters_well left enter true keeps = by_lt_z enter left (λ early. absurd (keeps early)) (λ late. late)
enters_well left enter false keeps = same_ticks enter left keeps

enters_not_wrongly : (left enter : ℤ) (stops : Bool) → EntersFrom left enter stops → ¬ EntersWrongly left stops enter
enters_not_wrongly left enter true well early = omega (arith, ints)
enters_not_wrongly left enter false well apart = apart well

module _ (net : Network) (settings : Settings) (path : Path) (k : ℕ) (within : k < length path.runs) where
  abbrev behind : List Leg
  behind = drop (k + 1) (legs_of net path)

  stops_well : ((rule : RunRule) → ¬ Breaks net settings path rule k) → StopsWell (leg_at net path k) behind
  stops_well keep = elim (leb_tells (suc (k + 1)) (length path.runs)) [
    | inl more ↦ rw (legs_from_here net path (k + 1) (more.1)) (λ stops none. keep rule_6 (more.1, stops, none))
    | inr last ↦ rw (legs_past net path (k + 1) (let high = last.1 in omega arith)) (must_stop (run_at path k).stops (λ passes. keep rule_4 (let high = last.1 in omega arith, passes)))
  ]

  stops_not_wrongly : StopsWell (leg_at net path k) behind → (¬ Breaks net settings path rule_4 k) × (¬ Breaks net settings path rule_6 k)
  stops_not_wrongly well = elim (leb_tells (suc (k + 1)) (length path.runs)) [
    | inl more ↦
        let idle = subst (StopsWell (leg_at net path k)) (legs_from_here net path (k + 1) (more.1)) well in
        (λ breaks. (let is_last = breaks.0 in let high = more.1 in omega arith), λ breaks. idle breaks.1 breaks.2)
    | inr last ↦
        let stops : (run_at path k).stops ≡ true = subst (StopsWell (leg_at net path k)) (legs_past net path (k + 1) (let high = last.1 in omega arith)) well in
        (λ breaks. (let passes = breaks.1 in cc), λ breaks. (let before = breaks.0 in let high = last.1 in omega arith))
  ]

-- what is before a leg
module _ (net : Network) (settings : Settings) (path : Path) where
  follows_well : (k : ℕ) → ((rule : RunRule) → ¬ Breaks net settings path rule k) → Follows (leg_before net path k) (leg_at net path k) × Enters (leg_before net path k) (leg_at net path k)
  follows_well zero keep = (tt, tt)
  follows_well (suc k) keep =
      let some : nat_eq (suc k) 0 ≡ false = grind (arith, nat_tests) in
      rw some (same_numbers _ _ (λ apart. keep rule_1 (omega arith, apart)), enters_well _ _ (run_at path (suc k - 1)).stops (λ wrong. keep rule_3 (omega arith, wrong)))

  follows_not_wrongly : (k : ℕ) → Follows (leg_before net path k) (leg_at net path k) → Enters (leg_before net path k) (leg_at net path k) → (¬ Breaks net settings path rule_1 k) × (¬ Breaks net settings path rule_3 k)
  follows_not_wrongly zero follows enters = (λ breaks. (let some = breaks.0 in omega arith), λ breaks. (let some = breaks.0 in omega arith))
  follows_not_wrongly (suc k) follows enters =
      let some : nat_eq (suc k) 0 ≡ false = grind (arith, nat_tests) in
      let follows_on : Follows (Some (leg_at net path (suc k - 1))) (leg_at net path (suc k)) = subst (λ b. Follows (if b then None else Some (leg_at net path (suc k - 1))) (leg_at net path (suc k))) some follows in
      let enters_on : Enters (Some (leg_at net path (suc k - 1))) (leg_at net path (suc k)) = subst (λ b. Enters (if b then None else Some (leg_at net path (suc k - 1))) (leg_at net path (suc k))) some enters in
      (λ breaks. breaks.1 follows_on, λ breaks. enters_not_wrongly _ _ (run_at path (suc k - 1)).stops enters_on breaks.1)

  leg_keeps : (k : ℕ) → k < length path.runs → ((rule : RunRule) → ¬ Breaks net settings path rule k) → KeepsRules path.train settings (leg_before net path k) (leg_at net path k) (drop (k + 1) (legs_of net path))
  leg_keeps k within keep = record {
    follows = (follows_well k keep).0;
    timed = same_ticks _ _ (keep rule_2);
    enters = (follows_well k keep).1;
    stops = stops_well net settings path k within keep;
    begins = by_lt_z (run_at path k).enter (pos 0) (λ early. absurd (keep rule_5 (inl early))) (λ from. from);
    ends = by_lt_z (pos settings.horizon) (run_at path k).leave (λ late. absurd (keep rule_5 (inr late))) (λ by. by);
  }

  leg_breaks_none : (k : ℕ) → k < length path.runs → KeepsRules path.train settings (leg_before net path k) (leg_at net path k) (drop (k + 1) (legs_of net path)) → (rule : RunRule) → ¬ Breaks net settings path rule k
  leg_breaks_none k within keep rule_1 = (follows_not_wrongly k keep.follows keep.enters).0
  leg_breaks_none k within keep rule_2 = λ apart. apart keep.timed
  leg_breaks_none k within keep rule_3 = (follows_not_wrongly k keep.follows keep.enters).1
  leg_breaks_none k within keep rule_4 = (stops_not_wrongly net settings path k within keep.stops).0
  leg_breaks_none k within keep rule_5 = λ breaks. elim breaks [ inl early ↦ (let from = keep.begins in omega (arith, ints)) | inr late ↦ (let by = keep.ends in omega (arith, ints)) ]
  leg_breaks_none k within keep rule_6 = (stops_not_wrongly net settings path k within keep.stops).1

  before_next : (k : ℕ) → leg_before net path (k + 1) ≡ Some (leg_at net path k)
  before_next k =
      let some : nat_eq (k + 1) 0 ≡ false = grind (arith, nat_tests) in
      let less : k + 1 - 1 ≡ k = omega arith in
      rw (some, less) refl

  keep_from : (rest k : ℕ) → k + rest ≡ length path.runs → ((j : ℕ) (rule : RunRule) → k ≤ j → j < length path.runs → ¬ Breaks net settings path rule j) → KeepAll path.train settings (leg_before net path k) (drop k (legs_of net path))
  keep_from zero k all keep = rw (legs_past net path k (omega (arith, all))) tt
  keep_from (suc rest) k all keep =
      let within : k < length path.runs = omega (arith, all) in
      rw (legs_from_here net path k within)
      (leg_keeps k within (λ rule. keep k rule (omega arith) within), subst (λ before. KeepAll path.train settings before (drop (k + 1) (legs_of net path))) (before_next k) (keep_from rest (k + 1) (omega (arith, all)) (λ j rule from inside. keep j rule (omega arith) inside)))

  break_none_from : (rest k : ℕ) → k + rest ≡ length path.runs → KeepAll path.train settings (leg_before net path k) (drop k (legs_of net path)) → (j : ℕ) (rule : RunRule) → k ≤ j → j < length path.runs → ¬ Breaks net settings path rule j
  break_none_from zero k all keep j rule from inside = absurd (omega (arith, all))
  break_none_from (suc rest) k all keep j rule from inside =
      let within : k < length path.runs = omega (arith, all) in
      let both = subst (KeepAll path.train settings (leg_before net path k)) (legs_from_here net path k within) keep in
      elim (leb_tells (suc k) j) [
        | inl later ↦ break_none_from rest (k + 1) (omega (arith, all)) (subst (λ before. KeepAll path.train settings before (drop (k + 1) (legs_of net path))) (sym (before_next k)) both.1) j rule (let on = later.1 in omega arith) inside
        | inr here ↦ let same : k ≡ j = (let by = here.1 in omega arith) in subst (λ n. ¬ Breaks net settings path rule n) same (leg_breaks_none k within both.0 rule)
      ]

pub legs_are_the_runs : LegsAreTheRuns
legs_are_the_runs = record {
  claims = λ net settings path. claims_from net settings path (length path.runs) 0 (omega arith);
  keeps = λ net settings path. (
    λ keep. keep_from net settings path (length path.runs) 0 (omega arith) (λ j rule from inside. keep j rule inside),
    λ keep k rule within. break_none_from net settings path (length path.runs) 0 (omega arith) keep k rule (omega arith) within,
  );
}
