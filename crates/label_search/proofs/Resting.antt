-- What is left behind calls, worked out from the last of them on.
use Rattle.std.proofs.Common.{◌≡◌, ◌≢◌, ◌∙◌, ℕ, suc, zero, ◌+◌, ◌-◌, ◌<◌, ◌≤◌, List, [], ◌∷◌, length, get_or, set, replicate, All, Bool, true, false, if◌then◌else◌, None, slice_get, sym, ap, subst, refl, arith, inl, inr}
use Rattle.std.specs.Prelude.{ℤ, pos, ◌+ℤ◌, ◌≤ℤ◌}
use Rattle.std.specs.Int.{int_min}
use Rattle.rail_types.specs.declared.limits.TheConstants.{FAR_TICK}
use Rattle.std.proofs.lemmas.Int.{ints}
use Rattle.std.proofs.lemmas.Bool.{cases_eq}
use Rattle.std.proofs.lemmas.Option.{unwrap_or-slice_get}
use Rattle.std.proofs.lemmas.List.{get_or_read, get_or-replicate, get_or-set_same, get_or-set_other, length-replicate, length-set}
use Rattle.std.proofs.lemmas.List.Elements.{All-head, All-tail, All-replicate, All-set}
use Rattle.label_search.specs.declared.charts.ChartCall.{ChartCall}
use Rattle.label_search.specs.declared.charts.ChartSpot.{ChartSpot}
use Rattle.label_search.specs.declared.limits.Ahead.{Ahead}
use Rattle.label_search.specs.declared.nearing.Near.{Near}
use Rattle.label_search.specs.Charts.{call_at, spot_at}
use Rattle.label_search.specs.Limits.{IsAhead, ahead_at}
use Rattle.label_search.specs.Nearing.{AreRestsFrom, near_at, stay_ahead, sum_ahead}

abbrev pub nothing : Ahead
nothing = record { ticks = pos 0 }

pub nothing_is : IsAhead nothing
nothing_is = (omega (arith, ints), omega (arith, ints))

-- what is ahead by a list of such numbers is one
pub ahead_is : (list : List Ahead) (at : ℕ) → All IsAhead list → IsAhead (ahead_at list at)
ahead_is [] at all = nothing_is
ahead_is (first ∷ list) zero all = All-head IsAhead first list all
ahead_is (first ∷ list) (suc at) all = ahead_is list at (All-tail IsAhead first list all)

pub ahead_read : (list : List Ahead) (at : ℕ) (one : Ahead) → at < length list → one ≡ get_or list at one → one ≡ ahead_at list at
ahead_read list at one within is = get_or_read list at one within is nothing ∙ sym (unwrap_or-slice_get list at nothing)

pub ahead_set : (list : List Ahead) (at : ℕ) (one : Ahead) → at < length list → ahead_at (set list at one) at ≡ one
ahead_set list at one within = unwrap_or-slice_get (set list at one) at nothing ∙ get_or-set_same list at one nothing within

pub ahead_other : (list : List Ahead) (at other : ℕ) (one : Ahead) → other ≢ at → ahead_at (set list at one) other ≡ ahead_at list other
ahead_other list at other one differs =
    unwrap_or-slice_get (set list at one) other nothing
    ∙ (get_or-set_other list at other one nothing differs ∙ sym (unwrap_or-slice_get list other nothing))

-- a train stands at no spot that is not on the chart
pub spot_past : (spots : List ChartSpot) (number : ℕ) → None ≡ slice_get spots number → false ≡ (spot_at spots number).standing
spot_past [] number past = refl
spot_past (spot ∷ spots) zero past = absurd (cc)
spot_past (spot ∷ spots) (suc number) past = spot_past spots number past

pub at_most : (one other third : ℤ) → one ≤ℤ other → other ≤ℤ third → one ≤ℤ third
at_most one other third first second = omega (arith, ints)

-- where nothing is waited, whether the train stands changes nothing
no_wait : (one other : Bool) (dwell : ℤ) → dwell ≡ pos 0 → (if one then dwell else pos 0) ≡ (if other then dwell else pos 0)
no_wait true true dwell none = refl
no_wait true false dwell none = none
no_wait false true dwell none = sym none
no_wait false false dwell none = refl

pub sum_unwaited : (one other : Bool) (call : ChartCall) (near : Near) (rest : Ahead) (spot : ℕ) → call.dwell ≡ pos 0
    → sum_ahead one call near rest spot ≡ sum_ahead other call near rest spot
sum_unwaited one other call near rest spot none =
    ap (λ (wait : ℤ). int_min ((wait +ℤ (ahead_at near.ticks spot).ticks) +ℤ rest.ticks) FAR_TICK) (no_wait one other call.dwell none)

-- the sum by what is told of the spot and the call
pub sum_there : (spots : List ChartSpot) (calls : List ChartCall) (nears : List Near) (rests : List Ahead) (spot made : ℕ) (standing : Bool) (call : ChartCall) (near : Near) (rest : Ahead)
    → standing ≡ (spot_at spots spot).standing → call ≡ call_at calls made → near ≡ near_at nears made → rest ≡ ahead_at rests made
    → sum_ahead standing call near rest spot ≡ stay_ahead spots calls nears rests spot made
sum_there spots calls nears rests spot made standing call near rest standing_is call_is near_is rest_is =
    ap (λ (one : Bool). sum_ahead one call near rest spot) standing_is
    ∙ (ap (λ (one : ChartCall). sum_ahead (spot_at spots spot).standing one near rest spot) call_is
    ∙ (ap (λ (one : Near). sum_ahead (spot_at spots spot).standing (call_at calls made) one rest spot) near_is
    ∙ ap (λ (one : Ahead). sum_ahead (spot_at spots spot).standing (call_at calls made) (near_at nears made) one spot) rest_is))

module _ (spots : List ChartSpot) (calls : List ChartCall) (nears : List Near) where
  -- nothing is left behind the last call
  pub rests_last : AreRestsFrom spots calls nears (length calls - 1) (replicate (length calls) nothing)
  rests_last = record {
    count = length-replicate (length calls) nothing;
    ticks = All-replicate IsAhead (length calls) nothing nothing_is;
    behind = λ made low high. absurd (omega arith);
    ends = λ made last. ap (λ (one : Ahead). one.ticks) (unwrap_or-slice_get (replicate (length calls) nothing) made nothing ∙ get_or-replicate (length calls) made nothing nothing (omega arith));
  }

  module _ (made : ℕ) (rests : List Ahead) (least : Ahead) (are : AreRestsFrom spots calls nears (made + 1) rests) (within : made + 1 < length calls) where
    abbrev more : List Ahead
    more = set rests made least

    still : (other : ℕ) → made + 1 ≤ other → ahead_at more other ≡ ahead_at rests other
    still other above = let differs : other ≢ made = omega arith in ahead_other rests made other least differs

    -- one call more, by the least that is ahead at the spots behind it
    pub rests_more : IsAhead least → All (λ spot. least.ticks ≤ℤ stay_ahead spots calls nears rests spot (made + 1)) (near_at nears made).behind → AreRestsFrom spots calls nears made more
    rests_more ahead leads = record {
      count = length-set rests made least ∙ are.count;
      ticks = All-set IsAhead rests made least ahead are.ticks;
      behind = λ other low high. elim (cases_eq other made) [
        | inl same ↦ subst (λ n. All (λ spot. (ahead_at more n).ticks ≤ℤ stay_ahead spots calls nears more spot (n + 1)) (near_at nears n).behind) (sym same)
            (subst (λ (one : Ahead). All (λ spot. one.ticks ≤ℤ stay_ahead spots calls nears more spot (made + 1)) (near_at nears made).behind) (sym (ahead_set rests made least (omega (arith, are.count))))
            (at_next (λ there. All (λ spot. least.ticks ≤ℤ sum_ahead (spot_at spots spot).standing (call_at calls (made + 1)) (near_at nears (made + 1)) there spot) (near_at nears made).behind) (made + 1) (omega arith) leads))
        | inr differs ↦ let above : made + 1 ≤ other = omega arith in
            subst (λ (one : Ahead). All (λ spot. one.ticks ≤ℤ stay_ahead spots calls nears more spot (other + 1)) (near_at nears other).behind) (sym (still other above))
            (at_next (λ there. All (λ spot. (ahead_at rests other).ticks ≤ℤ sum_ahead (spot_at spots spot).standing (call_at calls (other + 1)) (near_at nears (other + 1)) there spot) (near_at nears other).behind) (other + 1) (omega arith) (are.behind other above high))
      ];
      ends = λ other last. subst (λ (one : Ahead). one.ticks ≡ pos 0) (sym (still other (omega arith))) (are.ends other last);
    }
      where
        at_next : (Q : Ahead → Type 0) (next : ℕ) → made + 1 ≤ next → Q (ahead_at rests next) → Q (ahead_at more next)
        at_next Q next above holds = subst Q (sym (still next above)) holds

    -- the same where these are what is told of the next call
    pub rests_by : (call : ChartCall) (near : Near) (rest : Ahead) (behind : List ℕ) → call ≡ call_at calls (made + 1) → near ≡ near_at nears (made + 1) → rest ≡ ahead_at rests (made + 1) → behind ≡ (near_at nears made).behind → IsAhead least → All (λ spot. least.ticks ≤ℤ sum_ahead (spot_at spots spot).standing call near rest spot) behind → AreRestsFrom spots calls nears made more
    rests_by call near rest behind call_is near_is rest_is behind_is ahead leads =
        rests_more ahead
        (subst (λ (one : ChartCall). All (λ spot. least.ticks ≤ℤ sum_ahead (spot_at spots spot).standing one (near_at nears (made + 1)) (ahead_at rests (made + 1)) spot) (near_at nears made).behind) call_is
        (subst (λ (one : Near). All (λ spot. least.ticks ≤ℤ sum_ahead (spot_at spots spot).standing call one (ahead_at rests (made + 1)) spot) (near_at nears made).behind) near_is
        (subst (λ (one : Ahead). All (λ spot. least.ticks ≤ℤ sum_ahead (spot_at spots spot).standing call near one spot) (near_at nears made).behind) rest_is
        (subst (All (λ spot. least.ticks ≤ℤ sum_ahead (spot_at spots spot).standing call near rest spot)) behind_is leads))))
