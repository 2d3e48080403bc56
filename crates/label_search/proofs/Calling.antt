-- The spots behind the calls of a chart.
use Rattle.std.proofs.Common.{◌≡◌, ℕ, ◌+◌, List, [], ◌∷◌, ◌++◌, length, map, filter, All, Bool, true, false, cond, subst, refl, arith, length-append}
use Rattle.std.proofs.lemmas.List.{get_or_append_left, get_or-append-add}
use Rattle.std.proofs.lemmas.List.Elements.{All-nil, All-cons, All-head, All-tail}
use Rattle.label_search.specs.declared.charts.ChartSpot.{ChartSpot}
use Rattle.label_search.specs.declared.charts.ChartWay.{ChartWay}
use Rattle.label_search.specs.Nearing.{behind_calls, behind_ways, is_call}

module _ (P : ℕ → Type 0) where
  all_left : (xs ys : List ℕ) → All P (xs ++ ys) → All P xs
  all_left xs ys all k d within = subst P (get_or_append_left xs ys d k within) (all k d (omega (arith, length-append xs ys)))

  all_right : (xs ys : List ℕ) → All P (xs ++ ys) → All P ys
  all_right xs ys all k d within = subst P (get_or-append-add xs ys k d) (all (length xs + k) d (omega (arith, length-append xs ys)))

  module _ (blocks : List ℕ) where
    abbrev pub Leads : ChartWay → Type 0
    Leads way = is_call blocks way ≡ true → P way.next

    first_leads : (way : ChartWay) (ways : List ChartWay) (called : Bool) → called ≡ is_call blocks way → All P (map (λ (one : ChartWay). one.next) (cond called (way ∷ ways) ways)) → Leads way × All P (map (λ (one : ChartWay). one.next) ways)
    first_leads way ways true same all = (λ is. All-head P way.next (map (λ (one : ChartWay). one.next) ways) all, All-tail P way.next (map (λ (one : ChartWay). one.next) ways) all)
    first_leads way ways false same all = (λ is. absurd (cc), all)

    -- what holds of each spot behind the calls holds of where each call leads to
    pub ways_lead : (ways : List ChartWay) → All P (behind_ways blocks ways) → All Leads ways
    ways_lead [] all = All-nil Leads
    ways_lead (way ∷ ways) all =
        let first = first_leads way (filter (is_call blocks) ways) (is_call blocks way) refl all in
        All-cons Leads way ways first.0 (ways_lead ways first.1)

    pub spots_lead : (spots : List ChartSpot) → All P (behind_calls blocks spots) → All (λ (spot : ChartSpot). All Leads spot.ways) spots
    spots_lead [] all = All-nil (λ (spot : ChartSpot). All Leads spot.ways)
    spots_lead (spot ∷ spots) all =
        All-cons (λ (spot : ChartSpot). All Leads spot.ways) spot spots
        (ways_lead spot.ways (all_left (behind_ways blocks spot.ways) (behind_calls blocks spots) all))
        (spots_lead spots (all_right (behind_ways blocks spot.ways) (behind_calls blocks spots) all))
