-- Which later entry frees one, when a list of entries grows or is cut.
use Rattle.std.proofs.Common.{◌≡◌, ◌≢◌, ℕ, ◌+◌, ◌-◌, ◌<◌, ◌≤◌, true, false, List, [], ◌∷◌, ◌++◌, length, take, drop, Option, Some, None, option_map, position, sym, ap, refl, arith, ◌∙◌, length-drop, length-take, inl, inr}
use Rattle.std.proofs.lemmas.Bool.{cases_lt}
use Rattle.std.proofs.lemmas.List.{drop-append-le, drop_all, drop-take}
use Rattle.rail_types.specs.declared.entries.Entry.{Entry}
use Rattle.rail_types.specs.declared.entries.Deed.{Deed}
use Rattle.grant_log.specs.Live.{frees, freed_by}
use Rattle.grant_log.proofs.Positions.{position_stays, position_last, position_nowhere, position_take}

-- so many metres on, or nowhere
shifted : (at : ℕ) (place : Option ℕ) → option_map (λ behind. at + 1 + behind) place ≡ None → place ≡ None
shifted at None none = refl
shifted at (Some place) none = let wrong : Some (at + 1 + place) ≡ None = none in cc

-- nothing stands behind the last place
pub freed_past : (entries : List Entry) (at : ℕ) → length entries ≤ at + 1 → freed_by entries at ≡ None
freed_past entries at past = rw (drop_all (at + 1) entries past) refl

module _ (entries : List Entry) (entry : Entry) (at : ℕ) (within : at < length entries) where
  behind_grows : drop (at + 1) (entries ++ entry ∷ []) ≡ drop (at + 1) entries ++ entry ∷ []
  behind_grows = drop-append-le (at + 1) entries (entry ∷ []) (omega arith)

  -- what was freed stays freed by the same entry
  pub freed_stays : (freer : ℕ) → freed_by entries at ≡ Some freer → freed_by (entries ++ entry ∷ []) at ≡ Some freer
  freed_stays freer found = elim (position (λ one. frees at one.deed) (drop (at + 1) entries)) as (λ place. position (λ one. frees at one.deed) (drop (at + 1) entries) ≡ place → freed_by (entries ++ entry ∷ []) at ≡ Some freer) [
    | None ↦ λ here. let wrong : None ≡ Some freer = rw here at found in cc
    | Some place ↦ λ here. rw (behind_grows, position_stays (λ one. frees at one.deed) (drop (at + 1) entries) entry place here) (rw here at found)
  ] refl

  -- what none has freed may be freed by the new entry
  pub freed_now : freed_by entries at ≡ None → frees at entry.deed ≡ true → freed_by (entries ++ entry ∷ []) at ≡ Some (length entries)
  freed_now none yields =
      let nowhere = shifted at (position (λ one. frees at one.deed) (drop (at + 1) entries)) none in
      let last = position_last (λ one. frees at one.deed) (drop (at + 1) entries) entry nowhere yields in
      let long : at + 1 + length (drop (at + 1) entries) ≡ length entries = omega (arith, length-drop (at + 1) entries) in
      rw (behind_grows, last) (ap Some long)

  pub freed_never : freed_by entries at ≡ None → frees at entry.deed ≡ false → freed_by (entries ++ entry ∷ []) at ≡ None
  freed_never none fails =
      let nowhere = shifted at (position (λ one. frees at one.deed) (drop (at + 1) entries)) none in
      rw (behind_grows, position_nowhere (λ one. frees at one.deed) (drop (at + 1) entries) entry nowhere fails) refl

  -- an entry that frees another leaves what is told of this one
  pub freed_same : frees at entry.deed ≡ false → freed_by (entries ++ entry ∷ []) at ≡ freed_by entries at
  freed_same fails = elim (freed_by entries at) as (λ freer. freed_by entries at ≡ freer → freed_by (entries ++ entry ∷ []) at ≡ freer) [
    | None ↦ λ none. freed_never none fails
    | Some freer ↦ λ found. freed_stays freer found
  ] refl

  -- what none frees in the longer list none frees in the shorter
  pub freed_before : freed_by (entries ++ entry ∷ []) at ≡ None → freed_by entries at ≡ None
  freed_before none = elim (freed_by entries at) as (λ freer. freed_by entries at ≡ freer → freed_by entries at ≡ None) [
    | None ↦ λ here. here
    | Some freer ↦ λ here. let wrong : Some freer ≡ None = sym (freed_stays freer here) ∙ none in cc
  ] refl

-- what no entry frees none of the first entries frees
pub freed_take : (entries : List Entry) (front at : ℕ) → freed_by entries at ≡ None → freed_by (take front entries) at ≡ None
freed_take entries front at none = elim (cases_lt at front) [
  | inl less ↦
      let nowhere = shifted at (position (λ one. frees at one.deed) (drop (at + 1) entries)) none in
      let number : front ≡ at + 1 + (front - (at + 1)) = omega arith in
      let cut : drop (at + 1) (take front entries) ≡ take (front - (at + 1)) (drop (at + 1) entries) = ap (λ k. drop (at + 1) (take k entries)) number ∙ drop-take (at + 1) (front - (at + 1)) entries in
      rw (cut, position_take (λ one. frees at one.deed) (front - (at + 1)) (drop (at + 1) entries) nowhere) refl
  | inr more ↦ freed_past (take front entries) at (omega (arith, length-take front entries))
]
