-- The first release that is no detector passed, one further.
use Rattle.std.proofs.Common.{◌≡◌, ◌∙◌, ℕ, ◌+◌, ◌<◌, Bool, true, false, cond, List, [], ◌∷◌, ◌++◌, length, get_or, drop, take, Option, Some, None, sym, ap, append-nil}
use Rattle.std.proofs.lemmas.List.{at_drop_more}
use Rattle.std.specs.Prelude.{not}
use Rattle.std.specs.List.{cons_option}
use Rattle.route_walk.specs.declared.walks.Passed.{Passed}
use Rattle.route_walk.specs.Releases.{first_stray, has, release_at, releases_at}
use Rattle.route_walk.proofs.Passing.{one_more}

module _ (keys releases : List ℕ) (i d : ℕ) (within : i < length releases) (so : first_stray keys (drop i releases) ≡ first_stray keys releases) where
  step : (b : Bool) → not (has keys (get_or releases i d)) ≡ b → first_stray keys (drop i releases) ≡ cond b (Some (get_or releases i d)) (first_stray keys (drop (i + 1) releases))
  step b e = at_drop_more (first_stray keys) releases i d within ∙ ap (λ (c : Bool). cond c (Some (get_or releases i d)) (first_stray keys (drop (i + 1) releases))) e

  pub stray_here : has keys (get_or releases i d) ≡ false → Some (get_or releases i d) ≡ first_stray keys releases
  stray_here e = sym (step true (ap not e)) ∙ so

  pub stray_further : has keys (get_or releases i d) ≡ true → first_stray keys (drop (i + 1) releases) ≡ first_stray keys releases
  stray_further e = sym (step false (ap not e)) ∙ so

module _ (detectors : ℕ) (releases : List ℕ) (passed : List Passed) (i : ℕ) (d : Passed) (metres : List ℕ) (within : i < length passed) (so : metres ≡ releases_at detectors releases (take i passed)) where
  more : (o : Option ℕ) → release_at detectors releases (get_or passed i d) ≡ o → metres ++ cons_option o [] ≡ releases_at detectors releases (take (i + 1) passed)
  more o e = ap (λ (ms : List ℕ). ms ++ cons_option o []) so ∙ sym (one_more (release_at detectors releases) passed i d within ∙ ap (λ (p : Option ℕ). releases_at detectors releases (take i passed) ++ cons_option p []) e)

  pub release_more : (metre : ℕ) → release_at detectors releases (get_or passed i d) ≡ Some metre → metres ++ metre ∷ [] ≡ releases_at detectors releases (take (i + 1) passed)
  release_more metre e = more (Some metre) e

  pub release_none : release_at detectors releases (get_or passed i d) ≡ None → metres ≡ releases_at detectors releases (take (i + 1) passed)
  release_none e = sym (append-nil metres) ∙ more None e
