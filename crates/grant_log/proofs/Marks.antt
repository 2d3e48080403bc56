-- The list of who frees which entry, when the last entry comes or goes.
use Rattle.std.proofs.Common.{◌≡◌, ◌≢◌, ◌⊎◌, ℕ, zero, suc, ◌+◌, ◌<◌, ◌++◌, ◌∷◌, List, [], length, set, take, slice_get, Option, Some, None, IfSome, true, false, sym, subst, inl, inr, ap, refl, ◌∙◌, arith, length-append, length-set, length-take}
use Rattle.std.proofs.lemmas.Bool.{cases_order}
use Rattle.std.proofs.lemmas.Option.{slice_get_within}
use Rattle.rail_types.specs.declared.entries.Entry.{Entry}
use Rattle.rail_types.specs.declared.entries.Deed.{Deed}
use Rattle.rail_types.specs.declared.entries.Deed.TheVariants.{Hold, Grant, Free}
use Rattle.rail_types.specs.Timetables.{Timetable}
use Rattle.grant_log.specs.Inside.{TellFreed, marked}
use Rattle.grant_log.specs.Live.{freed_by, frees}
use Rattle.grant_log.specs.Meanings.{MayJoin}
use Rattle.grant_log.specs.Verdict.{freed_position}
use Rattle.grant_log.proofs.Followed.{frees_itself, frees_other}
use Rattle.grant_log.proofs.Freed.{freed_now, freed_past, freed_same}
use Rattle.grant_log.proofs.Slices.{slice_get_kept, slice_get_last, take_slice_get}

module _ {X : Type 0} where
  set_here : (xs : List X) (at : ℕ) (x : X) → at < length xs → slice_get (set xs at x) at ≡ Some x
  set_here [] at x within = absurd (omega arith)
  set_here (y ∷ ys) zero x within = refl
  set_here (y ∷ ys) (suc at) x within = set_here ys at x (omega arith)

  set_elsewhere : (xs : List X) (at k : ℕ) (x : X) → k ≢ at → slice_get (set xs at x) k ≡ slice_get xs k
  set_elsewhere [] at k x apart = refl
  set_elsewhere (y ∷ ys) zero zero x apart = absurd (apart refl)
  set_elsewhere (y ∷ ys) zero (suc k) x apart = refl
  set_elsewhere (y ∷ ys) (suc at) zero x apart = refl
  set_elsewhere (y ∷ ys) (suc at) (suc k) x apart = set_elsewhere ys at k x (λ same. apart (ap suc same))

pub length_marked : (freed : List (Option ℕ)) (at freer : Option ℕ) → length (marked freed at freer) ≡ length freed
length_marked freed None freer = refl
length_marked freed (Some at) freer = length-set freed at freer

module _ (timetable : Timetable) (entries : List Entry) (entry : Entry) (freed : List (Option ℕ)) where
  -- what is told of earlier entries when one comes
  told_more : (deed : Deed) → entry.deed ≡ deed → MayJoin timetable entries entry.owner deed → TellFreed freed entries → (k : ℕ) → k < length entries → slice_get (marked freed (freed_position deed) (Some (length entries))) k ≡ Some (freed_by (entries ++ entry ∷ []) k)
  told_more (Hold claims reason) same joins told k less = told.each k less ∙ ap Some (sym (freed_same entries entry k less (ap (frees k) same)))
  told_more (Grant wanted path) same joins told k less = told.each k less ∙ ap Some (sym (freed_same entries entry k less (ap (frees k) same)))
  told_more (Free at) same joins told k less = elim (cases_order k at) [
    | inl here ↦
        let long = told.count in
        let now = freed_now entries entry at (omega arith) joins.3 (ap (frees at) same ∙ frees_itself at) in
        subst (λ j. slice_get (set freed at (Some (length entries))) j ≡ Some (freed_by (entries ++ entry ∷ []) j)) (sym here) (set_here freed at (Some (length entries)) (omega arith) ∙ ap Some (sym now))
    | inr unlike ↦
        let apart = unequal k at unlike in
        set_elsewhere freed at k (Some (length entries)) apart ∙ (told.each k less ∙ ap Some (sym (freed_same entries entry k less (ap (frees k) same ∙ frees_other at k apart))))
  ]
    where
      unequal : (a b : ℕ) → (a < b) ⊎ (b < a) → a ≢ b
      unequal a b (inl below) same = absurd (omega arith)
      unequal a b (inr above) same = absurd (omega arith)

  pub tell_push : MayJoin timetable entries entry.owner entry.deed → TellFreed freed entries → TellFreed (marked freed (freed_position entry.deed) (Some (length entries)) ++ None ∷ []) (entries ++ entry ∷ [])
  tell_push joins told =
      let front = marked freed (freed_position entry.deed) (Some (length entries)) in
      let long : length front ≡ length entries = length_marked freed (freed_position entry.deed) (Some (length entries)) ∙ told.count in
      record {
        count = length-append front (None ∷ []) ∙ (ap (λ n. n + 1) long ∙ sym (length-append entries (entry ∷ [])));
        each = λ k within. elim (cases_order k (length entries)) [
          | inl last ↦
              subst (λ j. slice_get (front ++ None ∷ []) j ≡ Some (freed_by (entries ++ entry ∷ []) j)) (long ∙ sym last)
              (slice_get_last front None ∙ ap Some (sym (freed_past (entries ++ entry ∷ []) (length front) (omega (arith, length-append entries (entry ∷ []))))))
          | inr unlike ↦ elim unlike [
            | inl less ↦ slice_get_kept front None k (freed_by (entries ++ entry ∷ []) k) (told_more entry.deed refl joins told k less)
            | inr more ↦ absurd (omega (arith, length-append entries (entry ∷ [])))
          ]
        ];
      }

  -- and when it goes
  told_less : (deed : Deed) → entry.deed ≡ deed → MayJoin timetable entries entry.owner deed → TellFreed freed (entries ++ entry ∷ []) → (k : ℕ) → k < length entries → slice_get (marked (take (length entries) freed) (freed_position deed) None) k ≡ Some (freed_by entries k)
  told_less (Hold claims reason) same joins told k less = take_slice_get (length entries) freed k less ∙ (told.each k (omega (arith, length-append entries (entry ∷ []))) ∙ ap Some (freed_same entries entry k less (ap (frees k) same)))
  told_less (Grant wanted path) same joins told k less = take_slice_get (length entries) freed k less ∙ (told.each k (omega (arith, length-append entries (entry ∷ []))) ∙ ap Some (freed_same entries entry k less (ap (frees k) same)))
  told_less (Free at) same joins told k less = elim (cases_order k at) [
    | inl here ↦
        let long = told.count in
        subst (λ j. slice_get (set (take (length entries) freed) at None) j ≡ Some (freed_by entries j)) (sym here) (set_here (take (length entries) freed) at None (omega (arith, length-append entries (entry ∷ []), length-take (length entries) freed)) ∙ ap Some (sym joins.3))
    | inr unlike ↦
        let apart = unequal k at unlike in
        set_elsewhere (take (length entries) freed) at k None apart
        ∙ (take_slice_get (length entries) freed k less ∙ (told.each k (omega (arith, length-append entries (entry ∷ []))) ∙ ap Some (freed_same entries entry k less (ap (frees k) same ∙ frees_other at k apart))))
  ]
    where
      unequal : (a b : ℕ) → (a < b) ⊎ (b < a) → a ≢ b
      unequal a b (inl below) same = absurd (omega arith)
      unequal a b (inr above) same = absurd (omega arith)

  pub tell_pop : MayJoin timetable entries entry.owner entry.deed → TellFreed freed (entries ++ entry ∷ []) → TellFreed (marked (take (length entries) freed) (freed_position entry.deed) None) entries
  tell_pop joins told =
      let long = told.count in
      record {
        count = length_marked (take (length entries) freed) (freed_position entry.deed) None ∙ cut long;
        each = told_less entry.deed refl joins told;
      }
    where
      cut : length freed ≡ length (entries ++ entry ∷ []) → length (take (length entries) freed) ≡ length entries
      cut long = omega (arith, length-append entries (entry ∷ []), length-take (length entries) freed)

  pub names_below : MayJoin timetable entries entry.owner entry.deed → TellFreed freed (entries ++ entry ∷ []) → IfSome (freed_position entry.deed) (λ at. at < length (take (length entries) freed))
  names_below joins told = below entry.deed joins
    where
      long : length (take (length entries) freed) ≡ length entries
      long = let count = told.count in omega (arith, length-append entries (entry ∷ []), length-take (length entries) freed)

      below : (deed : Deed) → MayJoin timetable entries entry.owner deed → IfSome (freed_position deed) (λ at. at < length (take (length entries) freed))
      below (Hold claims reason) may = tt
      below (Grant wanted path) may = tt
      below (Free at) may = let within = slice_get_within entries at may.0 may.1.here in omega (arith, long)
