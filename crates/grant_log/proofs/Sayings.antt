-- What each verdict says holds, and where it holds the verdict is told.
use Rattle.std.proofs.Common.{◌≡◌, ◌≢◌, ◌↔◌, ℕ, true, false, cond, List, map, get_or, slice_get, Option, Some, None, bytes_eq, sym, ap, subst, refl, ◌∙◌, All}
use Rattle.std.proofs.lemmas.List.Quantifiers.{position-Some}
use Rattle.std.proofs.lemmas.Option.{slice_get-get_or}
use Rattle.std.specs.Cmp.Lexicographic.{bytes_decides}
use Rattle.rail_types.specs.declared.paths.Claim.{Claim}
use Rattle.rail_types.specs.declared.entries.Entry.{Entry}
use Rattle.rail_types.specs.declared.entries.Owner.{Owner}
use Rattle.rail_types.specs.declared.entries.Deed.{Deed}
use Rattle.rail_types.specs.declared.entries.Deed.TheVariants.{Hold, Grant, Free}
use Rattle.rail_types.specs.FirstClash.{IsFirstClash, first_clash}
use Rattle.rail_types.specs.Occupation.{Fits, HeldClaim}
use Rattle.rail_types.specs.Timetables.{Timetable}
use Rattle.blocking_time.specs.declared.rules.Broken.{Broken}
use Rattle.grant_log.specs.declared.verdicts.Verdict.{Verdict}
use Rattle.grant_log.specs.declared.verdicts.Verdict.TheVariants.{Kept, Gone, Other, BreaksRequest, Taken, Unknown, NotYours, AlreadyFreed, Fresh}
use Rattle.grant_log.specs.Content.{HaveSameContent, has_same_content}
use Rattle.grant_log.specs.Live.{claims_of, freed_by, live_claims}
use Rattle.grant_log.specs.Meanings.{FitsLive, IsFreeOf, IsNew, IsNotTaken, MayJoin, MeetsClaim, Says, StandsAt}
use Rattle.grant_log.specs.Verdict.{already_or_fresh, bears, breaks, broken_or_else, first_taken, kept_or_gone, place_of, taken_or_fresh, takes, verdict_by_place, verdict_on, verdict_on_deed, verdict_on_free, verdict_on_freed, verdict_on_repeat}
use Rattle.grant_log.proofs.SameContents.{same_content}
use Rattle.grant_log.proofs.Positions.{is_false, not_true}
use Rattle.grant_log.proofs.Places.{is_new, is_standing, new_is, stands_is}

-- what the first clash is, as rail_types tells it
abbrev pub NoneFits : Type 0
NoneFits = (held : List HeldClaim) (claims : List Claim) → (first_clash held claims ≡ None) ↔ Fits claims (map (λ (one : HeldClaim). one.0) held)

abbrev pub SomeIsFirst : Type 0
SomeIsFirst = (held : List HeldClaim) (claims : List Claim) (first : HeldClaim) → first_clash held claims ≡ Some first → IsFirstClash held claims first

same_free : (a b : ℕ) → Free a ≡ Free b → a ≡ b
same_free a b same = cc

same_some : (a b : Entry) → Some a ≡ Some b → a ≡ b
same_some a b same = cc

module _ (none_fits : NoneFits) (some_first : SomeIsFirst) (timetable : Timetable) (entries : List Entry) (entry : Entry) where
  on_repeat : (at : ℕ) (stands : Entry) → StandsAt entries entry at stands → Says timetable entries entry (verdict_on_repeat entries entry.deed at (Some stands))
  on_repeat at stands standing = elim (has_same_content stands.deed entry.deed) as (λ test. has_same_content stands.deed entry.deed ≡ test → Says timetable entries entry (cond test (kept_or_gone at (freed_by entries at)) (Other at))) [
    | false ↦ λ fails. (stands, standing, λ same. not_true _ fails ((same_content stands.deed entry.deed).1 same))
    | true ↦ λ passes.
        let same = (same_content stands.deed entry.deed).0 passes in
        elim (freed_by entries at) as (λ freer. freed_by entries at ≡ freer → Says timetable entries entry (kept_or_gone at freer)) [
          | None ↦ λ none. ((stands, standing, same), none)
          | Some freer ↦ λ found. ((stands, standing, same), found)
        ] refl
  ] refl

  module _ (fresh_number : IsNew entries entry) where
    on_freed : (at : ℕ) (stands : Entry) → IsFreeOf entries entry.deed at stands → Says timetable entries entry (verdict_on_freed entry.owner stands.owner (freed_by entries at))
    on_freed at stands free = elim (bytes_eq stands.owner entry.owner) as (λ test. bytes_eq stands.owner entry.owner ≡ test → Says timetable entries entry (cond test (already_or_fresh (freed_by entries at)) (NotYours stands.owner))) [
      | false ↦ λ fails. (fresh_number, (at, stands, free, refl, λ same. not_true _ fails ((bytes_decides stands.owner entry.owner).1 same)))
      | true ↦ λ passes.
          let owner = (bytes_decides stands.owner entry.owner).0 passes in
          elim (freed_by entries at) as (λ freer. freed_by entries at ≡ freer → Says timetable entries entry (already_or_fresh freer)) [
            | None ↦ λ none. (fresh_number, subst (MayJoin timetable entries entry.owner) (sym free.frees) (stands, (record { frees = refl; here = free.here; takes = free.takes }), owner, none))
            | Some freer ↦ λ found. (fresh_number, (at, stands, free, owner, found))
          ] refl
    ] refl

    on_free : (at : ℕ) → entry.deed ≡ Free at → Says timetable entries entry (verdict_on_free entry.owner (slice_get entries at) (freed_by entries at))
    on_free at deed = elim (slice_get entries at) as (λ found. slice_get entries at ≡ found → Says timetable entries entry (verdict_on_free entry.owner found (freed_by entries at))) [
      | None ↦ λ nothing. (
        fresh_number,
        (
          at,
          deed,
          λ stands free.
              let same = same_free _ at (sym free.frees ∙ deed) in
              let wrong : Some stands ≡ None = sym free.here ∙ (ap (slice_get entries) same ∙ nothing) in
              cc,
        ),
      )
      | Some stands ↦ λ here. elim (takes stands.deed) as (λ test. takes stands.deed ≡ test → Says timetable entries entry (cond test (verdict_on_freed entry.owner stands.owner (freed_by entries at)) Unknown)) [
        | false ↦ λ fails. (
          fresh_number,
          (
            at,
            deed,
            λ other free.
                let same = same_free _ at (sym free.frees ∙ deed) in
                let one = same_some stands other (sym here ∙ (ap (slice_get entries) (sym same) ∙ free.here)) in
                not_true _ fails (subst (λ (it : Entry). takes it.deed ≡ true) (sym one) free.takes),
          ),
        )
        | true ↦ λ passes. on_freed at stands (record { frees = deed; here = here; takes = passes })
      ] refl
    ] refl

    on_claims : (deed : Deed) → entry.deed ≡ deed → breaks timetable deed ≡ None → takes deed ≡ true → Says timetable entries entry (taken_or_fresh (first_taken timetable entries deed))
    on_claims deed same keeps yields = elim (first_taken timetable entries deed) as (λ first. first_taken timetable entries deed ≡ first → Says timetable entries entry (taken_or_fresh first)) [
      | None ↦ λ none. (fresh_number, subst (MayJoin timetable entries entry.owner) (sym same) (joins deed keeps yields ((none_fits (live_claims timetable entries) (claims_of timetable deed)).0 none)))
      | Some held ↦ λ found. (fresh_number, subst (λ d. MeetsClaim timetable entries d (held.0, held.1)) (sym same) (record { keeps = keeps; first = some_first (live_claims timetable entries) (claims_of timetable deed) held found }))
    ] refl
      where
        joins : (d : Deed) → breaks timetable d ≡ None → takes d ≡ true → FitsLive timetable entries d → MayJoin timetable entries entry.owner d
        joins (Hold claims reason) none yields fits = (none, fits)
        joins (Grant wanted path) none yields fits = (none, fits)
        joins (Free at) none yields fits = let wrong : false ≡ true = yields in cc

    on_deed : (deed : Deed) → entry.deed ≡ deed → Says timetable entries entry (verdict_on_deed timetable entries entry.owner deed)
    on_deed (Free at) same = on_free at same
    on_deed (Hold claims reason) same = on_claims (Hold claims reason) same refl refl
    on_deed (Grant wanted path) same = elim (breaks timetable (Grant wanted path)) as (λ rule. breaks timetable (Grant wanted path) ≡ rule → Says timetable entries entry (broken_or_else rule (taken_or_fresh (first_taken timetable entries (Grant wanted path))))) [
      | None ↦ λ none. on_claims (Grant wanted path) same none refl
      | Some rule ↦ λ found. (fresh_number, subst (λ d. breaks timetable d ≡ Some rule) (sym same) found)
    ] refl

  pub says : Says timetable entries entry (verdict_on timetable entries entry)
  says = elim (place_of entries entry.owner entry.number) as (λ place. place_of entries entry.owner entry.number ≡ place → Says timetable entries entry (verdict_by_place timetable entries entry place)) [
    | None ↦ λ none. on_deed (new_is entries entry none) entry.deed refl
    | Some at ↦ λ found. elim (slice_get entries at) as (λ stands. slice_get entries at ≡ stands → Says timetable entries entry (verdict_on_repeat entries entry.deed at stands)) [
      | None ↦ λ nothing. absurd (stands_somewhere at found nothing)
      | Some stands ↦ λ here. on_repeat at stands (stands_is entries entry at stands found here)
    ] refl
  ] refl
    where
      stands_somewhere : (at : ℕ) → place_of entries entry.owner entry.number ≡ Some at → slice_get entries at ≡ None → ⊥
      stands_somewhere at found nothing =
          let within = (position-Some (bears entry.owner entry.number) entries at entry found).0 in
          let wrong : Some (get_or entries at entry) ≡ None = sym (slice_get-get_or entries at entry within) ∙ nothing in
          cc

module _ (none_fits : NoneFits) (timetable : Timetable) (entries : List Entry) (entry : Entry) where
  told_repeat : (at : ℕ) (stands : Entry) (same : has_same_content stands.deed entry.deed ≡ true) → StandsAt entries entry at stands → verdict_on timetable entries entry ≡ kept_or_gone at (freed_by entries at)
  told_repeat at stands same standing =
      ap (verdict_by_place timetable entries entry) (is_standing entries entry at stands standing)
      ∙ (ap (verdict_on_repeat entries entry.deed at) standing.here
      ∙ ap (λ test. cond test (kept_or_gone at (freed_by entries at)) (Other at)) same)

  told_other : (at : ℕ) (stands : Entry) → has_same_content stands.deed entry.deed ≡ false → StandsAt entries entry at stands → verdict_on timetable entries entry ≡ Other at
  told_other at stands apart standing =
      ap (verdict_by_place timetable entries entry) (is_standing entries entry at stands standing)
      ∙ (ap (verdict_on_repeat entries entry.deed at) standing.here
      ∙ ap (λ test. cond test (kept_or_gone at (freed_by entries at)) (Other at)) apart)

  module _ (fresh_number : IsNew entries entry) where
    pub told_new : (deed : Deed) → entry.deed ≡ deed → verdict_on timetable entries entry ≡ verdict_on_deed timetable entries entry.owner deed
    told_new deed same = ap (verdict_by_place timetable entries entry) (is_new entries entry fresh_number) ∙ ap (verdict_on_deed timetable entries entry.owner) same

    told_free : (at : ℕ) → entry.deed ≡ Free at → (stands : Entry) → IsFreeOf entries entry.deed at stands → verdict_on timetable entries entry ≡ verdict_on_freed entry.owner stands.owner (freed_by entries at)
    told_free at same stands free =
        told_new (Free at) same
        ∙ (ap (λ found. verdict_on_free entry.owner found (freed_by entries at)) free.here
        ∙ ap (λ test. cond test (verdict_on_freed entry.owner stands.owner (freed_by entries at)) Unknown) free.takes)

    told_own : (at : ℕ) (stands : Entry) → IsFreeOf entries entry.deed at stands → stands.owner ≡ entry.owner → verdict_on timetable entries entry ≡ already_or_fresh (freed_by entries at)
    told_own at stands free owner = told_free at free.frees stands free ∙ ap (λ test. cond test (already_or_fresh (freed_by entries at)) (NotYours stands.owner)) ((bytes_decides stands.owner entry.owner).1 owner)

    told_others : (at : ℕ) (stands : Entry) → IsFreeOf entries entry.deed at stands → stands.owner ≢ entry.owner → verdict_on timetable entries entry ≡ NotYours stands.owner
    told_others at stands free owner = told_free at free.frees stands free ∙ ap (λ test. cond test (already_or_fresh (freed_by entries at)) (NotYours stands.owner)) (is_false (bytes_eq stands.owner entry.owner) (λ test. owner ((bytes_decides stands.owner entry.owner).0 test)))

    told_unknown : (at : ℕ) → entry.deed ≡ Free at → ((stands : Entry) → ¬ IsFreeOf entries entry.deed at stands) → verdict_on timetable entries entry ≡ Unknown
    told_unknown at same nothing = told_new (Free at) same ∙ (elim (slice_get entries at) as (λ found. slice_get entries at ≡ found → verdict_on_free entry.owner found (freed_by entries at) ≡ Unknown) [
      | None ↦ λ none. refl
      | Some stands ↦ λ here. ap (λ test. cond test (verdict_on_freed entry.owner stands.owner (freed_by entries at)) Unknown) (is_false (takes stands.deed) (λ yields. nothing stands (record { frees = same; here = here; takes = yields })))
    ] refl)

    told_breaks : (rule : Broken) (deed : Deed) → entry.deed ≡ deed → breaks timetable deed ≡ Some rule → verdict_on timetable entries entry ≡ BreaksRequest rule
    told_breaks rule (Hold claims reason) same found = let wrong : None ≡ Some rule = found in cc
    told_breaks rule (Free at) same found = let wrong : None ≡ Some rule = found in cc
    told_breaks rule (Grant wanted path) same found = told_new (Grant wanted path) same ∙ ap (λ broken. broken_or_else broken (taken_or_fresh (first_taken timetable entries (Grant wanted path)))) found

    pub told_claims : (deed : Deed) → entry.deed ≡ deed → takes deed ≡ true → breaks timetable deed ≡ None → verdict_on timetable entries entry ≡ taken_or_fresh (first_taken timetable entries deed)
    told_claims (Hold claims reason) same yields keeps = told_new (Hold claims reason) same
    told_claims (Free at) same yields keeps = let wrong : false ≡ true = yields in cc
    told_claims (Grant wanted path) same yields keeps = told_new (Grant wanted path) same ∙ ap (λ broken. broken_or_else broken (taken_or_fresh (first_taken timetable entries (Grant wanted path)))) keeps

    fits : (deed : Deed) → FitsLive timetable entries deed → taken_or_fresh (first_taken timetable entries deed) ≡ Fresh
    fits deed all = ap taken_or_fresh ((none_fits (live_claims timetable entries) (claims_of timetable deed)).1 all)

    told_fresh : (deed : Deed) → entry.deed ≡ deed → MayJoin timetable entries entry.owner deed → verdict_on timetable entries entry ≡ Fresh
    told_fresh (Hold claims reason) same (keeps, all) = told_claims (Hold claims reason) same refl keeps ∙ fits (Hold claims reason) all
    told_fresh (Grant wanted path) same (keeps, all) = told_claims (Grant wanted path) same refl keeps ∙ fits (Grant wanted path) all
    told_fresh (Free at) same (stands, free, owner, none) = told_own at stands (record { frees = same; here = free.here; takes = free.takes }) owner ∙ ap already_or_fresh none

  pub only : (verdict : Verdict) → IsNotTaken verdict → Says timetable entries entry verdict → verdict_on timetable entries entry ≡ verdict
  only (Kept at) apart ((stands, standing, same), none) = told_repeat at stands ((same_content stands.deed entry.deed).1 same) standing ∙ ap (kept_or_gone at) none
  only (Gone at freer) apart ((stands, standing, same), found) = told_repeat at stands ((same_content stands.deed entry.deed).1 same) standing ∙ ap (kept_or_gone at) found
  only (Other at) apart (stands, standing, other) = told_other at stands (is_false (has_same_content stands.deed entry.deed) (λ test. other ((same_content stands.deed entry.deed).0 test))) standing
  only (BreaksRequest rule) apart (number, found) = told_breaks number rule entry.deed refl found
  only (Taken claim owner) apart told = absurd apart
  only Unknown apart (number, (at, same, nothing)) = told_unknown number at same nothing
  only (NotYours owner) apart (number, (at, stands, free, is, other)) = told_others number at stands free (λ same. other (sym is ∙ same)) ∙ ap NotYours is
  only (AlreadyFreed freer) apart (number, (at, stands, free, owner, found)) = told_own number at stands free owner ∙ ap already_or_fresh found
  only Fresh apart (number, joins) = told_fresh number entry.deed refl joins

taken_unless_fresh : (first : Option HeldClaim) → ¬ (first ≡ None) → (claim : Claim) × (owner : Owner) × (taken_or_fresh first ≡ Taken claim owner)
taken_unless_fresh None stale = absurd (stale refl)
taken_unless_fresh (Some held) stale = (held.0, held.1, refl)

pub taken_else : NoneFits → (timetable : Timetable) (entries : List Entry) (entry : Entry) → IsNew entries entry → takes entry.deed ≡ true → breaks timetable entry.deed ≡ None → ¬ FitsLive timetable entries entry.deed → (claim : Claim) × (owner : Owner) × (verdict_on timetable entries entry ≡ Taken claim owner)
taken_else none_fits timetable entries entry number yields keeps unfit =
    let found = taken_unless_fresh (first_taken timetable entries entry.deed) (λ none. unfit ((none_fits (live_claims timetable entries) (claims_of timetable entry.deed)).0 none)) in
    (found.0, found.1, told_claims none_fits timetable entries entry number entry.deed refl yields keeps ∙ found.2)
