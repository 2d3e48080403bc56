-- A path that was found where a history stood, judged at a later one.
use Rattle.std.proofs.Common.{◌≡◌, ◌≢◌, ◌↔◌, ℕ, ◌<◌, List, length, map, take, slice_get}
use Rattle.std.proofs.Common.{slice_index_or, get_or, Contains, None, Some, ap, sym, ◌∙◌, subst}
use Rattle.std.proofs.Common.{refl, arith}
use Rattle.std.proofs.Math.ListN.{get_or-append, get_or-map}
use Rattle.std.proofs.lemmas.Bool.{cases_lt}
use Rattle.std.proofs.lemmas.List.{length-map, take_at}
use Rattle.std.proofs.lemmas.Option.{get_or_from_slice_get, slice_get-get_or, slice_get_within}
use mathlib.Core.Logic.{⊎_elim}
use Rattle.blocking_time.specs.declared.rules.Broken.{Broken}
use Rattle.blocking_time.specs.Laws.{JoinedFitAlike, StairwaysHaveTicks, TheFirstIsTold}
use Rattle.book_gate.specs.Views.{StartsWith}
use Rattle.path_commit.specs.history.declared.verdicts.Verdict.{Verdict}
use Rattle.path_commit.specs.history.declared.verdicts.Verdict.TheVariants as verdict
use Rattle.path_commit.specs.history.Legal.{Joins}
use Rattle.path_commit.specs.history.Live.{claims_of, freed_by, live_claims}
use Rattle.path_commit.specs.history.Meanings.{Says}
use Rattle.path_commit.specs.history.Verdict.{verdict_on}
use Rattle.path_commit.proofs.history_lemmas.Freed.{freed_take}
use Rattle.path_commit.specs.Answers.{IsTaken}
use Rattle.rail_types.specs.declared.entries.Deed.TheVariants.{Grant, Free}
use Rattle.rail_types.specs.declared.entries.Entry.{Entry}
use Rattle.rail_types.specs.declared.entries.Owner.{Owner}
use Rattle.rail_types.specs.declared.entries.Owner.TheVariants as owner
use Rattle.rail_types.specs.declared.entries.Wanted.TheVariants.{Asked}
use Rattle.rail_types.specs.declared.paths.Claim.{Claim}
use Rattle.rail_types.specs.declared.paths.Path.{Path}
use Rattle.rail_types.specs.declared.trains.Request.{Request}
use Rattle.rail_types.specs.FirstClash.{ClashesWith}
use Rattle.rail_types.specs.Occupation.{Clash, Fits, HeldClaim}
use Rattle.rail_types.specs.Timetables.{Timetable, base_claims}
use Rattle.ask_turns.specs.declared.client_turns.told.Refusal.{Refusal}
use Rattle.ask_turns.specs.declared.client_turns.told.Refusal.TheVariants as refusal
use Rattle.ask_turns.specs.Told.{IsRefusal, IsTakenBefore, IsTakenSince}
use Rattle.ask_turns.specs.declared.asks.Ask.{Ask}
use Rattle.ask_turns.specs.Finds.{IsNewNumber, entry_for}
use Rattle.ask_turns.specs.Laws.{HaveTicks, IsLater}
use Rattle.ask_turns.specs.Searched.{FitsAt, IsMissed, live_in}
use Rattle.ask_turns.specs.Tries.{IsOfNumber}

abbrev Unfreed : Type 0
Unfreed =
    (timetable : Timetable) (entries : List Entry) (claim : Claim) (at : ℕ)
    → Contains (live_claims timetable entries) (claim, owner.Entry at)
    ↔ ((entry : Entry) × (slice_get entries at ≡ Some entry)
    × Contains (claims_of timetable entry.deed) claim × (freed_by entries at ≡ None))

abbrev Planned : Type 0
Planned =
    (timetable : Timetable) (entries : List Entry) (claim : Claim) (train : ℕ)
    → Contains (live_claims timetable entries) (claim, owner.Base train)
    ↔ Contains (base_claims timetable) (claim, owner.Base train)

abbrev SayAll : Type 0
SayAll =
    (timetable : Timetable) (entries : List Entry) (entry : Entry)
    → Says timetable entries entry (verdict_on timetable entries entry)

-- ---- live claims of a beginning of a history

module _ (unfreed : Unfreed) (planned : Planned) (timetable : Timetable) (searched found : List Entry)
    (later : StartsWith found searched) where
  begins : take (length searched) found ≡ searched
  begins = ap (take (length searched)) later.1 ∙ take_at searched later.0 (length searched) refl

  stood : (at : ℕ) (entry : Entry) → at < length searched → slice_get found at ≡ Some entry
      → slice_get searched at ≡ Some entry
  stood at entry within here =
      let left = ap (λ l. get_or l at entry) later.1 ∙ get_or-append searched later.0 entry at within in
      let it : get_or searched at entry ≡ entry = sym left ∙ get_or_from_slice_get found at entry entry here in
      slice_get-get_or searched at entry within ∙ ap (λ e. Some e) it

  -- a claim that is live now was live then, but for those of entries since
  was_live : (claim : Claim) (holder : Owner)
      → ((at : ℕ) → holder ≡ owner.Entry at → at < length searched)
      → Contains (live_claims timetable found) (claim, holder)
      → Contains (live_claims timetable searched) (claim, holder)
  was_live claim (owner.Base train) before live =
      (planned timetable searched claim train).1 ((planned timetable found claim train).0 live)
  was_live claim (owner.Entry at) before live =
      let now = (unfreed timetable found claim at).0 live in
      (unfreed timetable searched claim at).1 (
        now.0,
        stood at now.0 (before at refl) now.1,
        now.2,
        subst (λ l. freed_by l at ≡ None) begins (freed_take found (length searched) at now.3),
      )

-- a live claim of claims that fit clashes with none of them
no_clash : (claims : List Claim) (held : List HeldClaim) (one : HeldClaim)
    → Fits claims (map (λ h. h.0) held) → Contains held one → ¬ ClashesWith claims one
no_clash claims held one fits has clashes =
    let k = has.0 in let claim = clashes.1 in
    let within : k < length (map (λ (h : HeldClaim). h.0) held) =
    let long = length-map held (λ (h : HeldClaim). h.0) in let less = has.1 in omega arith in
    let apart = fits clashes.0 claim clashes.2 k one.0 within in
    let is : slice_index_or (map (λ (h : HeldClaim). h.0) held) k one.0 ≡ one.0 =
    get_or-map (λ (h : HeldClaim). h.0) held k one ∙ ap (λ (h : HeldClaim). h.0) has.2 in
    let mine : ¬ Clash claim one.0 =
    subst (λ c. ¬ Clash c one.0) clashes.3
    (subst (λ c. ¬ Clash (slice_index_or claims clashes.0 claim) c) is apart) in
    let clash = clashes.4 in
    mine (sym clash.0, (clash.1.1, clash.1.0))

-- ---- a path that was found

none_some : (broken : Broken) → None ≡ Some broken → ⊥
none_some broken wrong = cc

frees_nothing : (request : Request) (path : Path) (at : ℕ) → Grant (Asked request) path ≡ Free at → ⊥
frees_nothing request path at wrong = cc

module _ (unfreed : Unfreed) (planned : Planned) (says : SayAll) (told : TheFirstIsTold)
    (ticks : StairwaysHaveTicks) (alike : JoinedFitAlike)
    (timetable : Timetable) (name : List ℕ) (ask : Ask) (path : Path) where
  abbrev its : Entry
  its = entry_for name ask path

  abbrev its_claims : List Claim
  its_claims = claims_of timetable (Grant (Asked ask.request) path)

  joined_fit : (entries : List Entry) → HaveTicks timetable entries
      → FitsAt timetable ask.request entries path → Fits its_claims (live_in timetable entries)
  joined_fit entries live fitted =
      let keeps = ((told.keeps timetable.net timetable.settings path (Asked ask.request)).0 fitted.keeps).0 in
      (alike _ (live_in timetable entries) (ticks timetable.net timetable.settings path keeps) live).1
      fitted.fits

  pub is_new : (found : List Entry) → IsTaken (verdict_on timetable found (entry_for name ask path))
      → IsNewNumber name ask.number found
  is_new found taken =
      go (verdict_on timetable found its) taken (says timetable found its)
    where
      go : (verdict : Verdict) → IsTaken verdict → Says timetable found its verdict
          → IsNewNumber name ask.number found
      go (verdict.Taken claim holder) is say = say.0
      go (verdict.Kept at) is say = absurd is
      go (verdict.Gone at freer) is say = absurd is
      go (verdict.Other at) is say = absurd is
      go (verdict.BreaksRequest broken) is say = absurd is
      go verdict.Unknown is say = absurd is
      go (verdict.NotYours other) is say = absurd is
      go (verdict.AlreadyFreed freer) is say = absurd is
      go verdict.Fresh is say = absurd is

  pub fresh : (found : List Entry) → Joins timetable found (entry_for name ask path)
      → IsNewNumber name ask.number found
  fresh found joins = (subst (Says timetable found its) joins.fresh (says timetable found its)).0

  module _ (searched found : List Entry) (was : IsLater timetable name ask path searched found) where
    pub missed : (at : ℕ)
        → IsTakenSince timetable found (entry_for name ask path) (length searched) at
        → IsMissed timetable ask.request searched found at
    missed at since =
        let stands = (unfreed timetable found since.clash.clashes.0 at).0 since.clash.clashes.1 in
        let within = slice_get_within found at stands.0 stands.1 in
        let behind = since.clash.behind in record {
          later = was.later;
          more = omega arith;
          path = path;
          fitted = was.fitted;
          clash = since.clash;
        }

    -- what is taken is taken by an entry since
    not_taken_before : (claim : Claim) (holder : Owner)
        → IsTakenBefore timetable found (entry_for name ask path) (length searched)
        → verdict_on timetable found (entry_for name ask path) ≡ verdict.Taken claim holder → ⊥
    not_taken_before claim holder before is =
        let say = subst (Says timetable found its) is (says timetable found its) in
        let first = say.1.first in
        let none = before (subst IsTaken (sym is) tt) in
        let only : (at : ℕ) → holder ≡ owner.Entry at → at < length searched = λ at same.
        ⊎_elim (λ less. less)
        (λ more. absurd (none at more (
          claim,
          subst (λ h. Contains (live_claims timetable found) (claim, h)) same first.is_held,
          subst (λ h. ClashesWith its_claims (claim, h)) same first.clashes,
        )))
        (cases_lt at (length searched)) in
        no_clash its_claims (live_claims timetable searched) (claim, holder)
        (joined_fit searched was.ticks was.fitted)
        (was_live unfreed planned timetable searched found was.later claim holder only first.is_held)
        first.clashes

    pub by_number : (told_so : Refusal)
        → IsTakenBefore timetable found (entry_for name ask path) (length searched)
        → IsRefusal found (verdict_on timetable found (entry_for name ask path)) told_so
        → (verdict_on timetable found (entry_for name ask path) ≢ verdict.Fresh)
        → IsOfNumber told_so
    by_number (refusal.Kept at deed) before is stale = tt
    by_number (refusal.Other (verdict.Kept at)) before is stale = absurd is.1
    by_number (refusal.Other (verdict.Gone at freer)) before is stale = tt
    by_number (refusal.Other (verdict.Other at)) before is stale = tt
    by_number (refusal.Other (verdict.Taken claim holder)) before is stale =
        absurd (not_taken_before claim holder before is.0)
    by_number (refusal.Other (verdict.BreaksRequest broken)) before is stale =
        let say = subst (Says timetable found its) is.0 (says timetable found its) in
        absurd (none_some broken (sym was.fitted.keeps ∙ say.1))
    by_number (refusal.Other verdict.Unknown) before is stale =
        let say = subst (Says timetable found its) is.0 (says timetable found its) in
        absurd (frees_nothing ask.request path say.1.0 say.1.1)
    by_number (refusal.Other (verdict.NotYours other)) before is stale =
        let say = subst (Says timetable found its) is.0 (says timetable found its) in
        absurd (frees_nothing ask.request path say.1.0 say.1.2.frees)
    by_number (refusal.Other (verdict.AlreadyFreed freer)) before is stale =
        let say = subst (Says timetable found its) is.0 (says timetable found its) in
        absurd (frees_nothing ask.request path say.1.0 say.1.2.frees)
    by_number (refusal.Other verdict.Fresh) before is stale = absurd (stale is.0)

    pub fits : HaveTicks timetable found → Joins timetable found (entry_for name ask path)
        → FitsAt timetable ask.request found path
    fits live joins =
        let say = subst (Says timetable found its) joins.fresh (says timetable found its) in
        let keeps = ((told.keeps timetable.net timetable.settings path (Asked ask.request)).0 was.fitted.keeps).0 in
        record {
          some = was.fitted.some;
          blocks = was.fitted.blocks;
          keeps = was.fitted.keeps;
          fits = (alike _ (live_in timetable found) (ticks timetable.net timetable.settings path keeps) live).0
              say.1.1;
        }
