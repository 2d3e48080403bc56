-- What entries bring and free since a front, against what is live then and now.
use Rattle.std.proofs.Common.{◌≡◌, ◌≢◌, ◌⊎◌, ℕ, zero, suc, ◌+◌, ◌-◌, ◌<◌, ◌≤◌, true, false, nat_eq, List, [], ◌∷◌, ◌++◌, length, take, drop, get_or, position, Option, Some, None, option_map, is_some, if◌then◌else◌, All, AllPairs, Any, Contains, inl, inr, sym, ap, subst, refl, ◌∙◌, arith, length-append, length-drop, slice_get, ℤ, ◌<ℤ◌}
use Rattle.std.proofs.lemmas.Bool.{cases_lt}
use Rattle.std.proofs.lemmas.Int.{ints}
use Rattle.std.proofs.Math.Seq.{get_or-append_seam}
use Rattle.std.proofs.Math.ListN.{get_or-append}
use Rattle.std.proofs.lemmas.Bool.Decides.{nat_tests}
use Rattle.std.proofs.lemmas.List.{take_all}
use Rattle.std.proofs.lemmas.List.Elements.{All-append, All-nil, All-cons, All-contains, All-map, Contains-append_left, Contains-append_right}
use Rattle.std.proofs.lemmas.Option.{slice_get_within}
use Rattle.rail_types.specs.declared.paths.Claim.{Claim}
use Rattle.rail_types.specs.declared.bases.BaseClaim.{BaseClaim}
use Rattle.rail_types.specs.declared.entries.Entry.{Entry}
use Rattle.rail_types.specs.declared.entries.Deed.{Deed}
use Rattle.rail_types.specs.declared.entries.Deed.TheVariants.{Hold, Grant, Free}
use Rattle.rail_types.specs.declared.entries.Owner.TheVariants.{Base as of_train, Entry as of_entry}
use Rattle.rail_types.specs.Limits.{IsNear, IsNearSpan, IsTick}
use Rattle.rail_types.specs.Occupation.{AreJoined, Clash, HasTicks, HeldClaim}
use Rattle.rail_types.specs.Timetables.{IsTimetable, Timetable, base_claims}
use Rattle.occupation_book.specs.Held.{AreOnZonesOf, IsFree}
use Rattle.grant_log.specs.Following.{AreLive, Gains}
use Rattle.grant_log.specs.Legal.{IsInRange, IsLegal, NoneClash}
use Rattle.grant_log.specs.Live.{claims_of, freed_by, frees, live_claims, live_from, live_of, owned_by}
use Rattle.grant_log.specs.Verdict.{breaks}
use Rattle.grant_log.proofs.Freed.{freed_take}
use Rattle.grant_log.proofs.Lives.{IsUnfreed, entry_at, is_live, live_cases, live_from_more, live_is, owned_is, planned_is_live, planned_owner, unfreed_is_live}
use Rattle.grant_log.proofs.Positions.{is_false, none_passes, not_true, position_none}
use Rattle.grant_log.proofs.Slices.{is_contained, slice_get_take, take_slice_get}
use Rattle.grant_log.specs.Rooms.{MayBeHeld}
use Rattle.grant_log.specs.Since.{AreFreedBelow, IsFreedSince, brought_since, claims_at, claims_of_some}
use Rattle.grant_log.specs.declared.copy_since.since.Freed.{Freed}
use Rattle.grant_log.proofs.Elements.{all_by, no_element}
use Rattle.grant_log.proofs.Pairs.{all_pairs_append, all_pairs_map, all_pairs_nil}
use Rattle.grant_log.proofs.Gaining.{Left}

train_is_no_entry : (train at : ℕ) → of_train train ≢ of_entry at
train_is_no_entry train at same = cc

pub same_entry : (a b : ℕ) → of_entry a ≡ of_entry b → a ≡ b
same_entry a b same = cc

-- ---- elements by their places

pub found_at : {X : Type 0} (xs : List X) (x : X) → Contains xs x → (k : ℕ) × (slice_get xs k ≡ Some x)
found_at [] x contains = absurd (no_element x contains)
found_at (y ∷ xs) x (zero, within, here) = (0, ap Some here)
found_at (y ∷ xs) x (suc k, within, here) = let rest = found_at xs x (k, omega arith, here) in (suc rest.0, rest.1)

pub slice_get_drop : {X : Type 0} (n : ℕ) (xs : List X) (k : ℕ) → slice_get (drop n xs) k ≡ slice_get xs (n + k)
slice_get_drop zero xs k = let same : 0 + k ≡ k = omega arith in rw same refl
slice_get_drop (suc n) [] k = refl
slice_get_drop (suc n) (x ∷ xs) k = let next : suc n + k ≡ suc (n + k) = omega arith in rw next (slice_get_drop n xs k)

same_some : {X : Type 0} (a b : X) → ◌≡◌ {A = Option X} (Some a) (Some b) → a ≡ b
same_some a b same = cc

-- ---- who frees an entry

frees_is : (at : ℕ) (deed : Deed) → frees at deed ≡ true → deed ≡ Free at
frees_is at (Free freed) test = ap Free (same at freed test)
  where
    same : (at freed : ℕ) → nat_eq freed at ≡ true → freed ≡ at
    same at freed test = grind (arith, nat_tests)
frees_is at (Hold claims reason) test = cc
frees_is at (Grant wanted path) test = cc

frees_of : (at : ℕ) (deed : Deed) → deed ≡ Free at → frees at deed ≡ true
frees_of at deed is = subst (λ d. frees at d ≡ true) (sym is) (own at)
  where
    own : (at : ℕ) → nat_eq at at ≡ true
    own at = grind (arith, nat_tests)

none_of_map : (at : ℕ) (place : Option ℕ) → option_map (λ behind. at + 1 + behind) place ≡ None → place ≡ None
none_of_map at None none = refl
none_of_map at (Some place) none = let wrong : Some (at + 1 + place) ≡ None = none in cc

-- no later entry frees it
pub unfreed_by : (entries : List Entry) (at : ℕ) → ((k : ℕ) (entry : Entry) → at < k → slice_get entries k ≡ Some entry → entry.deed ≢ Free at) → freed_by entries at ≡ None
unfreed_by entries at none =
    let nowhere = position_none (λ entry. frees at entry.deed) (drop (at + 1) entries) (all_by (λ entry. frees at entry.deed ≡ false) (drop (at + 1) entries) (λ entry inside.
    let place = found_at (drop (at + 1) entries) entry inside in
    is_false (frees at entry.deed) (λ test. none (at + 1 + place.0) entry (omega arith) (sym (slice_get_drop (at + 1) entries place.0) ∙ place.1) (frees_is at entry.deed test)))) in
    rw nowhere refl

pub unfreed_is : (entries : List Entry) (at : ℕ) → freed_by entries at ≡ None → (k : ℕ) (entry : Entry) → at < k → slice_get entries k ≡ Some entry → entry.deed ≢ Free at
unfreed_is entries at none k entry later here deed =
    let nowhere = none_passes (λ entry. frees at entry.deed) (drop (at + 1) entries) (none_of_map at (position (λ entry. frees at entry.deed) (drop (at + 1) entries)) none) in
    let number : at + 1 + (k - (at + 1)) ≡ k = omega arith in
    let inside : slice_get (drop (at + 1) entries) (k - (at + 1)) ≡ Some entry = slice_get_drop (at + 1) entries (k - (at + 1)) ∙ ap (slice_get entries) number ∙ here in
    not_true (frees at entry.deed) (All-contains (λ entry. frees at entry.deed ≡ false) (drop (at + 1) entries) entry nowhere (is_contained (drop (at + 1) entries) (k - (at + 1)) entry inside)) (frees_of at entry.deed deed)

same_free : (a b : ℕ) → Free a ≡ Free b → a ≡ b
same_free a b same = cc

any_left : {X : Type 0} (P : X → Type 0) (xs ys : List X) → Any P xs → Any P (xs ++ ys)
any_left P xs ys (k, x, within, is, holds) = (k, x, omega (arith, length-append xs ys), get_or-append xs ys x k within ∙ is, holds)

any_last : {X : Type 0} (P : X → Type 0) (xs : List X) (x : X) → P x → Any P (xs ++ x ∷ [])
any_last P xs x holds = (length xs, x, omega (arith, length-append xs (x ∷ [])), get_or-append_seam xs x [] x, holds)

module _ (timetable : Timetable) (entries : List Entry) (front : ℕ) where
  -- ---- what was brought

  pub brought_is : (one : HeldClaim) → Contains (brought_since timetable entries front) one → (at : ℕ) × (entry : Entry) × (front ≤ at) × IsUnfreed timetable entries one at entry
  brought_is one contains =
      let found = live_is timetable entries front (drop front entries) one contains in
      (front + found.0, found.1, omega arith, record { owner = found.2.owner; stands = sym (slice_get_drop front entries found.0) ∙ found.2.stands; claim = found.2.claim; unfreed = found.2.unfreed })

  pub is_brought : (one : HeldClaim) (at : ℕ) (entry : Entry) → front ≤ at → IsUnfreed timetable entries one at entry → Contains (brought_since timetable entries front) one
  is_brought one at entry from is =
      let number : front + (at - front) ≡ at = omega arith in
      let stands : slice_get (drop front entries) (at - front) ≡ Some entry = slice_get_drop front entries (at - front) ∙ ap (slice_get entries) number ∙ is.stands in
      let brought = is_live timetable entries front (drop front entries) (at - front) entry one.0 stands is.claim (subst (λ k. freed_by entries k ≡ None) (sym number) is.unfreed) in
      subst (λ owner. Contains (brought_since timetable entries front) (one.0, owner)) (ap of_entry number ∙ sym is.owner) brought

  pub brought_live : (one : HeldClaim) → Contains (brought_since timetable entries front) one → Contains (live_claims timetable entries) one
  brought_live one contains =
      let found = brought_is one contains in
      subst (λ owner. Contains (live_claims timetable entries) (one.0, owner)) (sym found.3.owner) (unfreed_is_live timetable entries found.0 found.1 one.0 found.3.stands found.3.claim found.3.unfreed)

  pub brought_more : (at : ℕ) (entry : Entry) → front ≤ at → slice_get entries at ≡ Some entry → live_from timetable entries front (take (at + 1 - front) (drop front entries)) ≡ live_from timetable entries front (take (at - front) (drop front entries)) ++ live_of timetable entries at entry
  brought_more at entry from here =
      let number : front + (at - front) ≡ at = omega arith in
      let next : at + 1 - front ≡ at - front + 1 = omega arith in
      let stands : slice_get (drop front entries) (at - front) ≡ Some entry = slice_get_drop front entries (at - front) ∙ ap (slice_get entries) number ∙ here in
      ap (λ n. live_from timetable entries front (take n (drop front entries))) next
      ∙ live_from_more timetable entries front (at - front) (drop front entries) entry stands
      ∙ ap (λ n. live_from timetable entries front (take (at - front) (drop front entries)) ++ live_of timetable entries n entry) number

  -- ---- one entry that came alone, and has one claim

  pub brought_one : (claim : Claim) → length entries ≡ front + 1 → claims_at timetable entries front ≡ claim ∷ [] → (claim, of_entry front) ∷ [] ≡ brought_since timetable entries front
  brought_one claim alone claims =
      let here = entry_at entries front (omega arith) in
      let own : claims_of timetable here.0.deed ≡ claim ∷ [] = sym (ap (claims_of_some timetable) here.1) ∙ claims in
      let none : freed_by entries front ≡ None = unfreed_by entries front (λ k entry later stands deed. absurd (let within = slice_get_within entries k entry stands in omega (arith, within))) in
      let live : live_of timetable entries front here.0 ≡ owned_by front (claims_of timetable here.0.deed) = rw none refl in
      let one : front + 1 - front ≡ 1 = omega arith in
      let nothing : front - front ≡ 0 = omega arith in
      let whole : take 1 (drop front entries) ≡ drop front entries = take_all 1 (drop front entries) (omega (arith, length-drop front entries)) in
      ap (owned_by front) (sym own)
      ∙ sym live
      ∙ ap (λ n. live_from timetable entries front (take n (drop front entries)) ++ live_of timetable entries front here.0) (sym nothing)
      ∙ sym (brought_more front here.0 (omega arith) here.1)
      ∙ ap (λ n. live_from timetable entries front (take n (drop front entries))) one
      ∙ ap (live_from timetable entries front) whole

  -- it is no Free, which has none
  pub none_freed : (claim : Claim) → length entries ≡ front + 1 → claims_at timetable entries front ≡ claim ∷ [] → AreFreedBelow timetable entries front (length entries) []
  none_freed claim alone claims = record {
    each = All-nil (IsFreedSince timetable entries front);
    whole = λ at by entry before from below here frees.
        let same : by ≡ front = omega (arith, alone, from, below) in
        let own : claims_of timetable entry.deed ≡ claim ∷ [] = sym (ap (claims_of_some timetable) here) ∙ ap (claims_at timetable entries) same ∙ claims in
        let wrong : ◌≡◌ {A = List Claim} [] (claim ∷ []) = ap (claims_of timetable) (sym frees) ∙ own in
        absurd cc;
  }

  -- ---- what was freed

  module _ (freed : List Freed) (all : AreFreedBelow timetable entries front (length entries) freed) where
    not_freed : (at : ℕ) → at < front → All (λ gone. gone.at ≢ at) freed → freed_by (take front entries) at ≡ None → freed_by entries at ≡ None
    not_freed at before others none = unfreed_by entries at (λ k entry later here deed. elim (cases_lt k front) [
      | inl less ↦ unfreed_is (take front entries) at none k entry later (take_slice_get front entries k less ∙ here) deed
      | inr more ↦
          let named = all.whole at k entry before more (slice_get_within entries k entry here) here deed in
          All-contains (λ gone. gone.at ≢ at) freed named.1 others (named.0, named.2, named.3) named.4
    ])

    -- what is left stays live, and belongs to an entry before the front, or to none
    pub left_live : (one : HeldClaim) → Contains (live_claims timetable (take front entries)) one → All (λ gone. one.1 ≢ of_entry gone.at) freed → Contains (live_claims timetable entries) one × ((at : ℕ) → front ≤ at → one.1 ≢ of_entry at)
    left_live one live others = elim (live_cases timetable (take front entries) one live) [
      | inl planned ↦ let train = planned_owner timetable one planned in (planned_is_live timetable entries one planned, λ at from same. train_is_no_entry train.0 at (sym train.1 ∙ same))
      | inr (at, entry, is) ↦
          let cut = slice_get_take front entries at entry is.stands in
          let apart : All (λ gone. gone.at ≢ at) freed = all_by (λ gone. gone.at ≢ at) freed (λ gone inside same. All-contains (λ gone. one.1 ≢ of_entry gone.at) freed gone others inside (is.owner ∙ ap of_entry (sym same))) in
          let none = not_freed at cut.0 apart is.unfreed in (
            subst (λ owner. Contains (live_claims timetable entries) (one.0, owner)) (sym is.owner) (unfreed_is_live timetable entries at entry one.0 cut.1 is.claim none),
            λ k from same. let wrong = same_entry at k (sym is.owner ∙ same) in absurd (let less = cut.0 in omega (arith, wrong, less)),
          )
    ]

    -- what is live now was left, or was brought
    pub live_left : (one : HeldClaim) → Contains (live_claims timetable entries) one → (Contains (live_claims timetable (take front entries)) one × All (λ gone. one.1 ≢ of_entry gone.at) freed) ⊎ Contains (brought_since timetable entries front) one
    live_left one live = elim (live_cases timetable entries one live) [
      | inl planned ↦ let train = planned_owner timetable one planned in inl (planned_is_live timetable (take front entries) one planned, all_by (λ gone. one.1 ≢ of_entry gone.at) freed (λ gone inside same. train_is_no_entry train.0 gone.at (sym train.1 ∙ same)))
      | inr (at, entry, is) ↦ elim (cases_lt at front) [
        | inl less ↦
            let was : Contains (live_claims timetable (take front entries)) one = subst (λ owner. Contains (live_claims timetable (take front entries)) (one.0, owner)) (sym is.owner) (unfreed_is_live timetable (take front entries) at entry one.0 (take_slice_get front entries at less ∙ is.stands) is.claim (freed_take entries front at is.unfreed)) in
            inl (
              was,
              all_by (λ gone. one.1 ≢ of_entry gone.at) freed (λ gone inside same.
                  let mine = same_entry at gone.at (sym is.owner ∙ same) in
                  let named = (All-contains (IsFreedSince timetable entries front) freed gone all.each inside).freed in
                  let later = named.later in
                  unfreed_is entries at is.unfreed named.by named.entry (omega arith) named.here (named.frees ∙ ap Free (sym mine))),
            )
        | inr more ↦ inr (is_brought one at entry more is)
      ]
    ]

    -- a copy that was live, without what was freed and with what was brought, is live
    pub brought_up : (old mid new : List HeldClaim) → AreLive timetable old (take front entries) → Left old mid freed → Gains mid (brought_since timetable entries front) new → AreLive timetable new entries
    brought_up old mid new live left gains one = (
      (λ contains. elim ((gains one).0 contains) [
        | inl stayed ↦ let was = (left one).0 stayed in (left_live one ((live one).0 was.0) was.1).0
        | inr came ↦ brought_live one came
      ]),
      (λ contains. (gains one).1 (elim (live_left one contains) [
        | inl was ↦ inl ((left one).1 ((live one).1 was.0, was.1))
        | inr came ↦ inr came
      ])),
    )

  -- ---- each brought claim may be held, and no two clash

  module _ (planned : IsTimetable timetable) (legal : IsLegal timetable entries)
      (zones : (entry : Entry) → IsTimetable timetable → IsInRange timetable entry → All (λ claim. claim.zone < timetable.net.zones) (claims_of timetable entry.deed))
      (joined : (entry : Entry) → IsInRange timetable entry → AreJoined (claims_of timetable entry.deed))
      (near : (entry : Entry) → IsTimetable timetable → IsInRange timetable entry → breaks timetable entry.deed ≡ None → All (λ claim. IsNearSpan claim.span) (claims_of timetable entry.deed))
      (keeps : (at : ℕ) (entry : Entry) → IsLegal timetable entries → slice_get entries at ≡ Some entry → breaks timetable entry.deed ≡ None)
      (none : NoneClash (live_claims timetable entries)) where
    pub may_be_held : (count : ℕ) → count ≡ timetable.net.zones → All (MayBeHeld count) (brought_since timetable entries front)
    may_be_held count same = all_by (MayBeHeld count) (brought_since timetable entries front) (λ one inside.
        let found = brought_is one inside in
        let joins = legal found.0 found.1 found.3.stands in
        let claims = claims_of timetable found.1.deed in record {
          zone = subst (λ n. one.0.zone < n) (sym same) (All-contains (λ claim. claim.zone < timetable.net.zones) claims one.0 (zones found.1 planned joins.in_range) found.3.claim);
          ticks = All-contains (λ claim. HasTicks claim.span) claims one.0 (joined found.1 joins.in_range).ticks found.3.claim;
          near = All-contains (λ claim. IsNearSpan claim.span) claims one.0 (near found.1 planned joins.in_range (keeps found.0 found.1 legal found.3.stands)) found.3.claim;
        })

    -- two live claims with other owners do not clash
    pub live_apart : (one other : HeldClaim) → Contains (live_claims timetable entries) one → Contains (live_claims timetable entries) other → one.1 ≢ other.1 → ¬ Clash one.0 other.0
    live_apart one other here there apart =
        let i = found_at (live_claims timetable entries) one here in
        let j = found_at (live_claims timetable entries) other there in
        none i.0 j.0 one other i.1 j.1 apart

    joined_apart : (claims : List Claim) (at : ℕ) → AreJoined claims → AllPairs (λ one other. ¬ Clash one.0 other.0) (owned_by at claims)
    joined_apart claims at is = all_pairs_map (λ one other. ¬ Clash one.0 other.0) (λ claim. (claim, of_entry at)) claims (λ i j other less inside clash. elim (is.apart i j other less inside) [
      | inl lower ↦ absurd (let same = clash.0 in omega (arith, lower, same))
      | inr ends ↦ ended (get_or claims i other) (get_or claims j other) ends.1 clash.1.1
    ])
      where
        ended : (a b : Claim) → a.span.to <ℤ b.span.from → b.span.from <ℤ a.span.to → ⊥
        ended a b before after = absurd (omega (arith, ints))

    when_live : (freer : Option ℕ) (claims : List HeldClaim) → AllPairs (λ one other. ¬ Clash one.0 other.0) claims → AllPairs (λ one other. ¬ Clash one.0 other.0) (if is_some freer then [] else claims)
    when_live None claims apart = apart
    when_live (Some freer) claims apart = all_pairs_nil (λ one other. ¬ Clash one.0 other.0)

    when_owned : (at : ℕ) (freer : Option ℕ) (claims : List Claim) (one : HeldClaim) → Contains (if is_some freer then [] else owned_by at claims) one → one.1 ≡ of_entry at
    when_owned at None claims one contains = (owned_is at claims one contains).0
    when_owned at (Some freer) claims one contains = absurd (no_element one contains)

    apart_from : (at : ℕ) (others : List Entry) → ((k : ℕ) (entry : Entry) → slice_get others k ≡ Some entry → slice_get entries (at + k) ≡ Some entry) → ((one : HeldClaim) → Contains (live_from timetable entries at others) one → Contains (live_claims timetable entries) one) → AllPairs (λ one other. ¬ Clash one.0 other.0) (live_from timetable entries at others)
    apart_from at [] stand live = all_pairs_nil (λ one other. ¬ Clash one.0 other.0)
    apart_from at (entry ∷ others) stand live =
        let here : slice_get entries at ≡ Some entry = let same : at + 0 ≡ at = omega arith in rw same at (stand 0 entry refl) in
        let own = live_of timetable entries at entry in
        let rest = live_from timetable entries (at + 1) others in
        let first : AllPairs (λ one other. ¬ Clash one.0 other.0) own = when_live (freed_by entries at) (owned_by at (claims_of timetable entry.deed)) (joined_apart (claims_of timetable entry.deed) at (joined entry (legal at entry here).in_range)) in
        let behind = apart_from (at + 1) others (λ k it is. let same : at + 1 + k ≡ at + suc k = omega arith in rw same (stand (suc k) it is)) (λ one inside. live one (Contains-append_right own rest one inside)) in
        all_pairs_append (λ one other. ¬ Clash one.0 other.0) own rest first behind (all_by (λ one. All (λ other. ¬ Clash one.0 other.0) rest) own (λ one inside. all_by (λ other. ¬ Clash one.0 other.0) rest (λ other there.
        let mine = when_owned at (freed_by entries at) (claims_of timetable entry.deed) one inside in
        let found = live_is timetable entries (at + 1) others other there in
        live_apart one other (live one (Contains-append_left own rest one inside)) (live other (Contains-append_right own rest other there)) (λ same. let wrong = same_entry at (at + 1 + found.0) (sym mine ∙ same ∙ found.2.owner) in absurd (omega (arith, wrong))))))

    pub brought_apart : AllPairs (λ one other. ¬ Clash one.0 other.0) (brought_since timetable entries front)
    brought_apart = apart_from front (drop front entries) (λ k entry is. sym (slice_get_drop front entries k) ∙ is) brought_live

    -- what was left leaves what was brought free
    pub brought_free : (freed : List Freed) → AreFreedBelow timetable entries front (length entries) freed → (old mid : List HeldClaim) → AreLive timetable old (take front entries) → Left old mid freed → All (λ one. IsFree mid one.0) (brought_since timetable entries front)
    brought_free freed all old mid live left = all_by (λ one. IsFree mid one.0) (brought_since timetable entries front) (λ one inside. all_by (λ other. ¬ Clash other.0 one.0) mid (λ other there.
        let was = (left other).0 there in
        let stays = left_live freed all other ((live other).0 was.0) was.1 in
        let found = brought_is one inside in
        live_apart other one stays.0 (brought_live one inside) (λ same. stays.1 found.0 found.2 (same ∙ found.3.owner))))

    -- the claims of what was freed stand on the zones that are told of it
    pub freed_zones : (freed : List Freed) → AreFreedBelow timetable entries front (length entries) freed → (count : ℕ) → count ≡ timetable.net.zones → All (λ one. All (λ claim. claim.zone < count) one.claims) freed
    freed_zones freed all count same = all_by (λ one. All (λ claim. claim.zone < count) one.claims) freed (λ gone inside.
        let is = All-contains (IsFreedSince timetable entries front) freed gone all.each inside in
        subst (All (λ claim. claim.zone < count)) (sym is.claims) (go gone.at (slice_get entries gone.at) refl))
      where
        go : (at : ℕ) (here : Option Entry) → slice_get entries at ≡ here → All (λ claim. claim.zone < count) (claims_of_some timetable here)
        go at None is = All-nil (λ claim. claim.zone < count)
        go at (Some entry) is = subst (λ n. All (λ claim. claim.zone < n) (claims_of timetable entry.deed)) (sym same) (zones entry planned (legal at entry is).in_range)

  pub freed_own : (freed : List Freed) → AreFreedBelow timetable entries front (length entries) freed → (old : List HeldClaim) → AreLive timetable old (take front entries) → All (λ one. AreOnZonesOf (of_entry one.at) old one.claims) freed
  freed_own freed all old live = all_by (λ one. AreOnZonesOf (of_entry one.at) old one.claims) freed (λ gone inside. all_by (λ one. one.1 ≡ of_entry gone.at → Any (λ claim. claim.zone ≡ one.0.zone) gone.claims) old (λ one there mine. elim (live_cases timetable (take front entries) one ((live one).0 there)) [
    | inl plan ↦ let train = planned_owner timetable one plan in absurd (train_is_no_entry train.0 gone.at (sym train.1 ∙ mine))
    | inr (at, entry, is) ↦
        let same = same_entry at gone.at (sym is.owner ∙ mine) in
        let cut = slice_get_take front entries at entry is.stands in
        let told = All-contains (IsFreedSince timetable entries front) freed gone all.each inside in
        let claims : gone.claims ≡ claims_of timetable entry.deed = told.claims ∙ ap (claims_at timetable entries) (sym same) ∙ ap (claims_of_some timetable) cut.1 in
        subst (Any (λ claim. claim.zone ≡ one.0.zone)) (sym claims) (any_zone (claims_of timetable entry.deed) one.0 is.claim)
  ]))
    where
      any_zone : (claims : List Claim) (claim : Claim) → Contains claims claim → Any (λ it. it.zone ≡ claim.zone) claims
      any_zone claims claim (k, within, here) = (k, claim, within, here, refl)

  -- ---- one entry more that frees another

  pub freed_yes : (by at : ℕ) (entry : Entry) (all : List Freed) (one : Freed) → front ≤ by → slice_get entries by ≡ Some entry → entry.deed ≡ Free at → at < front → one.at ≡ at → one.claims ≡ claims_at timetable entries at → AreFreedBelow timetable entries front by all → AreFreedBelow timetable entries front (by + 1) (all ++ one ∷ [])
  freed_yes by at entry all one from here deed before is claims known = record {
    each = All-append (IsFreedSince timetable entries front) all (one ∷ []) known.each (All-cons (IsFreedSince timetable entries front) one [] (record {
      before = subst (λ k. k < front) (sym is) before;
      claims = claims ∙ ap (claims_at timetable entries) (sym is);
      freed = record { by = by; entry = entry; later = from; here = here; frees = deed ∙ ap Free (sym is) };
    }) (All-nil (IsFreedSince timetable entries front)));
    whole = λ at' by' entry' before' from' below stands frees'. elim (cases_lt by' by) [
      | inl less ↦ any_left (λ it. it.at ≡ at') all (one ∷ []) (known.whole at' by' entry' before' from' less stands frees')
      | inr more ↦
          let now : by' ≡ by = omega arith in
          let entries_same : entry' ≡ entry = same_some entry' entry (sym stands ∙ ap (slice_get entries) now ∙ here) in
          let mine : at' ≡ at = same_free at' at (sym frees' ∙ ap (λ (e : Entry). e.deed) entries_same ∙ deed) in
          any_last (λ it. it.at ≡ at') all one (is ∙ sym mine)
    ];
  }

  pub freed_no : (by : ℕ) (entry : Entry) (all : List Freed) → slice_get entries by ≡ Some entry → ((at : ℕ) → entry.deed ≡ Free at → front ≤ at) → AreFreedBelow timetable entries front by all → AreFreedBelow timetable entries front (by + 1) all
  freed_no by entry all here later known = record {
    each = known.each;
    whole = λ at' by' entry' before' from' below stands frees'. elim (cases_lt by' by) [
      | inl less ↦ known.whole at' by' entry' before' from' less stands frees'
      | inr more ↦
          let now : by' ≡ by = omega arith in
          let entries_same : entry' ≡ entry = same_some entry' entry (sym stands ∙ ap (slice_get entries) now ∙ here) in
          absurd (let late = later at' (sym (ap (λ (e : Entry). e.deed) entries_same) ∙ frees') in omega (arith, late))
    ];
  }

-- ---- the claims of planned trains

pub planned_may : (timetable : Timetable) (count : ℕ) → IsTimetable timetable → count ≡ timetable.net.zones → All (MayBeHeld count) (base_claims timetable)
planned_may timetable count planned same = All-map (MayBeHeld count) (λ (one : BaseClaim). (one.claim, of_train one.train)) timetable.base (λ k one within.
    let is = planned.claims k one within in record {
      zone = subst (λ n. (get_or timetable.base k one).claim.zone < n) (sym same) is.zone;
      ticks = is.within.ordered;
      near = (spread (get_or timetable.base k one).claim.span.from is.within.from, spread (get_or timetable.base k one).claim.span.to is.within.to);
    })
  where
    spread : (tick : ℤ) → IsTick tick → IsNear tick
    spread tick is = (omega (arith, ints, is.0), omega (arith, ints, is.1))

pub planned_apart : (timetable : Timetable) → IsTimetable timetable → AllPairs (λ one other. ¬ Clash one.0 other.0) (base_claims timetable)
planned_apart timetable planned = all_pairs_map (λ (one other : HeldClaim). ¬ Clash one.0 other.0) (λ (one : BaseClaim). (one.claim, of_train one.train)) timetable.base planned.apart

-- with them alone a copy is that of the empty history
pub planned_live : (timetable : Timetable) (old new : List HeldClaim) → AreLive timetable (base_claims timetable) [] → old ≡ [] → Gains old (base_claims timetable) new → AreLive timetable new []
planned_live timetable old new begin none gains one = (
  (λ contains. elim ((gains one).0 contains) [ inl was ↦ absurd (no_element one (subst (λ l. Contains l one) none was)) | inr came ↦ (begin one).0 came ]),
  (λ live. (gains one).1 (inr ((begin one).1 live))),
)
