-- Claims that are gathered owner by owner.
use Rattle.std.proofs.Common.{◌≡◌, ◌≢◌, ◌⊎◌, ◌∙◌, ℕ, ◌+◌, ◌<◌, ◌≤◌, List, [], ◌∷◌, ◌++◌, length, map, take, drop, get_or, inl, inr, refl, arith, sym, subst, ap, All, AllPairs}
use Rattle.std.specs.Prelude.{pos, Contains}
use Rattle.std.proofs.lemmas.List.{append-nil, append_assoc, get_or-drop, get_or-map, get_or-take, get_or_default, length-map, length-drop, length-take, take-append-drop}
use Rattle.std.proofs.lemmas.List.Elements.{All-nil, All-append, All-contains, All-cons, Contains-append_left, Contains-append_right, Contains-append_cases, Contains-get_or, Contains-push}
use Rattle.std.proofs.lemmas.Bool.{cases_order}
use Rattle.std.proofs.lemmas.List.Quantifiers.{all_pairs_push}
use Rattle.rail_types.specs.declared.entries.Owner.{Owner}
use Rattle.rail_types.specs.declared.entries.Owner.TheVariants.{Base}
use Rattle.rail_types.specs.declared.paths.Claim.{Claim}
use Rattle.rail_types.specs.Occupation.{HeldClaim}
use Rattle.capacity_406.specs.declared.trains.Stretch.{Stretch}
use Rattle.capacity_406.specs.Selecting.{BeginsWithin, OwnerBefore}
use Rattle.capacity_406.specs.Trains.{IsFirstClaim}
use Rattle.capacity_406.specs.declared.stretch_trains.groups.Standing.{Standing}
use Rattle.capacity_406.specs.InsideStretch.{AreGrouped, HasAllOf, IsOf, OwnerNoLater, Runs}
use Rattle.capacity_406.proofs.Owners.{owner_passed}

pub grouped_none : (stretch : Stretch) → AreGrouped stretch [] []
grouped_none stretch = record {
  claims = All-nil (HasAllOf []);
  first = All-nil (λ (one : Standing). IsFirstClaim one.claims one.first);
  trains_run = All-nil (λ (one : Standing). Runs stretch one.claims);
  all = λ claim owner (k, below, is) begins. absurd (omega arith);
  once = λ i j d before within. absurd (omega arith);
}

-- the claims of a block that is one owner's
contains_first : (block : List HeldClaim) (claim : Claim) → Contains (map (λ (held : HeldClaim). held.0) block) claim → (one : HeldClaim) × Contains block one × (one.0 ≡ claim)
contains_first block claim (k, within, is) =
    let below : k < length block = let e = length-map block (λ (held : HeldClaim). held.0) in omega arith in
    let d : HeldClaim = (claim, Base 0) in
    (get_or block k d, Contains-get_or block k d below, sym (get_or-map (λ (held : HeldClaim). held.0) block k d claim below) ∙ is)

contains_held : (block : List HeldClaim) (one : HeldClaim) → Contains block one → Contains (map (λ (held : HeldClaim). held.0) block) one.0
contains_held block one (k, within, is) = (k, subst (λ n. k < n) (sym (length-map block (λ (held : HeldClaim). held.0))) within, get_or-map (λ (held : HeldClaim). held.0) block k one one.0 within ∙ ap (λ (held : HeldClaim). held.0) is)

-- a block of one owner's claims behind others
module _ (stretch : Stretch) (done block : List HeldClaim) (owner : Owner) (of_it : All (IsOf owner) block) (of_others : All (λ held. ¬ IsOf owner held) done) (standing : List Standing) (so : AreGrouped stretch done standing) (one : Standing) (claims : one.claims ≡ map (λ (held : HeldClaim). held.0) block) (owned : one.owner ≡ owner) where
  owner_new : (k : ℕ) (d : Standing) → k < length standing → (get_or standing k d).owner ≢ owner
  owner_new k d below same =
      let it : Standing = get_or standing k d in
      let held : Contains done (it.first, it.owner) = (so.claims k d below it.first).0 (so.first k d below).0 in
      All-contains (λ (held : HeldClaim). ¬ IsOf owner held) done (it.first, it.owner) of_others held same

  still : All (HasAllOf (done ++ block)) standing
  still k d below claim =
      let it : Standing = get_or standing k d in (
        λ has. Contains-append_left done block (claim, it.owner) ((so.claims k d below claim).0 has),
        λ has. elim (Contains-append_cases done block (claim, it.owner) has) [
          | inl old ↦ (so.claims k d below claim).1 old
          | inr new ↦ absurd (owner_new k d below (All-contains (IsOf owner) block (claim, it.owner) of_it new))
        ],
      )

  to_block : (claim : Claim) → Contains one.claims claim → Contains block (claim, one.owner)
  to_block claim has =
      let from = contains_first block claim (subst (λ all. Contains all claim) claims has) in
      let same : from.0.1 ≡ one.owner = All-contains (IsOf owner) block from.0 of_it from.1 ∙ sym owned in
      subst (λ o. Contains block (claim, o)) same (subst (λ c. Contains block (c, from.0.1)) from.2 from.1)

  from_block : (claim : Claim) (o : Owner) → Contains block (claim, o) → Contains one.claims claim
  from_block claim o has = subst (λ all. Contains all claim) (sym claims) (contains_held block (claim, o) has)

  mine : HasAllOf (done ++ block) one
  mine claim = (
    λ has. Contains-append_right done block (claim, one.owner) (to_block claim has),
    λ has. elim (Contains-append_cases done block (claim, one.owner) has) [
      | inl old ↦ absurd (All-contains (λ (held : HeldClaim). ¬ IsOf owner held) done (claim, one.owner) of_others old owned)
      | inr new ↦ from_block claim one.owner new
    ],
  )

  pub grouped_push : Runs stretch one.claims → IsFirstClaim one.claims one.first → AreGrouped stretch (done ++ block) (standing ++ one ∷ [])
  grouped_push trains_run first = record {
    claims = All-append (HasAllOf (done ++ block)) standing (one ∷ []) still (All-cons (HasAllOf (done ++ block)) one [] mine (All-nil (HasAllOf (done ++ block))));
    first = All-append (λ (it : Standing). IsFirstClaim it.claims it.first) standing (one ∷ []) so.first (All-cons (λ (it : Standing). IsFirstClaim it.claims it.first) one [] first (All-nil (λ (it : Standing). IsFirstClaim it.claims it.first)));
    trains_run = All-append (λ (it : Standing). Runs stretch it.claims) standing (one ∷ []) so.trains_run (All-cons (λ (it : Standing). Runs stretch it.claims) one [] trains_run (All-nil (λ (it : Standing). Runs stretch it.claims)));
    all = λ claim o has begins. elim (Contains-append_cases done block (claim, o) has) [
      | inl old ↦ let it = so.all claim o old begins in (it.0, Contains-append_left standing (one ∷ []) it.0 it.1, it.2)
      | inr new ↦ (one, Contains-push standing one, owned ∙ sym (All-contains (IsOf owner) block (claim, o) of_it new))
    ];
    once = all_pairs_push (λ (it other : Standing). it.owner ≢ other.owner) standing one so.once (λ k d below same. owner_new k d below (same ∙ owned));
  }

  pub grouped_skip : ¬ Runs stretch one.claims → AreGrouped stretch (done ++ block) standing
  grouped_skip stays = record {
    claims = still;
    first = so.first;
    trains_run = so.trains_run;
    all = λ claim o has begins. elim (Contains-append_cases done block (claim, o) has) [
      | inl old ↦ so.all claim o old begins
      | inr new ↦ absurd (stays (claim, from_block claim o new, begins))
    ];
    once = so.once;
  }

-- the claims so far are gathered, and none of the rest is of an owner among them
pub record IsGrouping (stretch : Stretch) (taken rest : List HeldClaim) (standing : List Standing) : Type 0 where
  pub done : List HeldClaim
  pub whole : taken ≡ done ++ rest
  pub apart : (a b : HeldClaim) → Contains done a → Contains rest b → a.1 ≢ b.1
  pub sorted : AllPairs OwnerNoLater rest
  pub grouped : AreGrouped stretch done standing

pub begins_grouping : (stretch : Stretch) (taken : List HeldClaim) → AllPairs OwnerNoLater taken → IsGrouping stretch taken taken []
begins_grouping stretch taken sorted = record {
  done = [];
  whole = refl;
  apart = λ a b (k, below, is) has. absurd (omega arith);
  sorted = sorted;
  grouped = grouped_none stretch;
}

pub ends_grouping : (stretch : Stretch) (taken rest : List HeldClaim) (standing : List Standing) → length rest ≡ 0 → IsGrouping stretch taken rest standing → AreGrouped stretch taken standing
ends_grouping stretch taken [] standing none so = subst (λ all. AreGrouped stretch all standing) (sym (so.whole ∙ append-nil so.done)) so.grouped
ends_grouping stretch taken (one ∷ more) standing none so = absurd (omega arith)

contains_whole : (n : ℕ) (xs : List HeldClaim) (x : HeldClaim) → Contains (take n xs) x ⊎ Contains (drop n xs) x → Contains xs x
contains_whole n xs x (inl front) = subst (λ all. Contains all x) (take-append-drop n xs) (Contains-append_left (take n xs) (drop n xs) x front)
contains_whole n xs x (inr back) = subst (λ all. Contains all x) (take-append-drop n xs) (Contains-append_right (take n xs) (drop n xs) x back)

module _ (stretch : Stretch) (taken rest : List HeldClaim) (standing new : List Standing) (so : IsGrouping stretch taken rest standing) (count : ℕ) (some : 0 < count) (bound : count ≤ length rest) (owner : Owner) (front : All (IsOf owner) (take count rest)) (back : All (λ held. ¬ IsOf owner held) (drop count rest)) (one : Standing) (claims : one.claims ≡ map (λ (held : HeldClaim). held.0) (take count rest)) (owned : one.owner ≡ owner) (first : IsFirstClaim one.claims one.first) where
  of_others : All (λ held. ¬ IsOf owner held) so.done
  of_others k d below same =
      let within : 0 < length (take count rest) = let e = length-take count rest in omega arith in
      let head : HeldClaim = get_or (take count rest) 0 d in
      let has : Contains rest head = contains_whole count rest head (inl (Contains-get_or (take count rest) 0 d within)) in
      so.apart (get_or so.done k d) head (Contains-get_or so.done k d below) has (same ∙ sym (front 0 d within))

  goes_on : AreGrouped stretch (so.done ++ take count rest) new → IsGrouping stretch taken (drop count rest) new
  goes_on grouped = record {
    done = so.done ++ take count rest;
    whole = so.whole ∙ (ap (λ all. so.done ++ all) (sym (take-append-drop count rest)) ∙ sym (append_assoc so.done (take count rest) (drop count rest)));
    apart = λ a b has also same. elim (Contains-append_cases so.done (take count rest) a has) [
      | inl old ↦ so.apart a b old (contains_whole count rest b (inr also)) same
      | inr here ↦ All-contains (λ held. ¬ IsOf owner held) (drop count rest) b back also (sym same ∙ All-contains (IsOf owner) (take count rest) a front here)
    ];
    sorted = λ i j d before within. subst (λ x. OwnerNoLater x (get_or (drop count rest) j d)) (sym (get_or-drop count rest i d)) (subst (OwnerNoLater (get_or rest (count + i) d)) (sym (get_or-drop count rest j d)) (so.sorted (count + i) (count + j) d (omega arith) (let e = length-drop count rest in omega arith)));
    grouped = grouped;
  }

  pub grouped_more : (Runs stretch one.claims × (new ≡ standing ++ one ∷ [])) ⊎ ((¬ Runs stretch one.claims) × (new ≡ standing)) → IsGrouping stretch taken (drop count rest) new
  grouped_more (inl (trains_run, pushed)) = goes_on (subst (AreGrouped stretch (so.done ++ take count rest)) (sym pushed) (grouped_push stretch so.done (take count rest) owner front of_others standing so.grouped one claims owned trains_run first))
  grouped_more (inr (stays, kept)) = goes_on (subst (AreGrouped stretch (so.done ++ take count rest)) (sym kept) (grouped_skip stretch so.done (take count rest) owner front of_others standing so.grouped one claims owned stays))

-- claims behind the first of another owner are none of the owner's
pub none_behind : (rest : List HeldClaim) (owner : Owner) (count : ℕ) → AllPairs OwnerNoLater rest → (0 < count) → ((d : HeldClaim) → (get_or rest 0 d).1 ≡ owner) → (count < length rest → (d : HeldClaim) → (get_or rest count d).1 ≢ owner) → All (λ held. ¬ IsOf owner held) (drop count rest)
none_behind rest owner count sorted some head differs k d within same =
    let inside : count + k < length rest = let e = length-drop count rest in omega arith in
    let here : (get_or rest (count + k) d).1 ≡ owner = ap (λ (held : HeldClaim). held.1) (sym (get_or-drop count rest k d)) ∙ same in
    elim (sorted 0 count d some (omega arith)) [
      | inl before ↦ elim (cases_order k 0) [
        | inl zero ↦ differs (omega arith) d (subst (λ n. (get_or rest n d).1 ≡ owner) (let e : count + k ≡ count = omega arith in e) here)
        | inr apart ↦ elim apart [
          | inl less ↦ absurd (omega arith)
          | inr more ↦ owner_passed owner (get_or rest count d) (get_or rest (count + k) d) (subst (λ o. OwnerBefore o (get_or rest count d).1) (head d) before) (sorted count (count + k) d (omega arith) inside) here
        ]
      ]
      | inr equal ↦ differs (omega arith) d (sym equal ∙ head d)
    ]

pub parted_at : (rest : List HeldClaim) (owner : Owner) (count : ℕ) → AllPairs OwnerNoLater rest → 0 < count → count ≤ length rest → All (IsOf owner) (take count rest) → (count < length rest → (d : HeldClaim) → (get_or rest count d).1 ≢ owner) → (o : Owner) × All (IsOf o) (take count rest) × All (λ held. ¬ IsOf o held) (drop count rest)
parted_at rest owner count sorted some bound same differs = (owner, same, none_behind rest owner count sorted some (λ d. ap (λ (held : HeldClaim). held.1) (sym (get_or-take count rest 0 d some)) ∙ same 0 d (let e = length-take count rest in omega arith)) differs)

pub none_runs : (stretch : Stretch) (claims : List Claim) → All (λ claim. ¬ BeginsWithin stretch claim) claims → ¬ Runs stretch claims
none_runs stretch claims none (claim, has, begins) = All-contains (λ one. ¬ BeginsWithin stretch one) claims claim none has begins

pub one_runs : (stretch : Stretch) (claims : List Claim) (claim : Claim) → Contains claims claim → BeginsWithin stretch claim → Runs stretch claims
one_runs stretch claims claim has begins = (claim, has, begins)

abbrev pub nobody : HeldClaim
nobody = (record { zone = 0; span = record { from = pos 0; to = pos 0 } }, Base 0)

pub parted_from : (rest : List HeldClaim) (owner : Owner) (count : ℕ) → AllPairs OwnerNoLater rest → 0 < count → count < length rest → All (IsOf owner) (take count rest) → (get_or rest count nobody).1 ≢ owner → (o : Owner) × All (IsOf o) (take count rest) × All (λ held. ¬ IsOf o held) (drop count rest)
parted_from rest owner count sorted some below same differs = parted_at rest owner count sorted some (omega arith) same (λ within d equal. differs (ap (λ (held : HeldClaim). held.1) (get_or_default rest count nobody d within) ∙ equal))
