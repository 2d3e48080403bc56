-- A move that leads to what is covered whenever it is free, and the members that labels stand for.
use Rattle.std.proofs.Common.{◌≡◌, ◌∙◌, sym, ap, refl, subst, ℕ, ◌+◌, ◌^◌, ◌<◌, ◌≤◌, ℤ, pos, ◌+ℤ◌, ◌-ℤ◌, ◌<ℤ◌, ◌≤ℤ◌, List, [], ◌∷◌, ◌++◌, take, length, get_or, All, None, Some, arith, inl, inr}
use Rattle.std.specs.Prelude.{slice_get, ◌↔◌, Contains, IfSome, IsNone, Option, Vec}
use Rattle.std.specs.Global.{Global}
use Rattle.std.specs.Int.{int_max, int_min}
use Rattle.std.proofs.lemmas.Int.{ints, clamps}
use Rattle.std.proofs.lemmas.Bool.{cases_order}
use Rattle.std.proofs.lemmas.List.{get_or-map, get_or_default, get_or_append_left, get_or-append-add, length-append, length-map, map-append, take_more}
use Rattle.std.proofs.lemmas.List.Elements.{All-nil, All-append}
use Rattle.std.specs.List.{AllPairs}
use Rattle.std.specs.List.Sorted.{IsPermutation}
use Rattle.std.proofs.lemmas.List.Sorted.{All-permutation}
use Rattle.std.proofs.lemmas.Option.{slice_get_within, get_or_from_slice_get}
use Rattle.rail_types.specs.declared.tracks.Network.{Network}
use Rattle.rail_types.specs.declared.trains.Request.{Request}
use Rattle.rail_types.specs.declared.entries.Settings.{Settings}
use Rattle.rail_types.specs.declared.paths.Claim.{Claim}
use Rattle.rail_types.specs.declared.paths.Window.{Window}
use Rattle.rail_types.specs.Occupation.{Fits, HeldClaim}
use Rattle.occupation_book.specs.Zones.{Zone}
use Rattle.occupation_book.specs.Held.{IsFree, held}
use Rattle.rail_types.specs.Flaws.{first_flaw}
use Rattle.stair_pieces.specs.Claiming.{PiecesAreClaims, StandingZonesAreOfTheNetwork, StepsLeadToPlaces}
use Rattle.stair_pieces.specs.Steps.{IsPlaceIn}
use Rattle.stair_pieces.specs.declared.places.Place.{Place}
use Rattle.stair_pieces.specs.declared.places.Step.{Step}
use Rattle.stair_pieces.specs.Places.{start_place, place_after, standing_zones}
use Rattle.stair_pieces.specs.Pieces.{pieces_of, kept}
use Rattle.stair_pieces.specs.Moves.{IsInside, IsPlace}
use Rattle.tail_states.specs.declared.certificates.Member.{Member}
use Rattle.tail_states.specs.declared.moves.Move.{Move}
use Rattle.tail_states.specs.declared.moves.Next.{Next}
use Rattle.tail_states.specs.declared.moves.Next.TheVariants.{End, At}
use Rattle.tail_states.specs.declared.certificates.Closed.{Closed}
use Rattle.tail_states.specs.Listed.{AreMovesFrom, AreSomePlaces, HasNoneTwice, HaveWantedMoves, IsWanted, LeadsTo, Listed}
use Rattle.tail_states.specs.Closing.{IsAdmitted, IsClosed, IsHeld, leaves_at}
use Rattle.refusal_proof.specs.declared.labels.Label.{Label}
use Rattle.refusal_proof.specs.declared.goings.Going.{Going}
use Rattle.refusal_proof.specs.Proofs.{IsProof, claims_held}
use Rattle.refusal_proof.specs.Inside.{AreFreeAt, AreGoings, AreGrown, AreLabels, AreLabelsOf, CanGoOn, CoverAlike, Goes, HaveLabelMoves, HoldAlike, IsClaimIn, IsCovered, LabelPasses, Leads, MovePasses, PassesIn, ReachesLess, StepsPass, claims_of, kept_behind, later, member_of, members_of, ticks_of_step}
use Rattle.refusal_proof.proofs.Numbering.{grown_numbers, grown_some, moved_alike}
use Rattle.refusal_proof.proofs.Staying.{AreFreeOver, at_of_over, fits_at, free_at, kept_far, kept_of_over, over_of_at, over_of_kept, unmap}

all_left : {X : Type 0} (P : X → Type 0) (xs ys : List X) → All P (xs ++ ys) → All P xs
all_left P xs ys all k d within = subst P (get_or_append_left xs ys d k within) (all k d (let n = length-append xs ys in omega (arith, within, n)))

all_right : {X : Type 0} (P : X → Type 0) (xs ys : List X) → All P (xs ++ ys) → All P ys
all_right P xs ys all k d within = subst P (get_or-append-add xs ys k d) (all (length xs + k) d (let n = length-append xs ys in omega (arith, within, n)))

-- the part of a window within the horizon
module _ (horizon : ℕ) (Free Leads' : ℤ → Type 0) (ticks : ℤ) (some : pos 0 ≤ℤ ticks) (window enters : Window) (from : enters.from ≡ int_max window.from (pos 0)) (to : enters.to ≡ int_min window.to (pos horizon -ℤ ticks)) where
  in_enters : (enter : ℤ) → IsInside window enter → pos 0 ≤ℤ enter → (enter +ℤ ticks) ≤ℤ pos horizon → IsInside enters enter
  in_enters enter inside begins ends = let low = inside.0 in let high = inside.1 in (omega (arith, ints, clamps, from, low, begins), omega (arith, ints, clamps, to, high, ends))

  pub passes_by_all : (((enter : ℤ) → IsInside enters enter → Free enter → Leads' (enter +ℤ ticks)) ↔ PassesIn horizon Free Leads' ticks window)
  passes_by_all = (
    (λ all enter inside begins ends free. all enter (in_enters enter inside begins ends) free),
    λ passes enter inside free. let low = inside.0 in let high = inside.1 in
        passes enter (omega (arith, ints, clamps, from, low), omega (arith, ints, clamps, to, high)) (omega (arith, ints, clamps, from, low)) (omega (arith, ints, clamps, to, high)) free,
  )

-- an end passes where no free one arrives
module _ (horizon : ℕ) (Free : ℤ → Type 0) (arrive : Window) (ticks : ℤ) (some : pos 0 ≤ℤ ticks) (window enters ends : Window) (from : enters.from ≡ int_max window.from (pos 0)) (to : enters.to ≡ int_min window.to (pos horizon -ℤ ticks))
    (ends_from : ends.from ≡ int_max enters.from (arrive.from -ℤ ticks)) (ends_to : ends.to ≡ int_min enters.to (arrive.to -ℤ ticks)) where
  abbrev EndPasses : Type 0
  EndPasses = PassesIn horizon Free (λ leave. ¬ IsInside arrive leave) ticks window

  pub end_passes : ((tick : ℤ) → IsInside ends tick → ¬ Free tick) → EndPasses
  end_passes none enter inside begins by free arrives =
      let low = inside.0 in let high = inside.1 in let first = arrives.0 in let last = arrives.1 in
      none enter (omega (arith, ints, clamps, from, ends_from, low, begins, first), omega (arith, ints, clamps, to, ends_to, high, by, last)) free

  end_none : EndPasses → (tick : ℤ) → IsInside ends tick → ¬ Free tick
  end_none passes tick inside free =
      let low = inside.0 in let high = inside.1 in
      passes tick (omega (arith, ints, clamps, from, ends_from, low), omega (arith, ints, clamps, to, ends_to, high)) (omega (arith, ints, clamps, from, ends_from, low)) (omega (arith, ints, clamps, to, ends_to, high)) free
      (omega (arith, ints, clamps, ends_from, low), omega (arith, ints, clamps, ends_to, high))

  pub none_of_end : ((tick : ℤ) → IsInside ends tick → ¬ Free tick) ↔ EndPasses
  none_of_end = (end_passes, end_none)

-- what passes in both windows
pub passes_in_both : (kept : List HeldClaim) (horizon : ℕ) (Leads' : ℤ → Type 0) (ticks : ℤ) (own : List Claim) (going : Going)
    → PassesIn horizon (AreFreeAt kept own) Leads' ticks going.second → PassesIn horizon (AreFreeAt kept (own ++ going.claims)) Leads' ticks going.first
    → (enter : ℤ) → Goes kept going enter → pos 0 ≤ℤ enter → (enter +ℤ ticks) ≤ℤ pos horizon → AreFreeAt kept own enter → Leads' (enter +ℤ ticks)
passes_in_both kept horizon Leads' ticks own going second first enter (inl (inside, waits)) begins ends free = first enter inside begins ends (All-append (λ claim. IsFree kept (later enter claim)) own going.claims free waits)
passes_in_both kept horizon Leads' ticks own going second first enter (inr inside) begins ends free = second enter inside begins ends free

pub passes_in_second : (kept : List HeldClaim) (horizon : ℕ) (Leads' : ℤ → Type 0) (ticks : ℤ) (own : List Claim) (going : Going)
    → ((enter : ℤ) → Goes kept going enter → pos 0 ≤ℤ enter → (enter +ℤ ticks) ≤ℤ pos horizon → AreFreeAt kept own enter → Leads' (enter +ℤ ticks))
    → PassesIn horizon (AreFreeAt kept own) Leads' ticks going.second
passes_in_second kept horizon Leads' ticks own going all enter inside begins ends free = all enter (inr inside) begins ends free

pub passes_in_first : (kept : List HeldClaim) (horizon : ℕ) (Leads' : ℤ → Type 0) (ticks : ℤ) (own : List Claim) (going : Going)
    → ((enter : ℤ) → Goes kept going enter → pos 0 ≤ℤ enter → (enter +ℤ ticks) ≤ℤ pos horizon → AreFreeAt kept own enter → Leads' (enter +ℤ ticks))
    → PassesIn horizon (AreFreeAt kept (own ++ going.claims)) Leads' ticks going.first
passes_in_first kept horizon Leads' ticks own going all enter inside begins ends free =
    all enter (inl (inside, all_right (λ claim. IsFree kept (later enter claim)) own going.claims free)) begins ends (all_left (λ claim. IsFree kept (later enter claim)) own going.claims free)

-- a move by what it takes
module _ (net : Network) (settings : Settings) (request : Request) (kept' : List HeldClaim) (labels : List Label) (going : Going) (place : Place) (one : Move) (own : List Claim) (own_is : own ≡ claims_of net settings request place one)
    (ticks : ℤ) (ticks_is : ticks ≡ pos (ticks_of_step net settings request place one.step)) (next : Next) (next_is : next ≡ one.next) where
  abbrev Passes : Next → ℤ → List Claim → Window → Type 0
  Passes next ticks claims window = PassesIn settings.horizon (AreFreeAt kept' claims) (Leads labels request.arrive next) ticks window

  abbrev TheMove : Type 0
  TheMove = MovePasses net settings request kept' labels going place one

  told : (claims other : List Claim) (window : Window) → claims ≡ other → Passes next ticks claims window → Passes one.next (pos (ticks_of_step net settings request place one.step)) other window
  told claims other window same passes = subst (λ n. Passes n (pos (ticks_of_step net settings request place one.step)) other window) next_is (subst (λ t. Passes next t other window) ticks_is (subst (λ cs. Passes next ticks cs window) same passes))

  back : (claims other : List Claim) (window : Window) → claims ≡ other → Passes one.next (pos (ticks_of_step net settings request place one.step)) other window → Passes next ticks claims window
  back claims other window same passes = subst (λ n. Passes n ticks claims window) (sym next_is) (subst (λ t. Passes one.next t claims window) (sym ticks_is) (subst (λ cs. Passes one.next (pos (ticks_of_step net settings request place one.step)) cs window) (sym same) passes))

  pub second_of_move : TheMove → Passes next ticks own going.second
  second_of_move all = back own (claims_of net settings request place one) going.second own_is (passes_in_second kept' settings.horizon (Leads labels request.arrive one.next) (pos (ticks_of_step net settings request place one.step)) (claims_of net settings request place one) going all)

  module _ (every : List Claim) (every_is : every ≡ claims_of net settings request place one ++ going.claims) where
    pub first_of_move : TheMove → Passes next ticks every going.first
    first_of_move all = back every (claims_of net settings request place one ++ going.claims) going.first every_is (passes_in_first kept' settings.horizon (Leads labels request.arrive one.next) (pos (ticks_of_step net settings request place one.step)) (claims_of net settings request place one) going all)

    pub move_of_both : Passes next ticks own going.second → Passes next ticks every going.first → TheMove
    move_of_both second first = passes_in_both kept' settings.horizon (Leads labels request.arrive one.next) (pos (ticks_of_step net settings request place one.step)) (claims_of net settings request place one) going
        (told own (claims_of net settings request place one) going.second own_is second) (told every (claims_of net settings request place one ++ going.claims) going.first every_is first)

-- the claims of a move are on zones of the network
pub claims_in : PiecesAreClaims → StandingZonesAreOfTheNetwork → StepsLeadToPlaces → (net : Network) (settings : Settings) (request : Request) (place : Place) (step : Step) (next : Next) → first_flaw net ≡ None → IsPlaceIn net settings request.train place → step.block < length net.blocks
    → pos (ticks_of_step net settings request place step) <ℤ pos (2 ^ 43) → settings.release ≤ 1000 → All (IsClaimIn net.zones) (claims_of net settings request place (record { step = step; next = next }))
claims_in are stand lead net settings request place step next sound at within short release = All-append (IsClaimIn net.zones) (pieces_of net settings request.train place step) (kept_behind net settings request place step next) pieces (go next)
  where
    pieces : All (IsClaimIn net.zones) (pieces_of net settings request.train place step)
    pieces k d inside =
        let one = are net settings request.train place step sound at within k d inside in
        let a = one.near.0.0 in let b = one.near.0.1 in let e = one.near.1.0 in let f = one.near.1.1 in
        record { zone = one.zone; far = ((omega (arith, ints, a), omega (arith, ints, b)), (omega (arith, ints, e), omega (arith, ints, f))) }

    go : (next : Next) → All (IsClaimIn net.zones) (kept_behind net settings request place step next)
    go (At number) = All-nil (IsClaimIn net.zones)
    go End = kept_far net.zones (standing_zones net request.train (place_after net request.train place step)) (pos (ticks_of_step net settings request place step)) (pos (ticks_of_step net settings request place step) +ℤ pos settings.release)
        (stand net settings request.train (place_after net request.train place step) sound (lead net settings request.train place step at within))
        (omega (arith, ints), omega (arith, ints, short)) (omega (arith, ints), omega (arith, ints, short, release))

-- the members of labels
module _ (places : List Place) (labels : List Label) where
  pub held_of : (number : ℕ) (place : Place) (tick : ℤ) → get_or places number start_place ≡ place → IsCovered labels number tick → IsHeld (members_of places labels) place tick
  held_of number place tick at (k, label, within, is, (same, inside)) = (
    k,
    member_of places label,
    subst (λ m. k < m) (sym (length-map labels (member_of places))) within,
    get_or-map (member_of places) labels k label (member_of places label) within ∙ ap (member_of places) is,
    (ap (λ n. get_or places n start_place) same ∙ at, inside),
  )

  pub record IsHeldAt (place : Place) (tick : ℤ) (number : ℕ) : Type 0 where
    pub at : get_or places number start_place ≡ place
    pub covers : IsCovered labels number tick
    pub in_range : All (λ label. label.number < length places) labels → number < length places

  pub of_held : (place : Place) (tick : ℤ) → IsHeld (members_of places labels) place tick → (number : ℕ) × IsHeldAt place tick number
  of_held place tick (k, told, within, same, (at, inside)) =
      let inside_labels : k < length labels = subst (λ m. k < m) (length-map labels (member_of places)) within in
      let d : Label = record { number = 0; window = told.window } in
      let one = get_or labels k d in
      let told_is : member_of places one ≡ told = sym (get_or-map (member_of places) labels k d told inside_labels) ∙ same in (
        one.number,
        record {
          at = ap (λ (m : Member). m.place) told_is ∙ at;
          covers = (k, one, inside_labels, get_or_default labels k one d inside_labels, (refl, subst (λ (w : Window). IsInside w tick) (sym (ap (λ (m : Member). m.window) told_is)) inside));
          in_range = λ numbers. numbers k d inside_labels;
        },
      )

  pub covered_of : HasNoneTwice places → All (λ label. label.number < length places) labels → (number : ℕ) (place : Place) (tick : ℤ) → slice_get places number ≡ Some place → IsHeld (members_of places labels) place tick → IsCovered labels number tick
  covered_of distinct numbers number place tick at is =
      let there = of_held place tick is in
      let within = slice_get_within places number place at in
      let here = get_or_from_slice_get places number place start_place at in
      let in_range = there.1.in_range numbers in
      elim (cases_order there.0 number) [
        | inl same ↦ subst (λ n. IsCovered labels n tick) same there.1.covers
        | inr apart ↦ elim apart [
          | inl less ↦ absurd (distinct there.0 number start_place less within (there.1.at ∙ sym here))
          | inr more ↦ absurd (distinct number there.0 start_place more in_range (here ∙ sym there.1.at))
        ]
      ]

-- there are members at the places of the labels that stand for them
labels_wanted : (places : List Place) (members : List Member) (labels : List Label) → AreLabelsOf places members labels → (k : ℕ) (d : Label) → k < length labels → IsWanted members (get_or places (get_or labels k d).number start_place)
labels_wanted places members labels are k d within =
    let label = get_or labels k d in
    let place = get_or places label.number start_place in
    let from = label.window.from in
    let inside : IsInside label.window from = (omega (arith, ints), are.all.some k d within) in
    let held : IsHeld members place from = (are.alike place from).1 (held_of places labels label.number place from refl (k, label, within, get_or_default labels k label d within, (refl, inside))) in
    (held.0, held.1, held.2, held.3, held.4.0)

-- what is told of labels and members that are handed on
pub labels_told : (places : List Place) (handed members : List Member) (told : Option (Vec Label Global)) (labels : Vec Label Global) (slice : List Label) → handed ≡ members → told ≡ Some labels → slice ≡ labels.items → IfSome told (λ ls. AreLabelsOf places handed ls.items) → AreLabelsOf places members slice
labels_told places handed members told labels slice same is sliced found = subst (λ ms. AreLabelsOf places ms slice) same
    (subst (λ ls. AreLabelsOf places handed ls) (sym sliced) (subst (λ o. IfSome o (λ ls. AreLabelsOf places handed ls.items)) is found))

pub places_told : (places : List Place) (handed members : List Member) (told : Option (Vec Label Global)) (labels : Vec Label Global) → handed ≡ members → told ≡ Some labels → IfSome told (λ _. All (λ (member : Member). Contains places member.place) handed) → All (λ (member : Member). Contains places member.place) members
places_told places handed members told labels same is among = subst (All (λ (member : Member). Contains places member.place)) same
    (subst (λ o. IfSome o (λ _. All (λ (member : Member). Contains places member.place) handed)) is among)

pub none_told : (places : List Place) (handed members : List Member) (told : Option (Vec Label Global)) → handed ≡ members → told ≡ None → (IsNone told → ¬ All (λ (member : Member). Contains places member.place) handed) → ¬ All (λ (member : Member). Contains places member.place) members
none_told places handed members told same is none all = subst (λ o. IsNone o → ¬ All (λ (member : Member). Contains places member.place) handed) is none refl
    (subst (All (λ (member : Member). Contains places member.place)) (sym same) all)

-- so the moves from each of these are listed
pub label_moves : (net : Network) (request : Request) (listed : Listed) (members : List Member) (labels : List Label) → HaveWantedMoves net request members listed → AreLabelsOf listed.members members labels → HaveLabelMoves net request listed labels
label_moves net request listed members labels have are = record {
  starts = have.starts;
  count = have.count;
  moves = λ k d within place moves at got. have.moves (get_or labels k d).number place moves
      (subst (IsWanted members) (get_or_from_slice_get listed.members (get_or labels k d).number place start_place at) (labels_wanted listed.members members labels are k d within)) at got;
}

-- labels that cover alike stand for members that hold alike
held_alike_one : (places : List Place) (one other : List Label) → CoverAlike one other → (place : Place) (tick : ℤ) → IsHeld (members_of places one) place tick → IsHeld (members_of places other) place tick
held_alike_one places one other alike place tick is =
    let there = of_held places one place tick is in
    held_of places other there.0 place tick there.1.at ((alike there.0 tick).0 there.1.covers)

pub hold_alike : (places : List Place) (one other : List Label) → CoverAlike one other → HoldAlike (members_of places one) (members_of places other)
hold_alike places one other alike place tick = (held_alike_one places one other alike place tick, held_alike_one places other one (λ n t. ((alike n t).1, (alike n t).0)) place tick)

pub contains_at : (places : List Place) (number : ℕ) (place : Place) → slice_get places number ≡ Some place → Contains places place
contains_at places number place at = (number, slice_get_within places number place at, get_or_from_slice_get places number place place at)

-- one label more
pub told_next : (places : List Place) (labels : List Label) (members : List Member) (k : ℕ) (label : Label) (member : Member) → members_of places labels ≡ take k members → k < length members → member ≡ get_or members k member → get_or places label.number start_place ≡ member.place → label.window ≡ member.window
    → members_of places (labels ++ label ∷ []) ≡ take (k + 1) members
told_next places labels members k label member told within is place window =
    let same : member_of places label ≡ member = λ j. record { place = place j; window = window j } in
    map-append (member_of places) labels (label ∷ []) ∙ ap (λ ms. ms ++ member_of places label ∷ []) told ∙ ap (λ m. take k members ++ m ∷ []) (same ∙ is) ∙ sym (take_more members k member within)

-- the labels that are made of the numbered members
pub labels_stand : (places : List Place) (members : List Member) (first sorted handed labels : List Label) → members_of places first ≡ members → All (λ label. label.number < length places) first → All (λ (member : Member). member.window.from ≤ℤ member.window.to) members
    → IsPermutation first sorted → handed ≡ sorted → CoverAlike handed labels → AreGrown handed labels → AllPairs ReachesLess labels → AreLabelsOf places members labels
labels_stand places members first sorted handed labels told numbers some moved same alike grown order =
    let grown_sorted : AreGrown sorted labels = subst (λ one. AreGrown one labels) same grown in
    let alike_sorted : CoverAlike sorted labels = subst (λ one. CoverAlike one labels) same alike in
    let some_first : All (λ (label : Label). label.window.from ≤ℤ label.window.to) first = unmap (λ (member : Member). member.window.from ≤ℤ member.window.to) (member_of places) first (subst (All (λ (member : Member). member.window.from ≤ℤ member.window.to)) (sym told) some) in
    let moved_first = moved_alike first sorted moved in
    record {
      all = record {
        numbers = grown_numbers sorted labels (length places) grown_sorted (All-permutation (λ (label : Label). label.number < length places) first sorted moved numbers);
        some = grown_some sorted labels grown_sorted (All-permutation (λ (label : Label). label.window.from ≤ℤ label.window.to) first sorted moved some_first);
        order = order;
      };
      alike = subst (λ ms. HoldAlike ms (members_of places labels)) told (hold_alike places first labels (λ n t. ((λ covers. (alike_sorted n t).0 ((moved_first n t).0 covers)), (λ covers. (moved_first n t).1 ((alike_sorted n t).1 covers)))));
    }

module _ (net : Network) (settings : Settings) (request : Request) (book : List Zone) (places : List Place) (labels : List Label) (distinct : HasNoneTwice places) (are : AreLabels places labels) where
  -- what is kept behind an end, by either way in which it is told
  module _ (place : Place) (step : Step) (enter : ℤ) where
    abbrev zones : List ℕ
    zones = standing_zones net request.train (place_after net request.train place step)

    abbrev leave : ℤ
    leave = leaves_at net settings request place step enter

    abbrev ticks : ℕ
    ticks = ticks_of_step net settings request place step

    leave_is : (pos ticks +ℤ enter) ≡ leave
    leave_is = turned enter (pos ticks)
      where
        turned : (a b : ℤ) → (b +ℤ a) ≡ (a +ℤ b)
        turned a b = omega (arith, ints)

    release_is : ((pos ticks +ℤ pos settings.release) +ℤ enter) ≡ (leave +ℤ pos settings.release)
    release_is = turned enter (pos ticks) (pos settings.release)
      where
        turned : (a b c : ℤ) → ((b +ℤ c) +ℤ a) ≡ ((a +ℤ b) +ℤ c)
        turned a b c = omega (arith, ints)

    behind_of_fits : Fits (kept zones leave (leave +ℤ pos settings.release)) (claims_held book) → AreFreeAt (held book) (kept_behind net settings request place step End) enter
    behind_of_fits fits = at_of_over book zones (pos ticks) (pos ticks +ℤ pos settings.release) enter
        (subst (λ to. AreFreeOver book zones (pos ticks +ℤ enter) to) (sym release_is)
        (subst (λ from. AreFreeOver book zones from (leave +ℤ pos settings.release)) (sym leave_is)
        (over_of_kept book zones leave (leave +ℤ pos settings.release) fits)))

    fits_of_behind : AreFreeAt (held book) (kept_behind net settings request place step End) enter → Fits (kept zones leave (leave +ℤ pos settings.release)) (claims_held book)
    fits_of_behind free = kept_of_over book zones leave (leave +ℤ pos settings.release)
        (subst (λ from. AreFreeOver book zones from (leave +ℤ pos settings.release)) leave_is
        (subst (λ to. AreFreeOver book zones (pos ticks +ℤ enter) to) release_is
        (over_of_at book zones (pos ticks) (pos ticks +ℤ pos settings.release) enter free)))

  abbrev IsIn : Place → Step → ℤ → Type 0
  IsIn place step enter = IsAdmitted net settings request (claims_held book) (members_of places labels) place step (leaves_at net settings request place step enter)

  admits : (place : Place) (step : Step) (next : Next) (enter : ℤ) → LeadsTo net request places place step next → AreFreeAt (held book) (pieces_of net settings request.train place step) enter
      → (AreFreeAt (held book) (claims_of net settings request place (record { step = step; next = next })) enter → Leads labels request.arrive next (leaves_at net settings request place step enter))
      → IsIn place step enter
  admits place step (At number) enter leads pieces passes = record {
    held = λ _. held_of places labels number (place_after net request.train place step) (leaves_at net settings request place step enter) (get_or_from_slice_get places number (place_after net request.train place step) start_place leads.1)
        (passes (All-append (λ claim. IsFree (held book) (later enter claim)) (pieces_of net settings request.train place step) [] pieces (All-nil (λ claim. IsFree (held book) (later enter claim)))));
    ends = λ end. absurd (leads.0 end);
  }
  admits place step End enter leads pieces passes = record {
    held = λ no_end. absurd (no_end leads);
    ends = λ _ fits. passes (All-append (λ claim. IsFree (held book) (later enter claim)) (pieces_of net settings request.train place step) (kept_behind net settings request place step End) pieces (behind_of_fits place step enter fits));
  }

  leads_then : (place : Place) (step : Step) (next : Next) (enter : ℤ) → LeadsTo net request places place step next → IsIn place step enter
      → AreFreeAt (held book) (claims_of net settings request place (record { step = step; next = next })) enter → Leads labels request.arrive next (leaves_at net settings request place step enter)
  leads_then place step (At number) enter leads is free = covered_of places labels distinct are.numbers number (place_after net request.train place step) (leaves_at net settings request place step enter) leads.1 (is.held leads.0)
  leads_then place step End enter leads is free = is.ends leads (fits_of_behind place step enter (all_right (λ claim. IsFree (held book) (later enter claim)) (pieces_of net settings request.train place step) (kept_behind net settings request place step End) free))

  -- all listed moves pass exactly where all steps do
  module _ (place : Place) (moves : List Move) (listed : AreMovesFrom net request places place moves) (going : Going) (IsOn : ℤ → Type 0) (goes : AreGoings settings (held book) going IsOn) where
    abbrev MovesPass : Type 0
    MovesPass = All (MovePasses net settings request (held book) labels going place) moves

    before_horizon : (enter : ℤ) (n : ℕ) → (enter +ℤ pos n) ≤ℤ pos settings.horizon → enter ≤ℤ pos settings.horizon
    before_horizon enter n by = omega (arith, ints, by)

    steps_of_moves : MovesPass → StepsPass net settings request (claims_held book) (members_of places labels) IsOn place
    steps_of_moves pass step enter on free =
        let has = listed.whole step free.move in
        let k = has.1.0 in
        let within = has.1.1 in
        let one : Move = record { step = step; next = has.0 } in
        let is : get_or moves k one ≡ one = has.1.2 in
        let leads = subst (λ (m : Move). LeadsTo net request places place m.step m.next) is (listed.sound k one within).leads in
        let passes = subst (MovePasses net settings request (held book) labels going place) is (pass k one within) in
        let goes_then = (goes enter free.begins (before_horizon enter (ticks_of_step net settings request place step) free.ends)).1 on in
        admits place step has.0 enter leads (free_at book (pieces_of net settings request.train place step) enter free.pieces)
        (λ claims. passes enter goes_then free.begins free.ends claims)

    moves_of_steps : StepsPass net settings request (claims_held book) (members_of places labels) IsOn place → MovesPass
    moves_of_steps pass k d within enter on begins ends free =
        let one = get_or moves k d in
        let is = listed.sound k d within in
        let pieces = all_left (λ claim. IsFree (held book) (later enter claim)) (pieces_of net settings request.train place one.step) (kept_behind net settings request place one.step one.next) free in
        let in_time = (goes enter begins (before_horizon enter (ticks_of_step net settings request place one.step) ends)).0 on in
        leads_then place one.step one.next enter is.leads
        (pass one.step enter in_time (record { move = is.allowed; begins = begins; ends = ends; pieces = fits_at book (pieces_of net settings request.train place one.step) enter pieces })) free

    pub moves_and_steps : MovesPass ↔ StepsPass net settings request (claims_held book) (members_of places labels) IsOn place
    moves_and_steps = (steps_of_moves, moves_of_steps)

  -- closed members are what passes
  module _ (members : List Member) (alike : HoldAlike members (members_of places labels)) where
    admitted_there : (place : Place) (step : Step) (tick : ℤ) → IsAdmitted net settings request (claims_held book) (members_of places labels) place step tick → IsAdmitted net settings request (claims_held book) members place step tick
    admitted_there place step tick is = record { held = λ no_end. (alike (place_after net request.train place step) tick).1 (is.held no_end); ends = is.ends }

    admitted_here : (place : Place) (step : Step) (tick : ℤ) → IsAdmitted net settings request (claims_held book) members place step tick → IsAdmitted net settings request (claims_held book) (members_of places labels) place step tick
    admitted_here place step tick is = record { held = λ no_end. (alike (place_after net request.train place step) tick).0 (is.held no_end); ends = is.ends }

    abbrev StartsPass : Type 0
    StartsPass = StepsPass net settings request (claims_held book) (members_of places labels) (IsInside request.depart) start_place

    abbrev LabelsPass : Type 0
    LabelsPass = All (LabelPasses net settings request (claims_held book) places labels) labels

    pub closed_by_passing : StartsPass → LabelsPass → IsClosed net settings request (claims_held book) members
    closed_by_passing starts pass = record {
      start = λ step enter inside free below. admitted_there start_place step (leaves_at net settings request start_place step enter) (starts step enter inside free);
      moves = λ place step tick enter is on free below.
          (let there = of_held places labels place tick ((alike place tick).0 is) in
          let covers = there.1.covers in
          let k = covers.0 in
          let label = covers.1 in
          let number = covers.4.0 in
          let here : get_or places label.number start_place ≡ place = ap (λ n. get_or places n start_place) number ∙ there.1.at in
          let passes : LabelPasses net settings request (claims_held book) places labels label = subst (LabelPasses net settings request (claims_held book) places labels) covers.3 (pass k label covers.2) in
          let at_place = subst (λ p. StepsPass net settings request (claims_held book) (members_of places labels) (CanGoOn net request (claims_held book) p label.window) p) here passes in
          admitted_there place step (leaves_at net settings request place step enter) (at_place step enter (tick, covers.4.1, on) free));
    }

    below_all : (tick : ℤ) → tick ≤ℤ pos settings.horizon → tick <ℤ (pos settings.horizon +ℤ pos 1)
    below_all tick by = omega (arith, ints, by)

    pub starts_by_closing : IsClosed net settings request (claims_held book) members → StartsPass
    starts_by_closing closed step enter inside free = admitted_here start_place step (leaves_at net settings request start_place step enter) (closed.start step enter inside free (below_all (leaves_at net settings request start_place step enter) free.ends))

    pub labels_by_closing : IsClosed net settings request (claims_held book) members → LabelsPass
    labels_by_closing closed k d within step enter (tick, inside, on) free =
        let label = get_or labels k d in
        let place = get_or places label.number start_place in
        let is : IsHeld members place tick = (alike place tick).1 (held_of places labels label.number place tick refl (k, label, within, get_or_default labels k label d within, (refl, inside))) in
        admitted_here place step (leaves_at net settings request place step enter) (closed.moves place step tick enter is on free (below_all (leaves_at net settings request place step enter) free.ends))

    -- with members at places of the request that is a proof
    module _ (the : AreSomePlaces net request places) where
      pub proof_by_passing : (proof : Closed) → proof.members ≡ members → All (λ (member : Member). Contains places member.place) members → StartsPass → LabelsPass → IsProof net settings (claims_held book) request proof
      proof_by_passing proof same among starts pass = record {
        places = subst (All (λ (member : Member). IsPlace net request member.place)) (sym same) (λ k d within. is_place (get_or members k d).place (among k d within));
        closed = subst (IsClosed net settings request (claims_held book)) (sym same) (closed_by_passing starts pass);
      }
        where
          is_place : (place : Place) → Contains places place → IsPlace net request place
          is_place place (k, within, at) = subst (IsPlace net request) at (the.sound k place within)

-- what stands at a number is a place of the request
pub place_at_number : (net : Network) (request : Request) (places : List Place) (number : ℕ) (place : Place) → All (IsPlace net request) places → slice_get places number ≡ Some place → IsPlace net request place
place_at_number net request places number place sound at = subst (IsPlace net request) (get_or_from_slice_get places number place place at) (sound number place (slice_get_within places number place at))
