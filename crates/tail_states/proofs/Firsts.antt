-- The blocks that a train may enter.
use Rattle.std.proofs.Common.{◌≡◌, ◌⊎◌, inl, inr, ◌∙◌, sym, ap, refl, subst, arith, ℕ, zero, suc, ◌+◌, ◌-◌, ◌<◌, List, [], ◌∷◌, ◌++◌, length, get_or, Some, All, Contains}
use Rattle.std.specs.Prelude.{slice_get, slice_set}
use Rattle.std.proofs.lemmas.Option.{slice_get_within, slice_get-get_or, get_or_from_slice_get}
use Rattle.std.proofs.lemmas.List.{length-set, get_or-set_other, get_or_past}
use Rattle.std.proofs.lemmas.Grind.{get_or-set_at}
use Rattle.std.proofs.lemmas.Bool.{cases_lt, cases_order}
use Rattle.std.proofs.lemmas.List.Elements.{All-get_or, Contains-append_left, Contains-append_cases, Contains-push, Contains-push_cases}
use Rattle.rail_types.specs.declared.tracks.Network.{Network}
use Rattle.rail_types.specs.declared.trains.Request.{Request}
use Rattle.blocking_time.specs.Runs.{block_at}
use Rattle.stair_pieces.specs.Places.{head_block}
use Rattle.tail_states.specs.Asked.{HasPoints}
use Rattle.tail_states.specs.Following.{AreByPoint, AreServing, AreServedBy}
use Rattle.tail_states.specs.Inside.{AreNextBlocks}

pub only_one : (a b : ℕ) → Contains (a ∷ []) b → b ≡ a
only_one a b (zero, within, is) = sym is
only_one a b (suc k, within, is) = absurd (omega arith)

pub below : (a n : ℕ) → a < n + 1 → (a < n) ⊎ (a ≡ n)
below a zero less = inr (omega arith)
below zero (suc n) less = inl (omega arith)
below (suc a) (suc n) less = elim (below a n (omega arith)) [ inl early ↦ inl (omega arith) | inr last ↦ inr (ap suc last) ]

module _ (net : Network) (request : Request) where
  pub first_serving : (lists : List (List ℕ)) (blocks : List ℕ) → AreServing net (length net.blocks) lists → get_or lists request.origin [] ≡ blocks → AreNextBlocks net request [] blocks
  first_serving lists blocks are is = record {
    sound = λ block has. are.sound request.origin block (subst (λ l. Contains l block) (sym is) has);
    whole = λ block within on. subst (λ l. Contains l block) is (are.whole request.origin block within on);
  }

  pub following : (lists : List (List ℕ)) (tail blocks : List ℕ) → AreByPoint net (length net.blocks) lists → (tail ≡ [] → ⊥) → slice_get lists (block_at net (head_block tail)).to_point ≡ Some blocks → AreNextBlocks net request tail blocks
  following lists [] blocks are gone got = absurd (gone refl)
  following lists (first ∷ tail) blocks are gone got = record {
    sound = λ block has. are.sound (block_at net (head_block (first ∷ tail))).to_point block blocks got has;
    whole = λ block within reaches. are.whole block blocks within (subst (λ point. slice_get lists point ≡ Some blocks) (sym reaches) got);
  }

pub head_within : (most : ℕ) (tail : List ℕ) → (tail ≡ [] → ⊥) → All (λ block. block < most) tail → head_block tail < most
head_within most [] gone all = absurd (gone refl)
head_within most (first ∷ tail) gone all = all (length (first ∷ tail) - 1) _ (omega arith)

module _ (net : Network) (points : HasPoints net) (lists : List (List ℕ)) (long : length lists ≡ net.points) (n : ℕ) (within : n < length net.blocks) where
  pub begins_within : (block_at net n).from_point < length lists
  begins_within = let least : (block_at net n).from_point < net.points = points.begins n _ within in omega (arith, least, long)

  pub ends_within : (block_at net n).to_point < length lists
  ends_within = let least : (block_at net n).to_point < net.points = points.ends n _ within in omega (arith, least, long)

get_set : {X : Type 0} (xs : List X) (i j : ℕ) (y x : X) → slice_get (slice_set xs i y) j ≡ Some x → ((j ≡ i) × (x ≡ y)) ⊎ ((j ≡ i → ⊥) × (slice_get xs j ≡ Some x))
get_set [] i j y x got = inr (cc)
get_set (a ∷ xs) zero zero y x got = inl (refl, cc)
get_set (a ∷ xs) zero (suc j) y x got = inr (λ same. omega (arith, same), got)
get_set (a ∷ xs) (suc i) zero y x got = inr (λ same. omega (arith, same), got)
get_set (a ∷ xs) (suc i) (suc j) y x got = elim (get_set xs i j y x got) [
  | inl here ↦ inl (ap suc here.0, here.1)
  | inr there ↦ inr (λ same. there.0 (omega (arith, same)), there.1)
]

module _ (net : Network) where
  pub none_yet : (lists : List (List ℕ)) → length lists ≡ net.points → All (λ blocks. blocks ≡ []) lists → AreByPoint net 0 lists
  none_yet lists points none = record {
    points = points;
    sound = λ point block blocks got has.
        let empty : blocks ≡ [] = sym (get_or_from_slice_get lists point blocks [] got) ∙ All-get_or (λ blocks. blocks ≡ []) lists point [] (slice_get_within lists point blocks got) none in
        let wrong = subst (λ l. Contains l block) empty has in absurd (omega (arith, wrong.1));
    whole = λ block blocks less got. absurd (omega (arith, less));
  }

  pub one_block_more : (n : ℕ) (lists : List (List ℕ)) → (block_at net n).from_point < length lists → AreByPoint net n lists
      → AreByPoint net (n + 1) (slice_set lists (block_at net n).from_point (get_or lists (block_at net n).from_point [] ++ n ∷ []))
  one_block_more n lists within are =
      let p = (block_at net n).from_point in
      let old = get_or lists (block_at net n).from_point [] in
      let had : slice_get lists (block_at net n).from_point ≡ Some (get_or lists (block_at net n).from_point []) = slice_get-get_or lists (block_at net n).from_point [] within in
      record {
        points = length-set lists p (old ++ n ∷ []) ∙ are.points;
        sound = λ point block blocks got has. elim (get_set lists p point (old ++ n ∷ []) blocks got) [
          | inl here ↦ elim (Contains-append_cases old (n ∷ []) block (subst (λ l. Contains l block) here.1 has)) [
            | inl before ↦ let is = are.sound p block old had before in (omega (arith, is.0), is.1 ∙ sym here.0)
            | inr last ↦ let same = only_one n block last in (omega (arith, same), ap (λ b. (block_at net b).from_point) same ∙ sym here.0)
          ]
          | inr there ↦ let is = are.sound point block blocks there.1 has in (omega (arith, is.0), is.1)
        ];
        whole = λ block blocks less got. elim (get_set lists p (block_at net block).from_point (old ++ n ∷ []) blocks got) [
          | inl here ↦ subst (λ l. Contains l block) (sym here.1) (elim (below block n less) [
            | inl early ↦ Contains-append_left old (n ∷ []) block (are.whole block old early (subst (λ q. slice_get lists q ≡ Some old) (sym here.0) had))
            | inr last ↦ subst (Contains (old ++ n ∷ [])) (sym last) (Contains-push old n)
          ])
          | inr there ↦ elim (below block n less) [
            | inl early ↦ are.whole block blocks early there.1
            | inr last ↦ absurd (there.0 (ap (λ b. (block_at net b).from_point) last))
          ]
        ];
      }

-- one operational point more at whose number a block stands
module _ (block : ℕ) (old mid : List (List ℕ)) (done : List ℕ) (stop : ℕ) (within : stop < length mid) (before : AreServedBy done block old mid) where
  abbrev Changed : List (List ℕ)
  Changed = slice_set mid stop (get_or mid stop [] ++ block ∷ [])

  -- what stands at a number afterwards
  at_number : (at : ℕ) → ((at ≡ stop) × (get_or Changed at [] ≡ get_or mid stop [] ++ block ∷ [])) ⊎ (get_or Changed at [] ≡ get_or mid at [])
  at_number at = elim (cases_order at stop) [
    | inl same ↦ inl (same, get_or-set_at mid stop at (get_or mid stop [] ++ block ∷ []) [] same within)
    | inr apart ↦ inr (get_or-set_other mid stop at (get_or mid stop [] ++ block ∷ []) [] (λ same. elim apart [ inl less ↦ omega (arith, less, same) | inr more ↦ omega (arith, more, same) ]))
  ]

  kept_in : (at other : ℕ) → Contains (get_or mid at []) other → Contains (get_or Changed at []) other
  kept_in at other has = elim (at_number at) [
    | inl here ↦ subst (λ l. Contains l other) (sym here.1) (Contains-append_left (get_or mid stop []) (block ∷ []) other (subst (λ q. Contains (get_or mid q []) other) here.0 has))
    | inr there ↦ subst (λ l. Contains l other) (sym there) has
  ]

  now_in : (at : ℕ) → at ≡ stop → Contains (get_or Changed at []) block
  now_in at same = subst (λ l. Contains l block) (sym (get_or-set_at mid stop at (get_or mid stop [] ++ block ∷ []) [] same within)) (Contains-push (get_or mid stop []) block)

  from_before : (at other : ℕ) → (Contains (get_or old at []) other ⊎ ((other ≡ block) × Contains done at)) → Contains (get_or old at []) other ⊎ ((other ≡ block) × Contains (done ++ stop ∷ []) at)
  from_before at other (inl was) = inl was
  from_before at other (inr new) = inr (new.0, Contains-append_left done (stop ∷ []) at new.1)

  pub served_more : AreServedBy (done ++ stop ∷ []) block old (slice_set mid stop (get_or mid stop [] ++ block ∷ []))
  served_more = record {
    count = length-set mid stop (get_or mid stop [] ++ block ∷ []) ∙ before.count;
    sound = λ at other has. elim (at_number at) [
      | inl here ↦ elim (Contains-push_cases (get_or mid stop []) block other (subst (λ l. Contains l other) here.1 has)) [
        | inl was ↦ from_before at other (before.sound at other (subst (λ q. Contains (get_or mid q []) other) (sym here.0) was))
        | inr new ↦ inr (sym new, subst (Contains (done ++ stop ∷ [])) (sym here.0) (Contains-push done stop))
      ]
      | inr there ↦ from_before at other (before.sound at other (subst (λ l. Contains l other) there has))
    ];
    kept = λ at other has. kept_in at other (before.kept at other has);
    whole = λ at has. elim (Contains-push_cases done stop at has) [
      | inl was ↦ kept_in at block (before.whole at was)
      | inr new ↦ now_in at (sym new)
    ];
  }

pub served_none : (block : ℕ) (lists : List (List ℕ)) → AreServedBy [] block lists lists
served_none block lists = record {
  count = refl;
  sound = λ at other has. inl has;
  kept = λ at other has. has;
  whole = λ at has. absurd (omega (arith, has.1));
}

module _ (net : Network) where
  pub none_served : (lists : List (List ℕ)) → length lists ≡ net.stops → All (λ blocks. blocks ≡ []) lists → AreServing net 0 lists
  none_served lists stops none = record {
    stops = stops;
    sound = λ at block has. absurd (nothing at block has);
    whole = λ at block less on. absurd (omega (arith, less));
  }
    where
      nothing : (at block : ℕ) → Contains (get_or lists at []) block → ⊥
      nothing at block has = elim (cases_lt at (length lists)) [
        | inl inside ↦ let wrong = subst (λ l. Contains l block) (All-get_or (λ blocks. blocks ≡ []) lists at [] inside none) has in omega (arith, wrong.1)
        | inr past ↦ let wrong = subst (λ l. Contains l block) (get_or_past lists at [] past) has in omega (arith, wrong.1)
      ]

  pub one_served_more : (n : ℕ) (old new : List (List ℕ)) → AreServing net n old → AreServedBy (block_at net n).serves n old new → AreServing net (n + 1) new
  one_served_more n old new are served = record {
    stops = served.count ∙ are.stops;
    sound = λ at block has. elim (served.sound at block has) [
      | inl was ↦ let is = are.sound at block was in (omega (arith, is.0), is.1)
      | inr here ↦ (omega (arith, here.0), subst (λ b. Contains (block_at net b).serves at) (sym here.0) here.1)
    ];
    whole = λ at block less on. elim (below block n less) [
      | inl early ↦ served.kept at block (are.whole at block early on)
      | inr last ↦ subst (Contains (get_or new at [])) (sym last) (served.whole at (subst (λ b. Contains (block_at net b).serves at) last on))
    ];
  }
