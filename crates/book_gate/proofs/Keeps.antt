-- Each step of the gate keeps its rule.
use Rattle.std.proofs.Common.{◌≡◌, ℕ, zero, suc, ◌+◌, ◌-◌, nat_lt, All, ◌%◌, ◌^◌, ◌≤◌, ◌<◌, ◌≢◌, Bool, true, false, List, [], ◌∷◌, ◌++◌, map, length, set, get_or, Option, Some, None, IfSome, sym, refl, ap, ◌∙◌, subst, ⊎_elim, le_refl, arith, length-set, length-append, append_assoc}
use Rattle.std.proofs.lemmas.List.{map-append, append-nil, set-get_or, length-map, nil_from_length}
use Rattle.std.proofs.lemmas.List.Sums.{sum_by-cons, sum_by-append}
use Rattle.std.proofs.lemmas.List.Elements.{All-nil, All-cons, All-weaker, All-append}
use Rattle.std.proofs.lemmas.Bool.{true≢false, false_from_ne_true, cond_both, ltb-true, ltb-false}
use mathlib.Core.Logic.{dite}
use mathlib.Core.Option as slot
use mathlib.Core.Option.{some-injective, some-ne-none}
use native.Mathlib.Decide.{ℕ_discrete}
use lib.ListN.{get_elem?}
use Rattle.atomic_table.specs.Table.{State, Me, keeps, takes, gives, put_back, rest, step, opening, Allows, Splits, Joins, Final, Seen}
use Rattle.atomic_table.proofs.Lists.{at_set, set_again, set_else, set_here, at_longer}
use Rattle.book_gate.specs.declared.views.Origin.{Origin}
use Rattle.book_gate.specs.declared.views.Statement.{Statement}
use Rattle.book_gate.specs.declared.views.Turn.{Turn}
use Rattle.book_gate.specs.declared.views.View.{View}
use Rattle.book_gate.specs.Rule.{turns_of, one_if, tickets, budget, Fits, IsInPlace, IsKept}
use Rattle.book_gate.specs.Steps.{with_ticket, called, served, giving, given as given', joining, spent, Meets, Takes, Looks, Advances}
use Rattle.book_gate.specs.Views.{StartsWith, AreListedWithin, AreCountedWithin, AreNumberedBelow, AreAscending, longer, merged, own, positions, rises, mark_of, origin, IsChain, newcomer, turn}
use Rattle.book_gate.proofs.Lists.{each_set, at_end, at_place, within_length, sum_set, sum_has, sum_has_both}
use Rattle.book_gate.proofs.Turns.{plain, turns_of-append, turns_of-same, turns_of-other, all_of, length-turns_of, has_all, chain-append, IsWithin, chain_all, ascending, chain_own, chain_count, length-merged, renamed, plain-renamed, length-renamed, turns_of-renamed_other, turns_of-renamed_old, turns_of-renamed_new}

-- What is known of a pass with all turns, of the book that `new` was given, and of the last one.
pub record IsWholeStory {E F : Type 0} (first last : Statement E) (v : View E F) : Type 0 where
  pub chain : IsChain 0 (mark_of first) v.turns (mark_of last)
  pub list : StartsWith last.list first.list
  pub seen : StartsWith last.list v.seen
  pub joined : All (λ l. StartsWith last.list l) v.joined
  pub own_entries : own v.turns ≡ positions (length first.list) (length last.list - length first.list)
  pub risen : rises v.turns + first.count ≡ last.count

pub some_is : {A : Type 0} {x y : A} → Some x ≡ Some y → x ≡ y
some_is e = cc

pub none-ne-some : {A : Type 0} {x : A} → None ≡ Some x → ⊥
none-ne-some e = cc

if_some : {A : Type 0} (P : A → Type 0) (x : Option A) → ((a : A) → x ≡ Some a → P a) → IfSome x P
if_some P None h = tt
if_some P (Some a) h = h a refl

from_some : {A : Type 0} → A → Option A → A
from_some d None = d
from_some d (Some b) = b

module _ {E : Type 0} where
  pub starts_refl : (l : List E) → StartsWith l l
  starts_refl l = ([], sym (append-nil l))

  pub starts_trans : (a b c : List E) → StartsWith a b → StartsWith b c → StartsWith a c
  starts_trans a b c p q = (q.0 ++ p.0, p.1 ∙ (ap (λ (l : List E). l ++ p.0) q.1 ∙ append_assoc c q.0 p.0))

  pub starts_length : (a b : List E) → StartsWith a b → length b ≤ length a
  starts_length a b p = let h = ap length p.1 in omega (arith, length-append b p.0)

  heads : {x y : E} {xs ys : List E} → x ∷ xs ≡ y ∷ ys → x ≡ y
  heads e = cc

  tails : {x y : E} {xs ys : List E} → x ∷ xs ≡ y ∷ ys → xs ≡ ys
  tails e = cc

  -- of two beginnings of one list, the longer begins with the other
  pub starts_within : (l a b : List E) → StartsWith l a → StartsWith l b → length a ≤ length b → StartsWith b a
  starts_within l [] b p q h = (b, refl)
  starts_within l (x ∷ a) [] p q h = absurd (omega arith)
  starts_within l (x ∷ a) (y ∷ b) p q h = let e : x ∷ (a ++ p.0) ≡ y ∷ (b ++ q.0) = sym p.1 ∙ q.1 in let less : length a ≤ length b = omega arith in
      let rest = starts_within (a ++ p.0) a b (p.0, refl) (q.0, tails e) less in (rest.0, λ i. sym (heads e) i ∷ rest.1 i)

  -- the longer of two beginnings of one list begins with both, and the list with it
  pub longer_starts : (l a b : List E) → StartsWith l a → StartsWith l b → StartsWith l (longer a b) × StartsWith (longer a b) a × StartsWith (longer a b) b
  longer_starts l a b p q = cond_both (nat_lt (length a) (length b)) b a (λ (c : List E). StartsWith l c × StartsWith c a × StartsWith c b)
      (λ less. let h = ltb-true (length a) (length b) less in let le : length a ≤ length b = omega arith in (q, starts_within l a b p q le, starts_refl b))
      (λ more. let h = ltb-false (length a) (length b) more in (p, starts_refl a, starts_within l b a q p h))

module _ {S E F : Type 0} (stands : S → Statement E) (footing : S → F) (given : ℕ) (opened : S) where
  abbrev V : Type 0
  V = View E F

  abbrev St : Type 0
  St = State (Option S) V

  abbrev M : Type 0
  M = Me (Option S) V

  abbrev Rule : St → Type 0
  Rule = IsKept stands footing given opened

  abbrev Fit : ℕ → ℕ → Bool → Statement E → List (ℕ × Turn) → ℕ → V → Type 0
  Fit = Fits (origin (footing opened) given)

  abbrev Place : Statement E → List (ℕ × Turn) → Bool → List (slot.Option (Option S)) → Type 0
  Place = IsInPlace stands footing opened

  -- tickets stay apart where the one that changed has a ticket which no other has
  apart_set : (views : List V) (id : ℕ) (w : V)
      → ((i j : ℕ) (u v : V) → get_elem? views i ≡ slot.some u → get_elem? views j ≡ slot.some v → u.has_ticket ≡ true → v.has_ticket ≡ true → u.ticket ≡ v.ticket → i ≡ j)
      → ((j : ℕ) (u : V) → j ≢ id → get_elem? views j ≡ slot.some u → w.has_ticket ≡ true → u.has_ticket ≡ true → w.ticket ≡ u.ticket → ⊥)
      → (i j : ℕ) (u v : V) → get_elem? (set views id w) i ≡ slot.some u → get_elem? (set views id w) j ≡ slot.some v → u.has_ticket ≡ true → v.has_ticket ≡ true → u.ticket ≡ v.ticket → i ≡ j
  apart_set views id w all new i j u v p q a b e = ⊎_elim
      (λ (s : (i ≡ id) × (w ≡ u)). ⊎_elim (λ (t : (j ≡ id) × (w ≡ v)). s.0 ∙ sym t.0)
      (λ (t : (j ≢ id) × (get_elem? views j ≡ slot.some v)). absurd (new j v t.0 t.1 (ap (λ (x : V). x.has_ticket) s.1 ∙ a) b (ap (λ (x : V). x.ticket) s.1 ∙ e))) (at_set views id j w v q))
      (λ (s : (i ≢ id) × (get_elem? views i ≡ slot.some u)). ⊎_elim
      (λ (t : (j ≡ id) × (w ≡ v)). absurd (new i u s.0 s.1 (ap (λ (x : V). x.has_ticket) t.1 ∙ b) a (ap (λ (x : V). x.ticket) t.1 ∙ sym e)))
      (λ (t : (j ≢ id) × (get_elem? views j ≡ slot.some v)). all i j u v s.1 t.1 a b e) (at_set views id j w v q)) (at_set views id i w u p)

  abbrev IsWithBook : List V → Type 0
  IsWithBook views = (i : ℕ) × (v : V) × (get_elem? views i ≡ slot.some v) × (v.has_book ≡ true)

  not_both : (b : Bool) → b ≡ true → b ≡ false → ⊥
  not_both b t f = true≢false (sym t ∙ f)

  -- the pass that has the book is another than the one that changed
  still_out : (views : List V) (id : ℕ) (v w : V) → get_elem? views id ≡ slot.some v → v.has_book ≡ false → IsWithBook views → IsWithBook (set views id w)
  still_out views id v w at none h = (h.0, h.1, set_else views id h.0 w (λ (e : h.0 ≡ id). not_both h.1.has_book h.3 (ap (λ (u : V). u.has_book) (some-injective h.1 v (sym h.2 ∙ (ap (get_elem? views) e ∙ at))) ∙ none)) ∙ h.2, h.3)

  -- a step after which one view is w, from what it was
  moved : (s : St) (r : Rule s) (id : ℕ) (v w : V) → get_elem? s.views id ≡ slot.some v
      → (taken serving : ℕ) (is_out : Bool) (last : Statement E) (log : List (ℕ × Turn)) (words : List ℕ) (homes : List (slot.Option (Option S)))
      → words ≡ taken ∷ serving ∷ [] → Place last log is_out homes → Fit taken serving is_out last log id w
      → ((j : ℕ) (u : V) → j ≢ id → get_elem? s.views j ≡ slot.some u → Fit r.taken r.serving r.is_out r.last r.log j u → Fit taken serving is_out last log j u)
      → (is_out ≡ true → IsWithBook (set s.views id w))
      → ((j : ℕ) (u : V) → j ≢ id → get_elem? s.views j ≡ slot.some u → w.has_ticket ≡ true → u.has_ticket ≡ true → w.ticket ≡ u.ticket → ⊥)
      → (serving + tickets w) + r.taken ≡ taken + (r.serving + tickets v) → taken + budget w ≡ r.taken + budget v → w.share ≡ v.share
      → length log ≡ serving → IsChain 0 (mark_of (stands opened)) (plain log) (mark_of last) → StartsWith last.list (stands opened).list → ((i : ℕ) → length s.views ≤ i → turns_of i log ≡ [])
      → Rule record { words = words; homes = homes; views = set s.views id w }
  moved s r id v w at taken serving is_out last log words homes are place fit others out apart waiting left share served_all chain whole known = record {
    taken = taken;
    serving = serving;
    is_out = is_out;
    last = last;
    log = log;
    words = are;
    in_place = place;
    each_pass = each_set (Fit r.taken r.serving r.is_out r.last r.log) (Fit taken serving is_out last log) s.views id w fit others r.each_pass;
    out_with_a_pass = out;
    tickets_apart = apart_set s.views id w r.tickets_apart apart;
    all_wait = let sum = sum_set tickets s.views id v w at in let was = r.all_wait in omega arith;
    all_budgets = let sum = sum_set budget s.views id v w at in let was = r.all_budgets in omega arith;
    all_shares = let sum = sum_set (λ (u : V). u.share) s.views id v w at in let was = r.all_shares in omega arith;
    no_wrap = r.no_wrap;
    all_served = served_all;
    one_chain = chain;
    all_goes_on = whole;
    of_known_passes = λ i h. let e = length-set s.views id w in let still : length s.views ≤ i = omega (arith, e, h) in known i still;
  }

  -- what a pass knows still holds where the book goes on
  goes_on : (taken serving taken' serving' : ℕ) (is_out is_out' : Bool) (last last' : Statement E) (log log' : List (ℕ × Turn)) (i : ℕ) (v : V)
      → StartsWith last'.list last.list → last.count ≤ last'.count → turns_of i log' ≡ turns_of i log
      → (v.has_ticket ≡ true → serving ≤ v.ticket → v.ticket < taken → (serving' ≤ v.ticket) × (v.ticket < taken'))
      → (v.has_book ≡ true → (is_out ≡ true) × (v.has_ticket ≡ true) × (v.ticket ≡ serving) × (v.found ≡ last) → (is_out' ≡ true) × (v.has_ticket ≡ true) × (v.ticket ≡ serving') × (v.found ≡ last'))
      → Fit taken serving is_out last log i v → Fit taken' serving' is_out' last' log' i v
  goes_on taken serving taken' serving' is_out is_out' last last' log log' i v more count turns waits book f = record {
    knows_origin = f.knows_origin;
    has_seen = starts_trans last'.list last.list v.seen more f.has_seen;
    has_counted = let h = f.has_counted in omega arith;
    has_joined = f.has_joined;
    waits_in_line = λ h. let t = f.waits_in_line h in waits h t.0 t.1;
    is_called_in_turn = λ h. book h (f.is_called_in_turn h);
    has_a_share = f.has_a_share;
    keeps_to_its_share = f.keeps_to_its_share;
    has_its_turns = f.has_its_turns ∙ sym turns;
  }

  pub take_step : (slots id : ℕ) (me : M) → me.0.has_ticket ≡ false → me.0.has_book ≡ false → 1 ≤ budget me.0
      → Allows Rule slots id me 0 (λ n. (n + 1) % 2 ^ 64) (Takes (step slots 0 1 0 slot.none) me)
  take_step slots id me idle no_book some_left s r _ at small =
      let n : ℕ = get_or s.words 0 0 in let is : n ≡ r.taken = ap (λ (ws : List ℕ). get_or ws 0 0) r.words in
      let w : V = with_ticket me.0 n in let f = r.each_pass id me.0 at in
      let none : tickets me.0 ≡ 0 = ap one_if idle in let now = r.all_wait in
      let bound = r.all_budgets in let top = r.no_wrap in
      let next : (n + 1) % 2 ^ 64 ≡ r.taken + 1 = omega arith in
      let fit : Fit (r.taken + 1) r.serving r.is_out r.last r.log id w = record {
        knows_origin = f.knows_origin;
        has_seen = f.has_seen;
        has_counted = f.has_counted;
        has_joined = f.has_joined;
        waits_in_line = λ _. (omega arith, omega arith);
        is_called_in_turn = λ h. absurd (not_both me.0.has_book h no_book);
        has_a_share = f.has_a_share;
        keeps_to_its_share = omega arith;
        has_its_turns = f.has_its_turns;
      } in (
        w,
        keeps,
        tt,
        moved s r id me.0 w at (r.taken + 1) r.serving r.is_out r.last r.log (set s.words 0 ((n + 1) % 2 ^ 64)) s.homes
            (ap (λ (ws : List ℕ). set ws 0 ((n + 1) % 2 ^ 64)) r.words ∙ ap (λ (k : ℕ). k ∷ r.serving ∷ []) next)
            r.in_place fit
            (λ j u other there. goes_on r.taken r.serving (r.taken + 1) r.serving r.is_out r.is_out r.last r.last r.log r.log j u (starts_refl r.last.list) (le_refl r.last.count) refl (λ _ a b. (a, omega arith)) (λ _ h. h))
            (λ h. still_out s.views id me.0 w at no_book (r.out_with_a_pass h))
            (λ j u other there _ has same. let t = (r.each_pass j u there).waits_in_line has in omega arith)
            (omega arith) (omega arith) refl r.all_served r.one_chain r.all_goes_on r.of_known_passes,
        refl,
      )

  held_book : S → List (ℕ × Option S) → S
  held_book d [] = d
  held_book d (x ∷ xs) = from_some d x.1

  same_book : (c : List (ℕ × Option S)) (a b : S) → c ≡ (0, Some a) ∷ [] → c ≡ (0, Some b) ∷ [] → a ≡ b
  unfolding held_book from_some
  same_book c a b p q = ap (held_book a) (sym p ∙ q)

  -- nothing changed
  unchanged : (s : St) (r : Rule s) (id : ℕ) (v : V) → get_elem? s.views id ≡ slot.some v → (i : ℕ) → Rule record { words = set s.words i (get_or s.words i 0); homes = s.homes; views = set s.views id v }
  unchanged s r id v at i = subst (λ (z : List ℕ × List V). Rule record { words = z.0; homes = s.homes; views = z.1 }) (λ k. (sym (set-get_or s.words i 0) k, sym (set_again s.views id v at) k)) r

  -- where this pass's ticket is served and it has no book, the book is at home
  at_home : (s : St) (r : Rule s) (id : ℕ) (v : V) → get_elem? s.views id ≡ slot.some v → v.has_ticket ≡ true → v.has_book ≡ false → v.ticket ≡ r.serving → r.is_out ≡ false
  at_home s r id v at has none mine = false_from_ne_true r.is_out (λ out. let h = r.out_with_a_pass out in let u = h.1 in let f = (r.each_pass h.0 u h.2).is_called_in_turn h.3 in
      let same : h.0 ≡ id = r.tickets_apart h.0 id u v h.2 at f.1 has (f.2 ∙ sym mine) in
      not_both u.has_book h.3 (ap (λ (z : V). z.has_book) (some-injective u v (sym h.2 ∙ (ap (get_elem? s.views) same ∙ at))) ∙ none))

  -- the turns of a pass were all served, and left no more than the last left
  all_within : (s : St) (r : Rule s) (id : ℕ) (v : V) → get_elem? s.views id ≡ slot.some v → All (IsWithin 0 r.serving (mark_of (stands opened)) (mark_of r.last)) v.turns
  all_within s r id v at = let served = r.all_served in let as_many : length (plain r.log) ≡ length r.log = length-map r.log (λ (e : ℕ × Turn). e.1) in
      let Within : Turn → Type 0 = IsWithin 0 r.serving (mark_of (stands opened)) (mark_of r.last) in
      subst (All Within) (sym (r.each_pass id v at).has_its_turns) (all_of Within id r.log (chain_all 0 r.serving (mark_of (stands opened)) (mark_of r.last) (plain r.log) (omega arith) r.one_chain))

  numbered : (s : St) (r : Rule s) (id : ℕ) (v : V) → get_elem? s.views id ≡ slot.some v → AreNumberedBelow v.turns r.serving
  numbered s r id v at = All-weaker (IsWithin 0 r.serving (mark_of (stands opened)) (mark_of r.last)) (λ t. t.number < r.serving) (λ _ w. w.below) v.turns (all_within s r id v at)

  counted : (s : St) (r : Rule s) (id : ℕ) (v : V) → get_elem? s.views id ≡ slot.some v → AreCountedWithin v.turns r.last.count
  counted s r id v at = All-weaker (IsWithin 0 r.serving (mark_of (stands opened)) (mark_of r.last)) (λ t. t.left.count ≤ r.last.count) (λ _ w. w.counted) v.turns (all_within s r id v at)

  listed : (s : St) (r : Rule s) (id : ℕ) (v : V) → get_elem? s.views id ≡ slot.some v → AreListedWithin v.turns (length r.last.list)
  listed s r id v at = All-weaker (IsWithin 0 r.serving (mark_of (stands opened)) (mark_of r.last)) (λ t. t.left.entries ≤ length r.last.list) (λ _ w. w.listed) v.turns (all_within s r id v at)

  pub look_step : (slots id : ℕ) (me : M) → me.0.has_ticket ≡ true → me.0.has_book ≡ false → Allows Rule slots id me 1 (λ n. n) (Looks stands footing (step slots 1 0 0 slot.none) me)
  look_step slots id me has none s r _ at small = let n : ℕ = get_or s.words 1 0 in let is : n ≡ r.serving = ap (λ (ws : List ℕ). get_or ws 1 0) r.words in dite (ℕ_discrete n me.0.ticket)
      (λ hit. let f = r.each_pass id me.0 at in let mine : me.0.ticket ≡ r.serving = sym hit ∙ is in let home = at_home s r id me.0 at has none mine in
      let place = subst (λ (b : Bool). Place r.last r.log b s.homes) home r.in_place in let b : S = place.0 in let w : V = called me.0 (stands b) in
      let fit : Fit r.taken r.serving true r.last r.log id w = record {
        knows_origin = f.knows_origin;
        has_seen = f.has_seen;
        has_counted = f.has_counted;
        has_joined = f.has_joined;
        waits_in_line = f.waits_in_line;
        is_called_in_turn = λ _. (refl, has, mine, place.2);
        has_a_share = f.has_a_share;
        keeps_to_its_share = f.keeps_to_its_share;
        has_its_turns = f.has_its_turns;
      } in (
        w,
        takes 0 (Some b),
        ap (λ (hs : List (slot.Option (Option S))). get_elem? hs 0) place.1,
        moved s r id me.0 w at r.taken r.serving true r.last r.log (set s.words 1 n) (set s.homes 0 slot.none)
            (set-get_or s.words 1 0 ∙ r.words) (ap (λ (hs : List (slot.Option (Option S))). set hs 0 slot.none) place.1) fit
            (λ j u other there. goes_on r.taken r.serving r.taken r.serving r.is_out true r.last r.last r.log r.log j u (starts_refl r.last.list) (le_refl r.last.count) refl (λ _ a b. (a, b)) (λ _ h. absurd (not_both r.is_out h.0 home)))
            (λ _. (id, w, set_here s.views id w (within_length s.views id me.0 at), refl))
            (λ j u other there a b e. other (sym (r.tickets_apart id j me.0 u at there a b e)))
            (omega arith) (omega arith) refl r.all_served r.one_chain r.all_goes_on r.of_known_passes,
        (
          λ _. (
            b,
            refl,
            subst (λ (z : Statement E). StartsWith z.list me.0.seen) (sym place.2) f.has_seen,
            subst (λ (z : Statement E). me.0.count ≤ z.count) (sym place.2) f.has_counted,
            subst (λ (z : Statement E). AreListedWithin me.0.turns (length z.list)) (sym place.2) (listed s r id me.0 at),
            subst (λ (z : Statement E). AreCountedWithin me.0.turns z.count) (sym place.2) (counted s r id me.0 at),
            subst (AreNumberedBelow me.0.turns) (sym mine) (numbered s r id me.0 at),
            if_some (λ o. o.footing ≡ footing b) me.0.origin (λ o e. ap (λ (z : Origin F). z.footing) (f.knows_origin o e) ∙ sym place.3),
          ),
          λ miss. absurd (miss hit),
        ),
      ))
      (λ miss. (me.0, keeps, tt, unchanged s r id me.0 at 1, ((λ hit. absurd (miss hit)), λ _. refl)))

  pub advance_step : (slots id : ℕ) (me : M) (b : S) → me.0.has_ticket ≡ true → me.0.has_book ≡ true → me.1 ≡ (0, Some b) ∷ []
      → footing b ≡ footing opened → StartsWith (stands b).list me.0.found.list → me.0.found.count ≤ (stands b).count → Allows Rule slots id me 1 (λ n. (n + 1) % 2 ^ 64) (Advances stands (step slots 1 1 0 slot.none) me)
  advance_step slots id me b has book carried on_footing more count s r _ at small =
      let n : ℕ = get_or s.words 1 0 in let is : n ≡ r.serving = ap (λ (ws : List ℕ). get_or ws 1 0) r.words in
      let v : V = me.0 in let z : Statement E = stands b in let w : V = served v z in let t : Turn = turn v.ticket v.found z in
      let f = r.each_pass id v at in let c = f.is_called_in_turn book in let out = c.0 in let mine : v.ticket ≡ r.serving = c.2 in
      let has_one : tickets v ≡ 1 = ap one_if has in
      let now = r.all_wait in let bound = r.all_budgets in let top = r.no_wrap in let within = f.waits_in_line has in let share = f.keeps_to_its_share in
      let next : (n + 1) % 2 ^ 64 ≡ r.serving + 1 = omega arith in
      let long : length (v.turns ++ t ∷ []) ≡ length v.turns + 1 = length-append v.turns (t ∷ []) in
      let log : List (ℕ × Turn) = r.log ++ (id, t) ∷ [] in let was = r.all_served in
      let longer_log : length log ≡ length r.log + 1 = length-append r.log ((id, t) ∷ []) in
      let begins : StartsWith z.list r.last.list = subst (λ (x : Statement E). StartsWith z.list x.list) c.3 more in
      let counts : r.last.count ≤ z.count = subst (λ (x : Statement E). x.count ≤ z.count) c.3 count in
      let homes = subst (λ (o : Bool). Place r.last r.log o s.homes) out r.in_place in
      let fit : Fit r.taken (r.serving + 1) false z log id w = record {
        knows_origin = f.knows_origin;
        has_seen = starts_refl z.list;
        has_counted = le_refl z.count;
        has_joined = All-weaker (λ l. StartsWith v.seen l) (λ l. StartsWith z.list l) (λ (l : List E) (h : StartsWith v.seen l). starts_trans z.list v.seen l (starts_trans z.list r.last.list v.seen begins f.has_seen) h) v.joined f.has_joined;
        waits_in_line = λ h. absurd (true≢false (sym h));
        is_called_in_turn = λ h. absurd (true≢false (sym h));
        has_a_share = f.has_a_share;
        keeps_to_its_share = omega arith;
        has_its_turns = ap (λ (ts : List Turn). ts ++ t ∷ []) f.has_its_turns ∙ sym (turns_of-append id r.log ((id, t) ∷ []) ∙ ap (λ (ts : List Turn). turns_of id r.log ++ ts) (turns_of-same id id t [] refl));
      } in
      let others_turns : (j : ℕ) → id ≢ j → turns_of j log ≡ turns_of j r.log = λ j n. turns_of-append j r.log ((id, t) ∷ []) ∙ (ap (λ (ts : List Turn). turns_of j r.log ++ ts) (turns_of-other j id t [] n) ∙ append-nil (turns_of j r.log)) in (
        w,
        gives,
        tt,
        moved s r id v w at r.taken (r.serving + 1) false z log (set s.words 1 ((n + 1) % 2 ^ 64)) (put_back s.homes me.1)
            (ap (λ (ws : List ℕ). set ws 1 ((get_or ws 1 0 + 1) % 2 ^ 64)) r.words ∙ ap (λ (k : ℕ). r.taken ∷ k ∷ []) (ap (λ (k : ℕ). (k + 1) % 2 ^ 64) (sym is) ∙ next))
            (b, ap (λ (x : List (slot.Option (Option S)) × List (ℕ × Option S)). put_back x.0 x.1) (λ i. (homes i, carried i)), refl, on_footing, λ e. let h = ap length e in absurd (omega arith))
            fit
            (λ j u other there. let apart : u.has_ticket ≡ true → u.ticket ≢ v.ticket = λ h e. other (r.tickets_apart j id u v there at h has e) in
            goes_on r.taken r.serving r.taken (r.serving + 1) r.is_out false r.last z r.log log j u begins counts (others_turns j (λ e. other (sym e)))
            (λ h a b. let not = apart h in (omega arith, b)) (λ h k. absurd (apart k.1 (k.2 ∙ sym mine))))
            (λ h. absurd (true≢false (sym h)))
            (λ j u other there a _ _. absurd (true≢false (sym a)))
            (omega arith) (omega arith) refl (omega arith)
            (subst (λ (ts : List Turn). IsChain 0 (mark_of (stands opened)) ts (mark_of z)) (sym (map-append (λ (e : ℕ × Turn). e.1) r.log ((id, t) ∷ [])))
            (chain-append 0 (mark_of (stands opened)) (mark_of r.last) (plain r.log) t r.one_chain (omega (arith, length-map r.log (λ (e : ℕ × Turn). e.1))) (ap mark_of c.3) (starts_length z.list v.found.list more, count)))
            (starts_trans z.list r.last.list (stands opened).list begins r.all_goes_on)
            (λ i h. let inside = within_length s.views id v at in others_turns i (λ e. omega arith) ∙ r.of_known_passes i h),
        λ b' e. let same = same_book me.1 b b' carried e in λ i. (served v (stands (same i)), ap rest carried i),
      )

  alone : (P : ℕ → V → Type 0) (v : V) → P 0 v → (i : ℕ) (u : V) → get_elem? (v ∷ []) i ≡ slot.some u → P i u
  alone P v h zero u e = subst (P 0) (some-injective v u e) h
  alone P v h (suc i) u e = absurd (some-ne-none u (sym e))

  -- the gate as it is made
  pub starts : 1 ≤ given → given ≤ 2 ^ 62 → (slots : List (Option S)) → slots ≡ Some opened ∷ [] → Rule (opening (0 ∷ 0 ∷ []) slots (newcomer (origin (footing opened) given) (stands opened)))
  starts some_turns small slots is = let v : V = newcomer (origin (footing opened) given) (stands opened) in record {
    taken = 0;
    serving = 0;
    is_out = false;
    last = stands opened;
    log = [];
    words = refl;
    in_place = (opened, ap (map slot.some) is, refl, refl, λ _. refl);
    each_pass = alone (Fit 0 0 false (stands opened) []) v (record {
      knows_origin = λ o e. sym (some_is e);
      has_seen = starts_refl (stands opened).list;
      has_counted = le_refl (stands opened).count;
      has_joined = All-nil (λ l. StartsWith (stands opened).list l);
      waits_in_line = λ h. absurd (true≢false (sym h));
      is_called_in_turn = λ h. absurd (true≢false (sym h));
      has_a_share = λ _ _. some_turns;
      keeps_to_its_share = omega arith;
      has_its_turns = refl;
    });
    out_with_a_pass = λ h. absurd (true≢false (sym h));
    tickets_apart = λ i j u w p q _ _ _. alone (λ k _. k ≡ 0) v refl i u p ∙ sym (alone (λ k _. k ≡ 0) v refl j w q);
    all_wait = omega (arith, sum_by-cons tickets v []);
    all_budgets = omega (arith, sum_by-cons budget v []);
    all_shares = omega (arith, sum_by-cons (λ (u : V). u.share) v []);
    no_wrap = small;
    all_served = refl;
    one_chain = refl;
    all_goes_on = starts_refl (stands opened).list;
    of_known_passes = λ _ _. refl;
  }

  -- a new pass has no ticket
  apart_more : (views : List V) (w : V) → w.has_ticket ≡ false
      → ((i j : ℕ) (u v : V) → get_elem? views i ≡ slot.some u → get_elem? views j ≡ slot.some v → u.has_ticket ≡ true → v.has_ticket ≡ true → u.ticket ≡ v.ticket → i ≡ j)
      → (i j : ℕ) (u v : V) → get_elem? (views ++ w ∷ []) i ≡ slot.some u → get_elem? (views ++ w ∷ []) j ≡ slot.some v → u.has_ticket ≡ true → v.has_ticket ≡ true → u.ticket ≡ v.ticket → i ≡ j
  apart_more views w none all i j u v p q a b e = ⊎_elim
      (λ (s : get_elem? views i ≡ slot.some u). ⊎_elim (λ (t : get_elem? views j ≡ slot.some v). all i j u v s t a b e)
      (λ (t : (j ≡ length views) × (w ≡ v)). absurd (not_both w.has_ticket (ap (λ (x : V). x.has_ticket) t.1 ∙ b) none)) (at_end views w v j q))
      (λ (s : (i ≡ length views) × (w ≡ u)). absurd (not_both w.has_ticket (ap (λ (x : V). x.has_ticket) s.1 ∙ a) none)) (at_end views w u i p)

  -- a pass is cut in two
  pub split_step : (id : ℕ) (v : V) (n : ℕ) → v.has_ticket ≡ false → v.has_book ≡ false → 1 ≤ n → n ≤ budget v → n < v.share → Splits Rule id v (giving v n) (given' v n)
  split_step id v n no_ticket no_book some_turns enough less s r at = let f = r.each_pass id v at in let left : V = giving v n in let right : V = given' v n in
      let none : tickets v ≡ 0 = ap one_if no_ticket in let views : List V = set s.views id left in
      let share = f.keeps_to_its_share in
      let fit_left : Fit r.taken r.serving r.is_out r.last r.log id left = record {
        knows_origin = f.knows_origin;
        has_seen = f.has_seen;
        has_counted = f.has_counted;
        has_joined = f.has_joined;
        waits_in_line = f.waits_in_line;
        is_called_in_turn = f.is_called_in_turn;
        has_a_share = λ _ _. omega arith;
        keeps_to_its_share = omega arith;
        has_its_turns = f.has_its_turns;
      } in
      let fit_right : Fit r.taken r.serving r.is_out r.last r.log (length views) right = record {
        knows_origin = f.knows_origin;
        has_seen = f.has_seen;
        has_counted = f.has_counted;
        has_joined = All-nil (λ l. StartsWith v.seen l);
        waits_in_line = f.waits_in_line;
        is_called_in_turn = f.is_called_in_turn;
        has_a_share = λ _ _. some_turns;
        keeps_to_its_share = omega arith;
        has_its_turns = sym (r.of_known_passes (length views) (omega (arith, length-set s.views id left)));
      } in record {
        taken = r.taken;
        serving = r.serving;
        is_out = r.is_out;
        last = r.last;
        log = r.log;
        words = r.words;
        in_place = r.in_place;
        each_pass = λ j u e. ⊎_elim (each_set (Fit r.taken r.serving r.is_out r.last r.log) (Fit r.taken r.serving r.is_out r.last r.log) s.views id left fit_left (λ _ _ _ _ h. h) r.each_pass j u)
            (λ (t : (j ≡ length views) × (right ≡ u)). subst (λ (z : ℕ × V). Fit r.taken r.serving r.is_out r.last r.log z.0 z.1) (λ k. (sym t.0 k, t.1 k)) fit_right) (at_end views right u j e);
        out_with_a_pass = λ h. let o = still_out s.views id v left at no_book (r.out_with_a_pass h) in (o.0, o.1, at_longer views (right ∷ []) o.0 o.1 o.2, o.3);
        tickets_apart = apart_more views right no_ticket (apart_set s.views id left r.tickets_apart (λ j u _ _ has _ _. not_both v.has_ticket has no_ticket));
        all_wait = let sum = sum_set tickets s.views id v left at in let was = r.all_wait in omega (arith, sum_by-append tickets views (right ∷ []), sum_by-cons tickets right []);
        all_budgets = let sum = sum_set budget s.views id v left at in let was = r.all_budgets in omega (arith, sum_by-append budget views (right ∷ []), sum_by-cons budget right []);
        all_shares = let sum = sum_set (λ (u : V). u.share) s.views id v left at in let was = r.all_shares in
            omega (arith, sum_by-append (λ (u : V). u.share) views (right ∷ []), sum_by-cons (λ (u : V). u.share) right []);
        no_wrap = r.no_wrap;
        all_served = r.all_served;
        one_chain = r.one_chain;
        all_goes_on = r.all_goes_on;
        of_known_passes = λ i h. let e = length-append views (right ∷ []) in let d = length-set s.views id left in r.of_known_passes i (omega (arith, e, d, h));
      }

  -- the book is where it was, whatever the log calls the passes
  place_again : (last : Statement E) (log log' : List (ℕ × Turn)) (b : Bool) (homes : List (slot.Option (Option S))) → (log' ≡ [] → log ≡ []) → Place last log b homes → Place last log' b homes
  place_again last log log' false homes h p = (p.0, p.1, p.2, p.3, λ e. p.4 (h e))
  place_again last log log' true homes h p = p

  no_turns : (log log' : List (ℕ × Turn)) → length log' ≡ length log → log' ≡ [] → log ≡ []
  no_turns log log' e none = nil_from_length log (sym e ∙ ap length none)

  -- a pass takes another in
  pub join_step : (id : ℕ) (v : V) (other : ℕ) (w : V) → v.has_ticket ≡ false → v.has_book ≡ false → w.has_ticket ≡ false → w.has_book ≡ false → Joins Rule id v other w (joining v w) spent
  join_step id v other w no_ticket no_book no_ticket' no_book' s r at apart there' = let both : V = joining v w in let views : List V = set s.views id both in
      let there : get_elem? s.views other ≡ slot.some w = sym (set_else s.views id other both apart) ∙ there' in
      let f = r.each_pass id v at in let g = r.each_pass other w there in
      let log : List (ℕ × Turn) = renamed other id r.log in
      let none : tickets v ≡ 0 = ap one_if no_ticket in let none' : tickets w ≡ 0 = ap one_if no_ticket' in
      let share = f.keeps_to_its_share in let share' = g.keeps_to_its_share in let long = length-merged v.turns w.turns in
      let seen = longer_starts r.last.list v.seen w.seen f.has_seen g.has_seen in
      let count = f.has_counted in let count' = g.has_counted in
      let inside = within_length s.views id v at in let inside' = within_length s.views other w there in
      let turns_stay : (j : ℕ) → j ≢ other → j ≢ id → turns_of j log ≡ turns_of j r.log = λ j a b. turns_of-renamed_other other id j r.log a b in
      let fit_both : Fit r.taken r.serving r.is_out r.last log id both = record {
        knows_origin = f.knows_origin;
        has_seen = seen.0;
        has_counted = omega arith;
        has_joined = All-append (λ l. StartsWith both.seen l) (v.joined ++ w.joined) (v.seen ∷ w.seen ∷ [])
            (All-append (λ l. StartsWith both.seen l) v.joined w.joined
            (All-weaker (λ l. StartsWith v.seen l) (λ l. StartsWith both.seen l) (λ (l : List E) (h : StartsWith v.seen l). starts_trans both.seen v.seen l seen.1 h) v.joined f.has_joined)
            (All-weaker (λ l. StartsWith w.seen l) (λ l. StartsWith both.seen l) (λ (l : List E) (h : StartsWith w.seen l). starts_trans both.seen w.seen l seen.2 h) w.joined g.has_joined))
            (All-cons (λ l. StartsWith both.seen l) v.seen (w.seen ∷ []) seen.1 (All-cons (λ l. StartsWith both.seen l) w.seen [] seen.2 (All-nil (λ l. StartsWith both.seen l))));
        waits_in_line = λ h. absurd (not_both v.has_ticket h no_ticket);
        is_called_in_turn = λ h. absurd (not_both v.has_book h no_book);
        has_a_share = λ o e. let one = f.has_a_share o e in omega arith;
        keeps_to_its_share = omega arith;
        has_its_turns = ap (λ (p : List Turn × List Turn). merged p.0 p.1) (λ i. (f.has_its_turns i, g.has_its_turns i)) ∙ sym (turns_of-renamed_new other id 0 (mark_of (stands opened)) (mark_of r.last) r.log apart r.one_chain);
      } in
      let fit_spent : Fit r.taken r.serving r.is_out r.last log other spent = record {
        knows_origin = λ o e. absurd (none-ne-some e);
        has_seen = (r.last.list, refl);
        has_counted = omega arith;
        has_joined = All-nil (λ l. StartsWith [] l);
        waits_in_line = λ h. absurd (true≢false (sym h));
        is_called_in_turn = λ h. absurd (true≢false (sym h));
        has_a_share = λ o e. absurd (none-ne-some e);
        keeps_to_its_share = omega arith;
        has_its_turns = sym (turns_of-renamed_old other id r.log apart);
      } in record {
        taken = r.taken;
        serving = r.serving;
        is_out = r.is_out;
        last = r.last;
        log = log;
        words = r.words;
        in_place = place_again r.last r.log log r.is_out s.homes (no_turns r.log log (length-renamed other id r.log)) r.in_place;
        each_pass = each_set (λ j u. j ≢ other → Fit r.taken r.serving r.is_out r.last log j u) (Fit r.taken r.serving r.is_out r.last log) views other spent fit_spent (λ j u n _ h. h n)
            (each_set (Fit r.taken r.serving r.is_out r.last r.log) (λ j u. j ≢ other → Fit r.taken r.serving r.is_out r.last log j u) s.views id both (λ _. fit_both)
            (λ j u n _ h m. goes_on r.taken r.serving r.taken r.serving r.is_out r.is_out r.last r.last r.log log j u (starts_refl r.last.list) (le_refl r.last.count) (turns_stay j m n) (λ _ a b. (a, b)) (λ _ k. k) h) r.each_pass);
        out_with_a_pass = λ h. still_out views other w spent there' no_book' (still_out s.views id v both at no_book (r.out_with_a_pass h));
        tickets_apart = apart_set views other spent (apart_set s.views id both r.tickets_apart (λ j u _ _ has _ _. not_both v.has_ticket has no_ticket)) (λ j u _ _ has _ _. true≢false (sym has));
        all_wait = let a = sum_set tickets s.views id v both at in let b = sum_set tickets views other w spent there' in let was = r.all_wait in omega arith;
        all_budgets = let a = sum_set budget s.views id v both at in let b = sum_set budget views other w spent there' in let was = r.all_budgets in omega arith;
        all_shares = let a = sum_set (λ (u : V). u.share) s.views id v both at in let b = sum_set (λ (u : V). u.share) views other w spent there' in let was = r.all_shares in omega arith;
        no_wrap = r.no_wrap;
        all_served = length-renamed other id r.log ∙ r.all_served;
        one_chain = subst (λ (ts : List Turn). IsChain 0 (mark_of (stands opened)) ts (mark_of r.last)) (sym (plain-renamed other id r.log)) r.one_chain;
        all_goes_on = r.all_goes_on;
        of_known_passes = λ i h. let e = length-set s.views id both in let d = length-set views other spent in let far : length s.views ≤ i = omega (arith, e, d, h) in
            turns_stay i (λ k. omega arith) (λ k. omega arith) ∙ r.of_known_passes i far;
      }

  -- a pass with all shares has all turns
  has_all_turns : (s : St) (r : Rule s) (id : ℕ) (v : V) → get_elem? s.views id ≡ slot.some v → v.share ≡ given → v.turns ≡ plain r.log
  has_all_turns s r id v at whole = (r.each_pass id v at).has_its_turns ∙ has_all id r.log (λ j n. ⊎_elim
      (λ (t : (u : V) × (get_elem? s.views j ≡ slot.some u)). let u : V = t.0 in let f = r.each_pass j u t.1 in let share = f.keeps_to_its_share in
      let sum = sum_has_both (λ (x : V). x.share) s.views id j v u at t.1 n in let was = r.all_shares in
      sym f.has_its_turns ∙ nil_from_length u.turns (omega arith))
      (λ (h : length s.views ≤ j). r.of_known_passes j h) (at_place s.views j))

  pub meet_step : (slots id : ℕ) (me : M) → Allows Rule slots id me 1 (λ n. n) (Meets (step slots 1 0 0 slot.none) me)
  meet_step slots id me s r _ at small = let n : ℕ = get_or s.words 1 0 in let is : n ≡ r.serving = ap (λ (ws : List ℕ). get_or ws 1 0) r.words in let v : V = me.0 in
      let f = r.each_pass id v at in let long = length-turns_of id r.log in let served = r.all_served in let mine = ap length f.has_its_turns in
      let as_many : length (plain r.log) ≡ length r.log = length-map r.log (λ (e : ℕ × Turn). e.1) in (
        v,
        keeps,
        tt,
        unchanged s r id v at 1,
        (
          refl,
          f.has_joined,
          omega arith,
          (let share = f.keeps_to_its_share in omega arith),
          subst (AreNumberedBelow v.turns) (sym is) (numbered s r id v at),
          subst AreAscending (sym f.has_its_turns) (ascending 0 id (mark_of (stands opened)) (mark_of r.last) r.log r.one_chain),
          λ o e. let turns = ap (λ (x : Origin F). x.turns) (f.knows_origin o e) in let mine_left = sum_has budget s.views id v at in let all = r.all_budgets in let now = r.all_wait in omega arith,
          λ o e whole. let all = ap length (has_all_turns s r id v at (whole ∙ ap (λ (x : Origin F). x.turns) (f.knows_origin o e))) in omega arith,
        ),
      )

  -- what comes out where one pass has all shares
  abbrev pub Closes : V → S → Type 0
  Closes v b = (footing b ≡ footing opened) × (v.turns ≡ [] → b ≡ opened) × IsWholeStory (stands opened) (stands b) v

  closes : (s : St) (r : Rule s) (id : ℕ) (v : V) → get_elem? s.views id ≡ slot.some v → v.has_ticket ≡ false → v.share ≡ given → (b : S) × (s.homes ≡ slot.some (Some b) ∷ []) × Closes v b
  closes s r id v at no_ticket whole =
      let home : r.is_out ≡ false = false_from_ne_true r.is_out (λ out. let h = r.out_with_a_pass out in let u : V = h.1 in let f = r.each_pass h.0 u h.2 in let has = (f.is_called_in_turn h.3).1 in
      dite (ℕ_discrete h.0 id)
      (λ same. not_both u.has_ticket has (ap (λ (x : V). x.has_ticket) (some-injective u v (sym h.2 ∙ (ap (get_elem? s.views) same ∙ at))) ∙ no_ticket))
      (λ n. let one : tickets u ≡ 1 = ap one_if has in let share = f.keeps_to_its_share in let sum = sum_has_both (λ (x : V). x.share) s.views id h.0 v u at h.2 n in let was = r.all_shares in omega arith)) in
      let place = subst (λ (o : Bool). Place r.last r.log o s.homes) home r.in_place in let b : S = place.0 in
      let f = r.each_pass id v at in let all = has_all_turns s r id v at whole in
      let story : IsWholeStory (stands opened) r.last v =
      let chain : IsChain 0 (mark_of (stands opened)) v.turns (mark_of r.last) = subst (λ (ts : List Turn). IsChain 0 (mark_of (stands opened)) ts (mark_of r.last)) (sym all) r.one_chain in record {
        chain = chain;
        list = r.all_goes_on;
        seen = f.has_seen;
        joined = All-weaker (λ l. StartsWith v.seen l) (λ l. StartsWith r.last.list l) (λ (l : List E) (h : StartsWith v.seen l). starts_trans r.last.list v.seen l f.has_seen h) v.joined f.has_joined;
        own_entries = chain_own 0 (mark_of (stands opened)) (mark_of r.last) v.turns chain;
        risen = chain_count 0 (mark_of (stands opened)) (mark_of r.last) v.turns chain;
      } in (
        b,
        place.1,
        (
          place.3,
          λ none. place.4 (let e = ap length (sym all ∙ none) in nil_from_length r.log (let as_many = length-map r.log (λ (e : ℕ × Turn). e.1) in omega arith)),
          subst (λ (z : Statement E). IsWholeStory (stands opened) z v) (sym place.2) story,
        ),
      )

  -- and so of the table that is closed with it
  pub closed : (id : ℕ) (v : V) (words : List ℕ) (slots : List (Option S)) (home : Option S) → v.has_ticket ≡ false → v.share ≡ given → Final (Seen Rule id v) words slots → get_elem? slots 0 ≡ slot.some home
      → (b : S) × (home ≡ Some b) × Closes v b
  closed id v words slots home no_ticket whole final taken_out = let s : St = final.0 in let c = closes s final.1.0 id v final.1.1 no_ticket whole in
      (c.0, some-injective home (Some c.0) (sym taken_out ∙ final.4 0 (Some c.0) (ap (λ (hs : List (slot.Option (Option S))). get_elem? hs 0) c.1)), c.2)
