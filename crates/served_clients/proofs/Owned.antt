-- What rules are told by entries at positions of a history.
use Rattle.std.proofs.Common.{◌≡◌, ℕ, zero, suc, ◌+◌, ◌-◌, ◌≤◌, ◌<◌, Bool, true, false, cond, List}
use Rattle.std.proofs.Common.{[], ◌∷◌, ◌++◌, All, Option, Some, None, filter, flat_map, length}
use Rattle.std.proofs.Common.{option_map, option_to_list, slice_get, take, ap, sym, ◌∙◌, subst}
use Rattle.std.proofs.Common.{refl, arith, length-append}
use mathlib.Core.Logic.{⊎_elim}
use Rattle.std.proofs.lemmas.Bool.{cases_Bool}
use Rattle.std.proofs.lemmas.List.{take-append-le}
use Rattle.std.proofs.lemmas.List.Elements.{All-cons, All-head, All-nil, All-tail}
use Rattle.admission_rules.specs.declared.rules.Wish.{Wish}
use Rattle.line_answers.specs.gate.Views.{StartsWith, positions}
use Rattle.admission_rules.specs.Ruled.{Ruled, freed, granted}
use Rattle.admission_rules.specs.Told.{told_at, told_deed, told_of, wish_at}
use Rattle.admission_rules.specs.Wishes.{wish_of}
use Rattle.rail_types.specs.declared.entries.Deed.{Deed}
use Rattle.rail_types.specs.declared.entries.Deed.TheVariants.{Hold, Grant, Free}
use Rattle.rail_types.specs.declared.entries.Entry.{Entry}
use Rattle.served_clients.specs.declared.client_seats.tellings.Telling.{Telling}
use Rattle.served_clients.specs.declared.client_seats.tellings.Telling.TheVariants.{Granted, Freed}
use Rattle.served_clients.specs.ClientRuns.{is_owned, owned, told_own}
use Rattle.served_clients.specs.Tellings.{is_no_hold, may_tell, own_telling, own_tellings}
use Rattle.served_clients.specs.Tellings.{own_tellings_from, telling_of, telling_of_entry, told_each}
use Rattle.served_clients.specs.Tellings.{told_once, told_positions}

pub told_at-append : (history : List Entry) (ps qs : List ℕ) (rules : List Ruled) → told_at history (ps ++ qs) rules ≡ told_at history qs (told_at history ps rules)
told_at-append history [] qs rules = refl
told_at-append history (p ∷ ps) qs rules = told_at-append history ps qs (told_of (take p history) (slice_get history p) rules)

-- ---- longer histories

pub slice_get-left : {X : Type 0} (xs ys : List X) (i : ℕ) → i < length xs → slice_get (xs ++ ys) i ≡ slice_get xs i
slice_get-left [] ys i below = absurd (omega arith)
slice_get-left (x ∷ xs) ys zero below = refl
slice_get-left (x ∷ xs) ys (suc i) below = slice_get-left xs ys i (omega arith)

-- the first entries of a longer history are those of the shorter one
pub told_at-longer : (long short : List Entry) (ps : List ℕ) (rules : List Ruled) → StartsWith long short → All (λ p. p < length short) ps
    → told_at long ps rules ≡ told_at short ps rules
told_at-longer long short [] rules more within = refl
told_at-longer long short (p ∷ ps) rules more within =
    let below : p < length short = All-head (λ q. q < length short) p ps within in
    let least : p ≤ length short = omega arith in
    let front : take p long ≡ take p short = ap (take p) more.1 ∙ take-append-le p short more.0 least in
    let here : slice_get long p ≡ slice_get short p = ap (λ l. slice_get l p) more.1 ∙ slice_get-left short more.0 p below in
    ap (told_at long ps) (ap (λ l. told_of l (slice_get long p) rules) front ∙ ap (λ o. told_of (take p short) o rules) here)
    ∙ told_at-longer long short ps (told_of (take p short) (slice_get short p) rules) more (All-tail (λ q. q < length short) p ps within)

-- ---- positions of an owner's entries

there : (xs : List Entry) (p : ℕ) (name : List ℕ) → is_owned name (slice_get xs p) ≡ true → p < length xs
there [] p name its = cc
there (x ∷ xs) zero name its = omega arith
there (x ∷ xs) (suc p) name its = let rest = there xs p name its in omega arith

-- a position of someone's entry is within the history
pub owned_within : (history : List Entry) (name : List ℕ) (p : ℕ) → is_owned name (slice_get history p) ≡ true → p < length history
owned_within history name p its = there history p name its

pub positions-all : (P : ℕ → Type 0) (n m : ℕ) → ((i : ℕ) → i < m → P (n + i)) → All P (positions n m)
positions-all P n zero each = All-nil P
positions-all P n (suc m) each =
    let first : n + 0 ≡ n = omega arith in
    All-cons P n (positions (suc n) m) (subst P first (each 0 (omega arith)))
    (positions-all P (suc n) m (λ i below. let next : n + suc i ≡ suc n + i = omega arith in subst P next (each (suc i) (omega arith))))

pub positions-append : (n a b : ℕ) → positions n (a + b) ≡ positions n a ++ positions (n + a) b
positions-append n zero b = let same : n ≡ n + 0 = omega arith in let none : 0 + b ≡ b = omega arith in ap (positions n) none ∙ ap (λ k. positions k b) same
positions-append n (suc a) b =
    let next : suc a + b ≡ suc (a + b) = omega arith in let same : suc n + a ≡ n + suc a = omega arith in
    ap (positions n) next ∙ ap (λ l. n ∷ l) (positions-append (suc n) a b ∙ ap (λ k. positions (suc n) a ++ positions k b) same)

pub filter-append : {X : Type 0} (f : X → Bool) (xs ys : List X) → filter f (xs ++ ys) ≡ filter f xs ++ filter f ys
filter-append f [] ys = refl
filter-append f (x ∷ xs) ys = with_first (f x) (filter-append f xs ys)
  where
    with_first : (b : Bool) → filter f (xs ++ ys) ≡ filter f xs ++ filter f ys
        → cond b (x ∷ filter f (xs ++ ys)) (filter f (xs ++ ys)) ≡ cond b (x ∷ filter f xs) (filter f xs) ++ filter f ys
    with_first true rest = ap (λ l. x ∷ l) rest
    with_first false rest = rest

pub filter-alike : {X : Type 0} (f g : X → Bool) (xs : List X) → All (λ x. f x ≡ g x) xs → filter f xs ≡ filter g xs
filter-alike f g [] same = refl
filter-alike f g (x ∷ xs) same =
    let rest = filter-alike f g xs (All-tail (λ y. f y ≡ g y) x xs same) in
    ap (λ l. cond (f x) (x ∷ l) l) rest ∙ ap (λ b. cond b (x ∷ filter g xs) (filter g xs)) (All-head (λ y. f y ≡ g y) x xs same)

pub All-filtered : {X : Type 0} (f : X → Bool) (P : X → Type 0) (xs : List X) → All P xs → All P (filter f xs)
All-filtered f P [] all = all
All-filtered f P (x ∷ xs) all = with_first (f x) (All-filtered f P xs (All-tail P x xs all))
  where
    with_first : (b : Bool) → All P (filter f xs) → All P (cond b (x ∷ filter f xs) (filter f xs))
    with_first true rest = All-cons P x (filter f xs) (All-head P x xs all) rest
    with_first false rest = rest

-- an owner's entries of a longer history are those of the shorter one, and those behind it
pub owned_longer : (long short : List Entry) (name : List ℕ) → StartsWith long short
    → owned long name 0 ≡ owned short name 0 ++ owned long name (length short)
owned_longer long short name more =
    let f : ℕ → Bool = λ p. is_owned name (slice_get long p) in let g : ℕ → Bool = λ p. is_owned name (slice_get short p) in
    let size = ap length more.1 ∙ length-append short more.0 in
    let rest : ℕ = length long - length short in
    let whole : length long - 0 ≡ length short + rest = omega arith in
    let first : length short ≡ length short - 0 = omega arith in
    let behind : 0 + length short ≡ length short = omega arith in
    let alike : filter f (positions 0 (length short)) ≡ filter g (positions 0 (length short)) =
    filter-alike f g (positions 0 (length short)) (positions-all (λ p. f p ≡ g p) 0 (length short)
    (λ i below. let same : 0 + i ≡ i = omega arith in
    subst (λ p. f p ≡ g p) (sym same) (ap (is_owned name) (ap (λ l. slice_get l i) more.1 ∙ slice_get-left short more.0 i below)))) in
    ap (λ n. filter f (positions 0 n)) whole ∙ ap (filter f) (positions-append 0 (length short) rest)
    ∙ filter-append f (positions 0 (length short)) (positions (0 + length short) rest)
    ∙ ap (λ l. l ++ filter f (positions (0 + length short) rest)) (alike ∙ ap (λ n. filter g (positions 0 n)) first)
    ∙ ap (λ n. owned short name 0 ++ filter f (positions n rest)) behind

pub owned_all_within : (history : List Entry) (name : List ℕ) → All (λ p. p < length history) (owned history name 0)
owned_all_within history name =
    let f : ℕ → Bool = λ p. is_owned name (slice_get history p) in
    All-filtered f (λ p. p < length history) (positions 0 (length history - 0)) (positions-all (λ p. p < length history) 0 (length history - 0) (λ i below. omega arith))

-- rules that were told of the entries found, and then of those behind them, were told of all
pub told_whole : (long short : List Entry) (name : List ℕ) (rules : List Ruled) → StartsWith long short
    → told_at long (owned long name (length short)) (told_own short name rules) ≡ told_own long name rules
told_whole long short name rules more =
    ap (told_at long (owned long name (length short))) (sym (told_at-longer long short (owned short name 0) rules more (owned_all_within short name)))
    ∙ sym (told_at-append long (owned short name 0) (owned long name (length short)) rules)
    ∙ ap (λ ps. told_at long ps rules) (sym (owned_longer long short name more))

-- ---- tellings

granted_told : (wish : Option Wish) (rules : List Ruled) → told_each (option_to_list (option_map Granted wish)) rules ≡ granted wish rules
granted_told None rules = refl
granted_told (Some wish) rules = refl

freed_told : (wish : Option Wish) (rules : List Ruled) → told_each (option_to_list (option_map Freed wish)) rules ≡ freed wish rules
freed_told None rules = refl
freed_told (Some wish) rules = refl

deed_told : (before : List Entry) (deed : Deed) (rules : List Ruled) → told_each (option_to_list (telling_of before deed)) rules ≡ told_deed before deed rules
deed_told before (Hold claims reason) rules = refl
deed_told before (Grant wanted path) rules = granted_told (wish_of (Grant wanted path)) rules
deed_told before (Free at) rules = freed_told (wish_at before at) rules

entry_told : (before : List Entry) (entry : Option Entry) (rules : List Ruled) → told_each (option_to_list (telling_of_entry before entry)) rules ≡ told_of before entry rules
entry_told before None rules = refl
entry_told before (Some entry) rules = deed_told before entry.deed rules

told_each-append : (few more : List Telling) (rules : List Ruled) → told_each (few ++ more) rules ≡ told_each more (told_each few rules)
told_each-append [] more rules = refl
told_each-append (one ∷ few) more rules = told_each-append few more (told_once one rules)

module _ (history : List Entry) (name : List ℕ) where
  pub tellings_tell : (ps : List ℕ) (rules : List Ruled)
      → told_each (flat_map (λ p. option_to_list (own_telling history name p)) ps) rules ≡ told_at history (filter (λ p. is_owned name (slice_get history p)) ps) rules
  tellings_tell [] rules = refl
  tellings_tell (p ∷ ps) rules =
      told_each-append (option_to_list (own_telling history name p)) (flat_map (λ q. option_to_list (own_telling history name q)) ps) rules
      ∙ ⊎_elim
      (λ hit.
      let here : own_telling history name p ≡ telling_of_entry (take p history) (slice_get history p) =
      ap (λ b. cond b (telling_of_entry (take p history) (slice_get history p)) None) hit in
      ap (told_each (flat_map (λ q. option_to_list (own_telling history name q)) ps))
      (ap (λ o. told_each (option_to_list o) rules) here ∙ entry_told (take p history) (slice_get history p) rules)
      ∙ tellings_tell ps (told_of (take p history) (slice_get history p) rules)
      ∙ ap (λ b. told_at history (cond b (p ∷ filter (λ q. is_owned name (slice_get history q)) ps) (filter (λ q. is_owned name (slice_get history q)) ps)) rules) (sym hit))
      (λ miss.
      let here : own_telling history name p ≡ None = ap (λ b. cond b (telling_of_entry (take p history) (slice_get history p)) None) miss in
      ap (told_each (flat_map (λ q. option_to_list (own_telling history name q)) ps)) (ap (λ o. told_each (option_to_list o) rules) here)
      ∙ tellings_tell ps rules
      ∙ ap (λ b. told_at history (cond b (p ∷ filter (λ q. is_owned name (slice_get history q)) ps) (filter (λ q. is_owned name (slice_get history q)) ps)) rules) (sym miss))
      (cases_Bool (is_owned name (slice_get history p)))

  pub own_tellings_tell : (rules : List Ruled) → told_each (own_tellings history name) rules ≡ told_own history name rules
  own_tellings_tell rules =
      let all : length history ≡ length history - 0 = omega arith in
      tellings_tell (positions 0 (length history)) rules ∙ ap (λ n. told_at history (filter (λ p. is_owned name (slice_get history p)) (positions 0 n)) rules) all

  -- what is told of the entries from a position on: of the one there, and of those behind it
  pub own_tellings_step : (at : ℕ) → at < length history
      → own_tellings_from history name at (length history - at)
      ≡ option_to_list (own_telling history name at) ++ own_tellings_from history name (at + 1) (length history - (at + 1))
  own_tellings_step at below =
      let some : length history - at ≡ suc (length history - (at + 1)) = omega arith in
      let next : suc at ≡ at + 1 = omega arith in
      ap (own_tellings_from history name at) some
      ∙ ap (λ n. option_to_list (own_telling history name at) ++ own_tellings_from history name n (length history - (at + 1))) next

-- what is told of an owner's entries at these positions
abbrev pub told_of_each : List Entry → List ℕ → List ℕ → List Telling
told_of_each history name ps = flat_map (λ p. option_to_list (own_telling history name p)) ps

nothing_told : (before : List Entry) (entry : Option Entry) → may_tell entry ≡ false → telling_of_entry before entry ≡ None
nothing_told before None miss = refl
nothing_told before (Some entry) miss = of_deed entry.deed miss
  where
    of_deed : (deed : Deed) → is_no_hold deed ≡ false → telling_of before deed ≡ None
    of_deed (Hold claims reason) miss = refl
    of_deed (Grant wanted path) miss = absurd cc
    of_deed (Free at) miss = absurd cc

-- where nothing is told of a position, nothing is told of an owner's entry there
none_owned : (history : List Entry) (name : List ℕ) (p : ℕ) → may_tell (slice_get history p) ≡ false → own_telling history name p ≡ None
none_owned history name p miss = go (is_owned name (slice_get history p))
  where
    told : Option Telling
    told = telling_of_entry (take p history) (slice_get history p)

    go : (b : Bool) → cond b told None ≡ None
    go true = nothing_told (take p history) (slice_get history p) miss
    go false = refl

-- rules are told of those entries alone of which they may be told
told_of_kept : (history : List Entry) (name : List ℕ) (ps : List ℕ) → told_of_each history name (filter (λ p. may_tell (slice_get history p)) ps) ≡ told_of_each history name ps
told_of_kept history name [] = refl
told_of_kept history name (p ∷ ps) =
    ⊎_elim
    (λ hit. ap (λ b. told_of_each history name (cond b (p ∷ filter (λ q. may_tell (slice_get history q)) ps) (filter (λ q. may_tell (slice_get history q)) ps))) hit
    ∙ ap (λ l. option_to_list (own_telling history name p) ++ l) (told_of_kept history name ps))
    (λ miss. ap (λ b. told_of_each history name (cond b (p ∷ filter (λ q. may_tell (slice_get history q)) ps) (filter (λ q. may_tell (slice_get history q)) ps))) miss
    ∙ told_of_kept history name ps
    ∙ ap (λ o. option_to_list o ++ told_of_each history name ps) (sym (none_owned history name p miss)))
    (cases_Bool (may_tell (slice_get history p)))

pub told_of_positions : (history : List Entry) (name : List ℕ) → told_of_each history name (told_positions history) ≡ own_tellings history name
told_of_positions history name = told_of_kept history name (positions 0 (length history))

-- the positions of the entries from one on: that one, and those behind it
pub positions_step : (count at : ℕ) → at < count → positions at (count - at) ≡ at ∷ positions (at + 1) (count - (at + 1))
positions_step count at below =
    let some : count - at ≡ suc (count - (at + 1)) = omega arith in
    let next : suc at ≡ at + 1 = omega arith in
    ap (positions at) some ∙ ap (λ n. at ∷ positions n (count - (at + 1))) next
