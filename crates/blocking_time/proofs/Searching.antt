-- A search for the first broken rule, run by run and rule by rule.
use Rattle.std.proofs.Common.{◌≡◌, ◌∙◌, sym, ap, refl, subst, ℕ, zero, suc, ◌+◌, ◌-◌, ◌<◌, ◌≤◌, Bool, true, false, not, ◌&&◌, nat_eq, cond, if◌then◌else◌, List, [], ◌∷◌, length, map, find, flat_map, Option, Some, None, option_map, inl, inr, Decides, arith}
use Rattle.std.specs.List.{range_with_len}
use Rattle.std.proofs.lemmas.Bool.Decides.{leb_tells, nat_tests}
use Rattle.std.proofs.lemmas.List.Sums.{count_by_more_no, count_by_more_yes}
use Rattle.rail_types.specs.declared.tracks.Network.{Network}
use Rattle.rail_types.specs.declared.trains.Request.{Request}
use Rattle.rail_types.specs.declared.entries.Settings.{Settings}
use Rattle.rail_types.specs.declared.paths.Path.{Path}
use Rattle.blocking_time.specs.declared.rules.Broken.{Broken as Told}
use Rattle.blocking_time.specs.Runs.{run_at, run_numbers}
use Rattle.blocking_time.specs.Rules.{AskedRule, RunRule, rule_7, rule_8, rule_9, rule_10, rule_11, rule_12, stops_before}
use Rattle.blocking_time.specs.Broken.{asked_told, breaks, breaks_request, broken_request, is_outside, is_same_train, rule_of_run, run_rule_number, run_rules, run_told, serves}
use Rattle.blocking_time.proofs.Telling.{same_train_tells}
use Rattle.blocking_time.proofs.Finding.{find_here, find_none, find_on, find_some, range_end, range_on}

when_false : {P : Type 0} (b : Bool) → Decides b P → ¬ P → b ≡ false
when_false true tells fails = absurd (fails (tells.0 refl))
when_false false tells fails = refl

-- what is found from a run on
module _ (net : Network) (settings : Settings) (path : Path) where
  abbrev test : ℕ × RunRule → Bool
  test at = breaks net settings path at.1 at.0

  abbrev from_here : List ℕ → List (ℕ × RunRule)
  from_here numbers = flat_map (λ k. map (λ rule. (k, rule)) run_rules) numbers

  abbrev pub found_from : ℕ → Option Told
  found_from k = option_map run_told (find test (from_here (range_with_len k (length path.runs - k))))

  module _ (k : ℕ) (within : k < length path.runs) where
    abbrev behind : List ℕ
    behind = range_with_len (k + 1) (length path.runs - (k + 1))

    pub run_goes_on : rule_of_run net settings path k ≡ None → found_from k ≡ found_from (k + 1)
    run_goes_on none = rw (range_on k (length path.runs) within) (go (find (λ rule. breaks net settings path rule k) run_rules) refl none)
      where
        go : (found : Option RunRule) → find (λ rule. breaks net settings path rule k) run_rules ≡ found → option_map run_rule_number found ≡ None → option_map run_told (find test (from_here (k ∷ behind))) ≡ option_map run_told (find test (from_here behind))
        go None is e = ap (option_map run_told) (find_on test (map (λ rule. (k, rule)) run_rules) (from_here behind) (find_none test (λ rule. (k, rule)) run_rules is))
        go (Some rule) is e = cc

    pub run_stops : (number : ℕ) → rule_of_run net settings path k ≡ Some number → found_from k ≡ Some (record { run = k; rule = number })
    run_stops number some = rw (range_on k (length path.runs) within) (go (find (λ rule. breaks net settings path rule k) run_rules) refl some)
      where
        go : (found : Option RunRule) → find (λ rule. breaks net settings path rule k) run_rules ≡ found → option_map run_rule_number found ≡ Some number → option_map run_told (find test (from_here (k ∷ behind))) ≡ Some (record { run = k; rule = number })
        go None is e = cc
        go (Some rule) is e =
            let same : run_rule_number rule ≡ number = cc in
            ap (option_map run_told) (find_here test (map (λ rule. (k, rule)) run_rules) (from_here behind) (k, rule) (find_some test (λ rule. (k, rule)) run_rules rule is)) ∙ ap (λ n. Some (record { run = k; rule = n })) same

  pub runs_end : (k : ℕ) → length path.runs ≤ k → found_from k ≡ None
  runs_end k past = rw (range_end k (length path.runs) past) refl

-- searches of numbers
pub numbers_none : (q : ℕ → Bool) (n a : ℕ) → ((k : ℕ) → a ≤ k → k < a + n → q k ≡ false) → find q (range_with_len a n) ≡ None
numbers_none q zero a fails = refl
numbers_none q (suc n) a fails = rw (fails a (omega arith) (omega arith)) (numbers_none q n (a + 1) (λ k low high. fails k (omega arith) (omega arith)))

pub numbers_some : (q : ℕ → Bool) (n a k : ℕ) → a ≤ k → k < a + n → q k ≡ true → ((j : ℕ) → a ≤ j → j < k → q j ≡ false) → find q (range_with_len a n) ≡ Some k
numbers_some q zero a k low high passes fails = absurd (omega arith)
numbers_some q (suc n) a k low high passes fails = go (q a) refl (λ differs. numbers_some q n (a + 1) k differs (omega arith) passes (λ j from less. fails j (omega arith) less))
  where
    stays : q a ≡ true → a ≡ k
    stays is = elim (leb_tells (suc a) k) [
      | inl less ↦ let not_so = fails a (omega arith) (less.1) in cc
      | inr past ↦ let high = past.1 in omega arith
    ]

    later : q a ≡ false → a + 1 ≤ k
    later is = elim (leb_tells (suc a) k) [
      | inl less ↦ let on = less.1 in omega arith
      | inr past ↦ let high = past.1 in let same : a ≡ k = omega arith in let told = ap q same in cc
    ]

    go : (b : Bool) → q a ≡ b → (a + 1 ≤ k → find q (range_with_len (a + 1) n) ≡ Some k) → cond (q a) (Some a) (find q (range_with_len (a + 1) n)) ≡ Some k
    go true is again = rw is (ap Some (stays is))
    go false is again = rw is (again (later is))

-- a test that only the first number can pass, or only the last
pub at_first : (t : ℕ → Bool) (n : ℕ) (b : Bool) → 1 ≤ n → t 0 ≡ b → find (λ k. nat_eq k 0 && t k) (range_with_len 0 n) ≡ (if b then Some 0 else None)
at_first t n true some is = numbers_some (λ k. nat_eq k 0 && t k) n 0 0 (omega arith) (omega arith) is (λ j low less. absurd (omega arith))
at_first t n false some is = numbers_none (λ k. nat_eq k 0 && t k) n 0 (λ k low high. fails k)
  where
    fails : (k : ℕ) → (nat_eq k 0 && t k) ≡ false
    fails zero = is
    fails (suc k) = let differs : nat_eq (suc k) 0 ≡ false = grind (arith, nat_tests) in rw differs refl

pub at_last : (t : ℕ → Bool) (n last : ℕ) (b : Bool) → n ≡ last + 1 → t last ≡ b → find (λ k. nat_eq (k + 1) n && t k) (range_with_len 0 n) ≡ (if b then Some last else None)
at_last t n last true more is = numbers_some (λ k. nat_eq (k + 1) n && t k) n 0 last (omega arith) (omega arith) (let same : nat_eq (last + 1) n ≡ true = grind (arith, nat_tests) in rw same is) (λ j low less. fails j less)
  where
    fails : (j : ℕ) → j < last → (nat_eq (j + 1) n && t j) ≡ false
    fails j less = let differs : nat_eq (j + 1) n ≡ false = grind (arith, nat_tests) in rw differs refl
at_last t n last false more is = numbers_none (λ k. nat_eq (k + 1) n && t k) n 0 (λ k low high. fails k high)
  where
    fails : (k : ℕ) → k < 0 + n → (nat_eq (k + 1) n && t k) ≡ false
    fails k high = go (nat_eq (k + 1) n) refl
      where
        go : (b : Bool) → nat_eq (k + 1) n ≡ b → (nat_eq (k + 1) n && t k) ≡ false
        go true same = let is_last : k ≡ last = grind (arith, nat_tests) in rw same (ap t is_last ∙ is)
        go false differs = rw differs refl

-- rule by rule
module _ (net : Network) (request : Request) (path : Path) where
  abbrev asked_test : ℕ × AskedRule → Bool
  asked_test at = breaks_request net request path at.1 at.0

  abbrev pub found_of : List AskedRule → Option (ℕ × AskedRule)
  found_of rules = find asked_test (flat_map (λ rule. map (λ k. (k, rule)) (run_numbers path)) rules)

  pub rule_goes_on : (rule : AskedRule) (rules : List AskedRule) → find (breaks_request net request path rule) (run_numbers path) ≡ None → found_of (rule ∷ rules) ≡ found_of rules
  rule_goes_on rule rules none = find_on asked_test (map (λ k. (k, rule)) (run_numbers path)) (flat_map (λ rule. map (λ k. (k, rule)) (run_numbers path)) rules) (find_none asked_test (λ k. (k, rule)) (run_numbers path) none)

  pub rule_stops : (rule : AskedRule) (rules : List AskedRule) (k : ℕ) → find (breaks_request net request path rule) (run_numbers path) ≡ Some k → found_of (rule ∷ rules) ≡ Some (k, rule)
  rule_stops rule rules k some = find_here asked_test (map (λ k. (k, rule)) (run_numbers path)) (flat_map (λ rule. map (λ k. (k, rule)) (run_numbers path)) rules) (k, rule) (find_some asked_test (λ k. (k, rule)) (run_numbers path) k some)

  -- where each rule is broken, or not
  module _ (len : ℕ) (count : len ≡ length path.runs) (some : 1 ≤ length path.runs) where
    abbrev last : ℕ
    last = len - 1

    more : length path.runs ≡ last + 1
    more = omega (arith, count, some)

    pub seven : (b : Bool) → serves net path 0 request.origin ≡ b → find (breaks_request net request path rule_7) (run_numbers path) ≡ (if not b then Some 0 else None)
    seven b is = at_first (λ k. not (serves net path k request.origin)) (length path.runs) (not b) some (ap not is)

    pub eight : (b : Bool) → serves net path last request.destination ≡ b → find (breaks_request net request path rule_8) (run_numbers path) ≡ (if not b then Some last else None)
    eight b is = at_last (λ k. not (serves net path k request.destination)) (length path.runs) last (not b) more (ap not is)

    pub nine : (b : Bool) → is_outside request.depart (run_at path 0).enter ≡ b → find (breaks_request net request path rule_9) (run_numbers path) ≡ (if b then Some 0 else None)
    nine b is = at_first (λ k. is_outside request.depart (run_at path k).enter) (length path.runs) b some is

    pub ten : (b : Bool) → is_outside request.arrive (run_at path (length path.runs - 1)).leave ≡ b → find (breaks_request net request path rule_10) (run_numbers path) ≡ (if b then Some last else None)
    ten b is = at_last (λ k. is_outside request.arrive (run_at path k).leave) (length path.runs) last b more (subst (λ n. is_outside request.arrive (run_at path (n - 1)).leave ≡ b) (sym count) is)

    pub twelve : (b : Bool) → is_same_train path.train request.train ≡ b → find (breaks_request net request path rule_12) (run_numbers path) ≡ (if not b then Some 0 else None)
    twelve b is = at_first (λ k. not (is_same_train path.train request.train)) (length path.runs) (not b) some (ap not is)

    abbrev told : ℕ → ℕ → Option Told
    told run rule = Some (record { run = run; rule = rule })

    abbrev behind_7 : List AskedRule
    behind_7 = rule_8 ∷ rule_9 ∷ rule_10 ∷ rule_11 ∷ rule_12 ∷ []

    abbrev behind_8 : List AskedRule
    behind_8 = rule_9 ∷ rule_10 ∷ rule_11 ∷ rule_12 ∷ []

    abbrev behind_9 : List AskedRule
    behind_9 = rule_10 ∷ rule_11 ∷ rule_12 ∷ []

    abbrev behind_10 : List AskedRule
    behind_10 = rule_11 ∷ rule_12 ∷ []

    pub tell_7 : serves net path 0 request.origin ≡ false → told 0 7 ≡ broken_request net request path
    tell_7 s7 = sym (ap (option_map asked_told) (rule_stops rule_7 behind_7 0 (seven false s7)))

    module _ (s7 : serves net path 0 request.origin ≡ true) where
      past_7 : found_of (rule_7 ∷ behind_7) ≡ found_of behind_7
      past_7 = rule_goes_on rule_7 behind_7 (seven true s7)

      pub tell_8 : serves net path last request.destination ≡ false → told last 8 ≡ broken_request net request path
      tell_8 s8 = sym (ap (option_map asked_told) (past_7 ∙ rule_stops rule_8 behind_8 last (eight false s8)))

      module _ (s8 : serves net path last request.destination ≡ true) where
        past_8 : found_of (rule_7 ∷ behind_7) ≡ found_of behind_8
        past_8 = past_7 ∙ rule_goes_on rule_8 behind_8 (eight true s8)

        pub tell_9 : is_outside request.depart (run_at path 0).enter ≡ true → told 0 9 ≡ broken_request net request path
        tell_9 s9 = sym (ap (option_map asked_told) (past_8 ∙ rule_stops rule_9 behind_9 0 (nine true s9)))

        module _ (s9 : is_outside request.depart (run_at path 0).enter ≡ false) where
          past_9 : found_of (rule_7 ∷ behind_7) ≡ found_of behind_9
          past_9 = past_8 ∙ rule_goes_on rule_9 behind_9 (nine false s9)

          pub tell_10 : is_outside request.arrive (run_at path (length path.runs - 1)).leave ≡ true → told last 10 ≡ broken_request net request path
          tell_10 s10 = sym (ap (option_map asked_told) (past_9 ∙ rule_stops rule_10 behind_10 last (ten true s10)))

          module _ (s10 : is_outside request.arrive (run_at path (length path.runs - 1)).leave ≡ false) where
            past_10 : found_of (rule_7 ∷ behind_7) ≡ found_of behind_10
            past_10 = past_9 ∙ rule_goes_on rule_10 behind_10 (ten false s10)

            pub tell_11 : (run : ℕ) → find (breaks_request net request path rule_11) (run_numbers path) ≡ Some run → told run 11 ≡ broken_request net request path
            tell_11 run s11 = sym (ap (option_map asked_told) (past_10 ∙ rule_stops rule_11 (rule_12 ∷ []) run s11))

            module _ (s11 : find (breaks_request net request path rule_11) (run_numbers path) ≡ None) where
              past_11 : found_of (rule_7 ∷ behind_7) ≡ found_of (rule_12 ∷ [])
              past_11 = past_10 ∙ rule_goes_on rule_11 (rule_12 ∷ []) s11

              pub tell_12 : ¬ (path.train ≡ request.train) → told 0 12 ≡ broken_request net request path
              tell_12 s12 = sym (ap (option_map asked_told) (past_11 ∙ rule_stops rule_12 [] 0 (twelve false (when_false _ (same_train_tells path.train request.train) s12))))

              pub tell_none : path.train ≡ request.train → None ≡ broken_request net request path
              tell_none s12 = sym (ap (option_map asked_told) (past_11 ∙ rule_goes_on rule_12 [] (twelve true ((same_train_tells path.train request.train).1 s12))))

-- the stops, run by run
module _ (net : Network) (request : Request) (path : Path) (k : ℕ) (within : k < length path.runs) where
  abbrev other : ℕ → Bool
  other = breaks_request net request path rule_11

  pub stop_found : other k ≡ true → find other (range_with_len k (length path.runs - k)) ≡ find other (run_numbers path) → Some k ≡ find other (run_numbers path)
  stop_found is rest = sym (rw (range_on k (length path.runs) within) (rw is refl)) ∙ rest

  pub stop_kept : other k ≡ false → find other (range_with_len k (length path.runs - k)) ≡ find other (run_numbers path) → find other (range_with_len (k + 1) (length path.runs - (k + 1))) ≡ find other (run_numbers path)
  stop_kept is rest = sym (rw (range_on k (length path.runs) within) (rw is refl)) ∙ rest

  pub one_stop_more : (run_at path k).stops ≡ true → stops_before path (k + 1) ≡ stops_before path k + 1
  one_stop_more stops = count_by_more_yes (λ run. run.stops) path.runs k _ within stops

  pub no_stop_more : (run_at path k).stops ≡ false → stops_before path (k + 1) ≡ stops_before path k
  no_stop_more passes = count_by_more_no (λ run. run.stops) path.runs k _ within passes
