-- A list comes to one flaw at most.
use Rattle.std.proofs.Common.{◌≡◌, ◌∙◌, ap, sym, subst, ℕ, ◌<◌, ◌⊎◌, inl, inr, ⊎_elim, true≢false}
use Rattle.std.proofs.Common.{List, [], None, Option, Some, arith}
use Rattle.batch_command.specs.Flaws.{needed_line, no_ask_line, twice_line}
use Rattle.served_clients.specs.lines.Names.{Names}
use Rattle.batch_command.specs.Asks.{first_no_ask}
use Rattle.batch_command.specs.Numbers.{first_repeat, NumbersAreOne}
use Rattle.rail_types.specs.declared.entries.Entry.{Entry}
use Rattle.batch_command.specs.Owners.{AreEnough, IsNeeded}
use Rattle.batch_command.specs.Asked.{HasNeed, HasTwice, IsAsked, IsFlaw}

none_some : {X : Type 0} (found : Option X) (x : X) → found ≡ None → found ≡ Some x → ⊥
none_some found x none some = cc

same_some : (found : Option ℕ) (x y : ℕ) → found ≡ Some x → found ≡ Some y → x ≡ y
same_some found x y one other = cc

which : (a b : ℕ) → (a ≡ b) ⊎ ((a < b) ⊎ (b < a))
which a b = grind arith

module _ (entries : List Entry) (batch : List ℕ) (workers : ℕ) (numbers : List (Option ℕ)) where
  later_not_needed : (a b : ℕ) → IsNeeded entries batch workers numbers a → IsNeeded entries batch workers numbers b → a < b → ⊥
  later_not_needed a b one other less = true≢false (sym other.needed ∙ one.last b less other.within)

  last_needed : (a b : ℕ) → IsNeeded entries batch workers numbers a → IsNeeded entries batch workers numbers b → a ≡ b
  last_needed a b one other =
      ⊎_elim (λ (same : a ≡ b). same)
      (λ (apart : (a < b) ⊎ (b < a)). absurd (⊎_elim (λ (less : a < b). later_not_needed a b one other less) (λ (less : b < a). later_not_needed b a other one less) apart))
      (which a b)

  not_enough : (worker : ℕ) → AreEnough entries batch workers numbers → IsNeeded entries batch workers numbers worker → ⊥
  not_enough worker enough needed = true≢false (sym needed.needed ∙ enough worker needed.behind needed.within)

module _ (numbered : NumbersAreOne) (known : Names) (batch : List ℕ) (workers : ℕ) (entries : List Entry) (lines : List (List ℕ)) where
  repeat_twice : (n m : ℕ) → HasTwice known lines n → HasTwice known lines m → n ≡ m
  repeat_twice n m one other =
      let same = numbered known lines one.numbers other.numbers one.numbered other.numbered in
      same_some (first_repeat [] other.numbers) n m (ap (first_repeat []) (sym same) ∙ one.repeats) other.repeats

  twice_need : (n w : ℕ) → HasTwice known lines n → HasNeed known batch workers entries lines w → ⊥
  twice_need n w one other =
      let same = numbered known lines one.numbers other.numbers one.numbered other.numbered in
      none_some (first_repeat [] other.numbers) n other.differ (ap (first_repeat []) (sym same) ∙ one.repeats)

  need_twice : (w v : ℕ) → HasNeed known batch workers entries lines w → HasNeed known batch workers entries lines v → w ≡ v
  need_twice w v one other =
      let same = numbered known lines one.numbers other.numbers one.numbered other.numbered in
      last_needed entries batch workers other.numbers w v (subst (λ ns. IsNeeded entries batch workers ns w) same one.needed) other.needed

  pub one_flaw : (told other : List ℕ) → IsFlaw known batch workers entries lines told → IsFlaw known batch workers entries lines other → told ≡ other
  one_flaw told other (inl a) (inl b) = a.2 ∙ (ap no_ask_line (same_some (first_no_ask 1 lines) a.0 b.0 a.1.first b.1.first) ∙ sym b.2)
  one_flaw told other (inl a) (inr (inl b)) = absurd (none_some (first_no_ask 1 lines) a.0 b.1.asks a.1.first)
  one_flaw told other (inl a) (inr (inr b)) = absurd (none_some (first_no_ask 1 lines) a.0 b.1.asks a.1.first)
  one_flaw told other (inr (inl a)) (inl b) = absurd (none_some (first_no_ask 1 lines) b.0 a.1.asks b.1.first)
  one_flaw told other (inr (inl a)) (inr (inl b)) = a.2 ∙ (ap twice_line (repeat_twice a.0 b.0 a.1 b.1) ∙ sym b.2)
  one_flaw told other (inr (inl a)) (inr (inr b)) = absurd (twice_need a.0 b.0 a.1 b.1)
  one_flaw told other (inr (inr a)) (inl b) = absurd (none_some (first_no_ask 1 lines) b.0 a.1.asks b.1.first)
  one_flaw told other (inr (inr a)) (inr (inl b)) = absurd (twice_need b.0 a.0 b.1 a.1)
  one_flaw told other (inr (inr a)) (inr (inr b)) = a.2 ∙ (ap needed_line (need_twice a.0 b.0 a.1 b.1) ∙ sym b.2)

  pub no_flaw : (numbers : List (Option ℕ)) (told : List ℕ) → IsAsked known batch workers entries lines numbers → IsFlaw known batch workers entries lines told → ⊥
  no_flaw numbers told asked (inl a) = none_some (first_no_ask 1 lines) a.0 asked.asks a.1.first
  no_flaw numbers told asked (inr (inl a)) =
      let same = numbered known lines numbers a.1.numbers asked.numbered a.1.numbered in
      none_some (first_repeat [] a.1.numbers) a.0 (ap (first_repeat []) (sym same) ∙ asked.differ) a.1.repeats
  no_flaw numbers told asked (inr (inr a)) =
      let same = numbered known lines numbers a.1.numbers asked.numbered a.1.numbered in
      not_enough entries batch workers a.1.numbers a.0 (subst (λ ns. AreEnough entries batch workers ns) same asked.enough) a.1.needed
