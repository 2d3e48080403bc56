-- Texts without a colon.
use Rattle.std.proofs.Common.{◌≡◌, ◌≢◌, ℕ, zero, suc, ◌<◌, ◌^◌, ℤ, pos, negsuc, true, not, nat_eq, List, [], ◌∷◌, codes, decimal, arith, refl}
use Rattle.std.specs.Fmt.{signed_decimal}
use Rattle.std.specs.List.{list_all}
use Rattle.std.specs.Str.Parse.{AllDigits}
use Rattle.std.proofs.lemmas.Bool.Decides.{nat_tests}
use Rattle.std.proofs.lemmas.Grind.{common_steps}
use Rattle.std.proofs.lemmas.Fmt.{decimal_is_IsNumeral}
use Rattle.std.proofs.lemmas.Int.{ints}
use Rattle.std.proofs.lemmas.Str.Parse.{digit_from_value}
use Rattle.rail_types.specs.Limits.{IsTick}
use Rattle.command_line.specs.Spelling.{Lacks}
use Rattle.command_line.specs.Rules.{IsKindWithinLimits, tag_of, value_text, with_colon}
use Rattle.command_line.specs.declared.rule_words.kinds.RuleKind.{RuleKind}
use Rattle.command_line.specs.declared.rule_words.kinds.RuleKind.TheVariants.{Quota, Curfew, Longest}

lacks_none : (byte : ℕ) → Lacks byte []
lacks_none byte i within = absurd (omega (arith, within))

lacks_more : (byte first : ℕ) (bytes : List ℕ) → first ≢ byte → Lacks byte bytes → Lacks byte (first ∷ bytes)
lacks_more byte first bytes other lacks zero within = other
lacks_more byte first bytes other lacks (suc i) within = lacks i (omega (arith, within))

-- no digit is a colon
digits_lack : (digits : List ℕ) → AllDigits 10 digits → Lacks 58 digits
digits_lack [] all = lacks_none 58
digits_lack (digit ∷ digits) all = lacks_more 58 digit digits (λ is. omega (arith, digit_from_value digit all.0, is)) (digits_lack digits all.1)

number_lacks : (n : ℕ) → n < 2 ^ 64 → Lacks 58 (decimal n)
number_lacks n small = digits_lack (decimal n) (decimal_is_IsNumeral n small).0.1

-- no byte of a tick's text is a colon
pub tick_lacks : (tick : ℤ) → IsTick tick → Lacks 58 (signed_decimal tick)
tick_lacks (pos n) within = number_lacks n (omega (arith, ints, within.1))
tick_lacks (negsuc n) within = lacks_more 58 45 (decimal (suc n)) (λ is. omega (arith, is)) (number_lacks (suc n) (omega (arith, ints, within.0)))

-- bytes that pass a test for others lack a byte
others_lack : (byte : ℕ) (bytes : List ℕ) → list_all (λ other. not (nat_eq other byte)) bytes ≡ true → Lacks byte bytes
others_lack byte [] all = lacks_none byte
others_lack byte (first ∷ bytes) all = lacks_more byte first bytes (λ is. grind (arith, nat_tests, common_steps, is, all)) (others_lack byte bytes (grind (arith, common_steps, all)))

-- what a rule is called has no colon
pub tag_lacks : (kind : RuleKind) → Lacks 58 (tag_of kind)
tag_lacks (Quota limit) = others_lack 58 (codes "quota") refl
tag_lacks (Curfew from to) = others_lack 58 (codes "curfew") refl
tag_lacks (Longest metres) = others_lack 58 (codes "longest") refl

-- the ticks of a curfew
pub record IsCurfew (kind : RuleKind) : Type 0 where
  pub from : ℤ
  pub to : ℤ
  pub from_within : IsTick from
  pub to_within : IsTick to
  pub value_is : value_text kind ≡ with_colon (signed_decimal from) (signed_decimal to)

-- what is called a curfew is one
pub called_curfew : (kind : RuleKind) → IsKindWithinLimits kind → tag_of kind ≡ codes "curfew" → IsCurfew kind
called_curfew (Quota limit) within called = absurd cc
called_curfew (Curfew from to) within called = record { from = from; to = to; from_within = within.0; to_within = within.1; value_is = refl }
called_curfew (Longest metres) within called = absurd cc
