-- The rules in their order, and the numbers of runs.
use Rattle.std.proofs.Common.{◌≡◌, ◌∙◌, refl, ℕ, zero, suc, ◌+◌, ◌-◌, ◌<◌, ◌≤◌, length, get_or, arith}
use Rattle.std.proofs.lemmas.List.FromFn.{get_or-range_with_len, length-range_with_len}
use Rattle.rail_types.specs.declared.paths.Path.{Path}
use Rattle.blocking_time.specs.Runs.{run_numbers}
use Rattle.blocking_time.specs.Rules.{AskedRule, RunRule, rule_1, rule_2, rule_3, rule_4, rule_5, rule_6, rule_7, rule_8, rule_9, rule_10, rule_11, rule_12}
use Rattle.blocking_time.specs.Broken.{asked_rule_number, asked_rules, run_rule_number, run_rules}

pub run_rule_at : (rule : RunRule) (d : RunRule) → get_or run_rules (run_rule_number rule - 1) d ≡ rule
run_rule_at rule_1 d = refl
run_rule_at rule_2 d = refl
run_rule_at rule_3 d = refl
run_rule_at rule_4 d = refl
run_rule_at rule_5 d = refl
run_rule_at rule_6 d = refl

pub run_rule_from : (rule : RunRule) → (1 ≤ run_rule_number rule) × (run_rule_number rule ≤ 6)
run_rule_from rule_1 = (omega arith, omega arith)
run_rule_from rule_2 = (omega arith, omega arith)
run_rule_from rule_3 = (omega arith, omega arith)
run_rule_from rule_4 = (omega arith, omega arith)
run_rule_from rule_5 = (omega arith, omega arith)
run_rule_from rule_6 = (omega arith, omega arith)

pub run_rule_rank : (place : ℕ) (d : RunRule) → place < 6 → run_rule_number (get_or run_rules place d) ≡ place + 1
run_rule_rank zero d within = refl
run_rule_rank (suc zero) d within = refl
run_rule_rank (suc (suc zero)) d within = refl
run_rule_rank (suc (suc (suc zero))) d within = refl
run_rule_rank (suc (suc (suc (suc zero)))) d within = refl
run_rule_rank (suc (suc (suc (suc (suc zero))))) d within = refl
run_rule_rank (suc (suc (suc (suc (suc (suc place)))))) d within = absurd (omega arith)

pub asked_rule_at : (rule : AskedRule) (d : AskedRule) → get_or asked_rules (asked_rule_number rule - 7) d ≡ rule
asked_rule_at rule_7 d = refl
asked_rule_at rule_8 d = refl
asked_rule_at rule_9 d = refl
asked_rule_at rule_10 d = refl
asked_rule_at rule_11 d = refl
asked_rule_at rule_12 d = refl

pub asked_rule_from : (rule : AskedRule) → (7 ≤ asked_rule_number rule) × (asked_rule_number rule ≤ 12)
asked_rule_from rule_7 = (omega arith, omega arith)
asked_rule_from rule_8 = (omega arith, omega arith)
asked_rule_from rule_9 = (omega arith, omega arith)
asked_rule_from rule_10 = (omega arith, omega arith)
asked_rule_from rule_11 = (omega arith, omega arith)
asked_rule_from rule_12 = (omega arith, omega arith)

pub asked_rule_rank : (place : ℕ) (d : AskedRule) → place < 6 → asked_rule_number (get_or asked_rules place d) ≡ place + 7
asked_rule_rank zero d within = refl
asked_rule_rank (suc zero) d within = refl
asked_rule_rank (suc (suc zero)) d within = refl
asked_rule_rank (suc (suc (suc zero))) d within = refl
asked_rule_rank (suc (suc (suc (suc zero)))) d within = refl
asked_rule_rank (suc (suc (suc (suc (suc zero))))) d within = refl
asked_rule_rank (suc (suc (suc (suc (suc (suc place)))))) d within = absurd (omega arith)

-- the numbers of runs
pub number_at : (path : Path) (k d : ℕ) → k < length path.runs → get_or (run_numbers path) k d ≡ k
number_at path k d within = get_or-range_with_len 0 (length path.runs) k d within ∙ omega arith

pub numbers_count : (path : Path) → length (run_numbers path) ≡ length path.runs
numbers_count path = length-range_with_len 0 (length path.runs)
