use Rattle.std.proofs.Common.{rules, of_calls}
use Rattle.std.proofs.lemmas.Fn.{always_returns_same}
use Rattle.refusal_proof.specs.declared.labels.Label.{Label}
use Rattle.refusal_proof.proofs.Numbering.{sorted_pairs}
use Rattle.refusal_proof.proofs.labels.sort_by_number.Goals as goal

pub returns-clause-sorted : goal.returns-clause-sorted
returns-clause-sorted c = sorted_pairs c.sort_unstable_by_key.new.self.items (c.sort_unstable_by_key.ensures.sorted (λ (one : Label). (one.number, one.window.from)) (always_returns_same _ _ _ (λ a r f k. search (rules, of_calls))))
