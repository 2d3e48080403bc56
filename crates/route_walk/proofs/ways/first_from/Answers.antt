use Rattle.std.proofs.Common.{rules, of_calls, ◌≡◌, ℕ, List, get_or, nat_lt, true, false, sym, subst, inl, inr, arith, ◌<◌}
use Rattle.std.specs.List.Sorted.{IsPartitionPoint, IsPartitionedBy}
use Rattle.std.proofs.lemmas.Bool.{cases_order, ltb-true, ltb-false, lt-ltb}
use Rattle.std.proofs.lemmas.Fn.{always_returns_same}
use Rattle.std.specs.List.{AllPairs}
use Rattle.rail_types.specs.declared.infra_types.switches.Way.{Way}
use Rattle.route_walk.proofs.ways.first_from.Goals as goal

parted : (ways : List Way) (switch : ℕ) → AllPairs (λ one later. one.switch < later.switch) ways → IsPartitionedBy (λ (way : Way). nat_lt way.switch switch) ways
parted ways switch ascend i j d less within test = elim (cases_order i j) [
  | inl same ↦ subst (λ (q : ℕ). nat_lt (get_or ways q d).switch switch ≡ true) (sym same) test
  | inr apart ↦ elim apart [
    | inl before ↦ (let up = ascend i j d before within in let low = ltb-true (get_or ways j d).switch switch test in lt-ltb (get_or ways i d).switch switch (omega arith))
    | inr behind ↦ absurd (omega arith)
  ]
]

point : (c : goal.After-partition_point) → IsPartitionPoint (λ (way : Way). nat_lt way.switch c.args.switch ≡ true) (λ (way : Way). nat_lt way.switch c.args.switch ≡ false) c.args.ways.now c.partition_point.result
point c = c.partition_point.ensures.partitioned (λ way. nat_lt way.switch c.args.switch) (always_returns_same _ _ _ (λ a r f k. search (rules, of_calls))) (parted c.args.ways.now c.args.switch c.requires)

pub returns-clause-before : goal.returns-clause-before
returns-clause-before c k d low high = ltb-true _ _ ((point c).0 k d low high)

pub returns-clause-after : goal.returns-clause-after
returns-clause-after c k d low high = ltb-false _ _ ((point c).1 k d low high)
