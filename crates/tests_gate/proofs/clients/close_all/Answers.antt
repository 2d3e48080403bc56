use Rattle.std.proofs.Common.{◌≡◌, ℕ, ◌-◌, List, All, length, sym, ap, ◌∙◌, subst, arith}
use Rattle.book_gate.specs.declared.views.Mark.{Mark}
use Rattle.book_gate.specs.declared.views.Turn.{Turn}
use Rattle.book_gate.specs.Passes.{view, opened}
use Rattle.book_gate.specs.Views.{IsChain, positions}
use Rattle.tests_gate.specs.declared.numbers.Numbers.{Numbers}
use Rattle.tests_gate.specs.Books.{AddsOne}
use Rattle.tests_gate.proofs.Tally.{chain_adds}
use Rattle.tests_gate.proofs.clients.close_all.Goals as goal

mark : Numbers → Mark
mark b = record { entries = length b.list.items; settled = length b.list.items; count = b.refused }

pub returns-clause-history : goal.returns-clause-history
unfolding mark
returns-clause-history c =
    let same = c.meet-served.ensures.same in
    let empty : length (opened c.args.gate).list.items ≡ 0 = ap length c.requires.empty.0 in
    let none_less : length c.close.result.list.items - 0 ≡ length c.close.result.list.items = omega arith in
    let start : mark (opened c.args.gate) ≡ record { entries = 0; settled = 0; count = 0 } = λ i. record { entries = empty i; settled = empty i; count = c.requires.empty.1 i } in (
      (view c.meet-served.new.pass).turns,
      ap (λ v. length v.turns) same ∙ sym (c.meet-served.ensures.all c.requires.whole),
      c.close.ensures.own_entries ∙ ap (λ (n : ℕ). positions n (length c.close.result.list.items - n)) empty ∙ ap (positions 0) none_less,
      subst (λ (m : Mark). IsChain 0 m (view c.meet-served.new.pass).turns (mark c.close.result)) start c.close.ensures.chain,
    )

pub returns-clause-book : goal.returns-clause-book
unfolding mark
returns-clause-book c added =
    let same = c.meet-served.ensures.same in
    let empty : length (opened c.args.gate).list.items ≡ 0 = ap length c.requires.empty.0 in
    let none = c.requires.empty.1 in
    let all = c.meet-served.ensures.all c.requires.whole in
    let taken : List Turn = (view c.meet-served.new.pass).turns in
    let as_many : length taken ≡ length (view c.args.pass).turns = ap (λ v. length v.turns) same in
    let sum = chain_adds 0 (mark (opened c.args.gate)) (mark c.close.result) taken c.close.ensures.chain (subst (λ v. All AddsOne v.turns) (sym same) added) (let below = c.meet-served.type_inv in omega arith) in
    omega arith
