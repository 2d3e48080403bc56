use Rattle.std.proofs.Common.{ℕ, ◌≡◌, ◌++◌, ◌∷◌, [], List, get_or, sym, ◌∙◌, subst, take}
use Rattle.std.proofs.lemmas.List.{get_or_default, take_more}
use Rattle.batch_command.specs.Numbers.{AreNumbered, IsNumbered}
use Rattle.batch_command.proofs.Numbered.{numbered_more}
use Rattle.batch_command.proofs.list_lines.numbers.numbers_of.Goals as goal

pub loop-line-preserved : goal.loop-line-preserved
loop-line-preserved c =
    let known = c.args.known.now in let lines : List (List ℕ) = c.args.lines.now in let at = c.loop-line.line-index in
    let line : List ℕ = get_or lines at [] in let number = c.in_ok-number.number in
    let same : c.as_bytes.result.now ≡ line = c.as_bytes.ensures ∙ (c.line-item.is ∙ get_or_default lines at c.line-item.result [] c.loop-line-test.true) in
    let one : IsNumbered known line number = subst (λ l. IsNumbered known l number) same c.in_ok-number.ensures in
    subst (λ l. AreNumbered known l c.push.new.self.items) (sym (take_more lines at [] c.loop-line-test.true))
    (subst (AreNumbered known (take at lines ++ line ∷ [])) (sym c.in_ok-push.ensures.items)
    (numbered_more known (take at lines) c.loop-line.numbers.items line number c.loop-line.invariant one))
