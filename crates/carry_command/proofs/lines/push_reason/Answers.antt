use Rattle.std.proofs.Common.{◌≡◌, ◌∙◌, ◌++◌, List, ℕ, codes, OnOk, sym, ap, subst}
use Rattle.carry_command.specs.Lines.{reason_text, said}
use Rattle.carry_command.proofs.lines.push_reason.Goals as goal

pub returns-in-Breaks : goal.returns-in-Breaks
returns-in-Breaks c =
    let same : said (codes " breaks run ") c.from-in-Breaks.result ++ said (codes " rule ") c.from-in-Breaks-2.result ≡ reason_text c.args.reason.now =
    (λ i. said (codes " breaks run ") (c.from-in-Breaks.ensures i) ++ said (codes " rule ") (c.from-in-Breaks-2.ensures i)) ∙ ap reason_text (sym c.in-Breaks.is) in
    subst (λ (text : List ℕ). OnOk c.push_both-in-Breaks.result (c.push_both-in-Breaks.new.to.held ≡ c.args.to.now.held ++ text)) same c.push_both-in-Breaks.ensures
